-- Planning: checks 1, 26, 1 and 2 to 8 in this order, what it answers, and what it leaves in the lists that it is lent. Assumes nothing.
use Rattle.std.specs.Prelude.{ℕ, zero, suc, ◌*◌, Bool, List, [], ◌∷◌, ◌++◌, length, drop, replicate, eqb}
use Rattle.lists.specs.Bool.{every}
use Rattle.lists.specs.Refusals.{Check, check, refusal}
use Rattle.grid.specs.Cells.{before}
use Rattle.grid.specs.Mesh.{Mesh, cells_of, mesh_checks}
use Rattle.numbers.specs.Ranges.{within}
use Rattle.function.specs.declared.Elements.{Elements}
use Rattle.function.specs.Elements.{cell_dim, dims_right, Space}
use Rattle.dof_numbering.specs.Numbering.{dof_list, dof_count, owner_list}
use Rattle.function.specs.Colours.{colour_list}
use Rattle.integrands.specs.declared.Integrand.{Integrand}
use Rattle.integrands.specs.Terms.{integrand_right}
use Rattle.cell_pairs.specs.declared.WorkRecord.{WorkRecord}
use Rattle.cell_pairs.specs.Records.{width, flat}
use Rattle.cell_pairs.specs.Patterns.{patterns_right}
use Rattle.cell_pairs.specs.WorkList.{most_batch, work_list, sharing_pairs, sharing_of, distant_pairs}
use Rattle.plans.specs.declared.KindPairs.{KindPairs}
use Rattle.plans.specs.declared.PlanNumbers.{PlanNumbers}

-- What planning is given
pub record Planning : Type 0 where
  pub mesh : Mesh
  pub test : Elements
  pub trial : Elements
  pub batch : ℕ
  pub integrand : Integrand

-- The lists that it is lent to write: each side has its own DOF, colour and owner list
pub record Lists : Type 0 where
  pub test_dofs : List ℕ
  pub trial_dofs : List ℕ
  pub test_colours : List ℕ
  pub trial_colours : List ℕ
  pub test_owners : List ℕ
  pub trial_owners : List ℕ
  pub work : List ℕ

-- What it answers: its numbers, or the number of a refusal
pub data Planned : Type 0 where
  ready : PlanNumbers → Planned
  refused : ℕ → Planned

-- from the arguments of a call
abbrev pub planning_of : Mesh → Elements → Elements → ℕ → Integrand → Planning
planning_of m test trial B f = record { mesh = m; test = test; trial = trial; batch = B; integrand = f }

abbrev pub lists_of : List ℕ → List ℕ → List ℕ → List ℕ → List ℕ → List ℕ → List ℕ → Lists
lists_of test_dofs trial_dofs test_colours trial_colours test_owners trial_owners work =
    record {
      test_dofs = test_dofs;
      trial_dofs = trial_dofs;
      test_colours = test_colours;
      trial_colours = trial_colours;
      test_owners = test_owners;
      trial_owners = trial_owners;
      work = work;
    }

-- how many DOFs the C cells of these kinds have together, by their own dims: the length of a DOF list
abbrev pub dof_places : ℕ → List ℕ → Elements → ℕ
dof_places C ks es = before (cell_dim es) ks C

abbrev pub places_on : Mesh → Elements → ℕ
places_on m es = dof_places m.cells m.kinds es

-- lists of the right lengths
abbrev pub lists_for : Planning → Lists
lists_for x =
    let C = x.mesh.cells in
    lists_of (replicate (places_on x.mesh x.test) 0) (replicate (places_on x.mesh x.trial) 0) (replicate C 0) (replicate C 0)
    (replicate (3 * places_on x.mesh x.test) 0)
    (replicate (3 * places_on x.mesh x.trial) 0)
    (replicate (width * (C * C)) 0)

-- elements on the mesh
abbrev pub space_on : Mesh → Elements → Space
space_on m es = record { kinds = m.kinds; cell_vertices = m.cell_vertices; cell_edges = m.cell_edges; elements = es }

abbrev pub test_space : Planning → Space
test_space x = space_on x.mesh x.test

abbrev pub trial_space : Planning → Space
trial_space x = space_on x.mesh x.trial

-- ---- the checks

-- 5: batch is from 1 to 65,535
unfoldable pub batch_right : ℕ → Bool
batch_right B = within 1 most_batch B

-- 8: DOF lists are as long as the cells' own dims add up to, owner lists three times that, colours C, the work list 3·C·C
unfoldable pub lengths_right : Mesh → Elements → Elements → Lists → Bool
lengths_right m test trial l =
    every (eqb (length l.test_dofs) (places_on m test)
    ∷ eqb (length l.trial_dofs) (places_on m trial)
    ∷ eqb (length l.test_colours) m.cells
    ∷ eqb (length l.trial_colours) m.cells
    ∷ eqb (length l.test_owners) (3 * places_on m test)
    ∷ eqb (length l.trial_owners) (3 * places_on m trial)
    ∷ eqb (length l.work) (width * (m.cells * m.cells))
    ∷ [])

-- 4: the elements, on the kinds present
abbrev pub elements_fit : Planning → Bool
elements_fit x = dims_right (cells_of x.mesh.kinds 3) (cells_of x.mesh.kinds 4) x.test x.trial

-- planning checks 1, 26, 1, then 2 to 8, in this order
abbrev pub plan_checks : Planning → Lists → List Check
plan_checks x l =
    mesh_checks x.mesh
    ++ check 4 (elements_fit x)
    ∷ check 5 (batch_right x.batch)
    ∷ check 6 (integrand_right x.integrand)
    ∷ check 7 (patterns_right x.mesh)
    ∷ check 8 (lengths_right x.mesh x.test x.trial l)
    ∷ []

-- the first that turns the call down, or 0
unfoldable pub plan_refusal : Planning → Lists → ℕ
plan_refusal x l = refusal (plan_checks x l)

-- ---- what is handed back

-- the records of the work list
abbrev pub work_records : Planning → List WorkRecord
work_records x = work_list x.mesh x.batch (colour_list (test_space x) x.mesh.cells) (colour_list (trial_space x) x.mesh.cells)

-- the touching pairs per two kinds
abbrev pub kind_pairs : Mesh → KindPairs
kind_pairs m =
    record { triangle_triangle = sharing_of m 3 3; triangle_quad = sharing_of m 3 4; quad_triangle = sharing_of m 4 3; quad_quad = sharing_of m 4 4 }

unfoldable pub plan_numbers : Planning → PlanNumbers
plan_numbers x =
    record {
      cells = x.mesh.cells;
      vertices = x.mesh.vertices;
      edges = x.mesh.edges;
      triangles = cells_of x.mesh.kinds 3;
      quads = cells_of x.mesh.kinds 4;
      touching = sharing_pairs x.mesh;
      distant = distant_pairs x.mesh;
      pairs = kind_pairs x.mesh;
      rows = dof_count (test_space x) x.mesh.cells;
      columns = dof_count (trial_space x) x.mesh.cells;
      test = x.test;
      trial = x.trial;
      integrand = x.integrand;
    }

-- 0 is no refusal
abbrev pub plan_answer : ℕ → PlanNumbers → Planned
plan_answer zero p = ready p
plan_answer (suc n) p = refused (suc n)

unfoldable pub plan : Planning → Lists → Planned
plan x l = plan_answer (plan_refusal x l) (plan_numbers x)

-- the paper's number of an answer: 0 where nothing is turned down
abbrev pub planned_number : Planned → ℕ
planned_number (ready p) = 0
planned_number (refused n) = n

-- ---- what is written

-- what a list holds after a call with that refusal: a refusal writes nothing
abbrev pub unless_refused : {A : Type 0} → ℕ → A → A → A
unless_refused zero new old = new
unless_refused (suc n) new old = old

-- the tail of an owner list past the last record stays
unfoldable pub written_lists : Planning → Lists → Lists
written_lists x l =
    let C = x.mesh.cells in
    record {
      test_dofs = dof_list (test_space x) C;
      trial_dofs = dof_list (trial_space x) C;
      test_colours = colour_list (test_space x) C;
      trial_colours = colour_list (trial_space x) C;
      test_owners = owner_list (test_space x) C ++ drop (3 * dof_count (test_space x) C) l.test_owners;
      trial_owners = owner_list (trial_space x) C ++ drop (3 * dof_count (trial_space x) C) l.trial_owners;
      work = flat (work_records x);
    }

-- the lists after the call
unfoldable pub plan_lists : Planning → Lists → Lists
plan_lists x l = unless_refused (plan_refusal x l) (written_lists x l) l
