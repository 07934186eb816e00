-- What is promised of every planning that is accepted, said of what it answers (`plan x l`) and of what stands in the lent lists afterwards (`plan_lists x l`).
-- Assumes nothing.
use Rattle.std.specs.Prelude.{ℕ, ◌+◌, ◌*◌, ◌≤◌, ◌<◌, ◌≡◌, true, List, [], ◌∷◌, length, get_or, drop}
use Rattle.lists.specs.Total.{count}
use Rattle.grid.specs.Cells.{before}
use Rattle.function.specs.Elements.{cell_dim, Space}
use Rattle.dof_numbering.specs.Numbering.{visits, dimension_of, entity_of, dofs_on, same_entity, kind, visits_in, visit_of, dof_place}
use Rattle.function.specs.Colours.{sharing}
use Rattle.cell_pairs.specs.Records.{rec, width, records_of}
use Rattle.cell_pairs.specs.WorkList.{sharing_pairs, distant_pairs}
use Rattle.cell_pairs.specs.WorkRecords.{of_pair, Distant, Touching}
use Rattle.grid.specs.Mesh.{Mesh, cells_of}
use Rattle.plans.specs.declared.PlanNumbers.{PlanNumbers}
use Rattle.plans.specs.Planning.{Planning, Lists, kind_pairs, test_space, trial_space, work_records, plan_lists}

-- ---- the work list, of which the first N records are distant

pub record Listed (m : Mesh) (N : ℕ) (work : List ℕ) : Type 0 where
  -- it is 3·C·C numbers long, C·C records
  pub long : length work ≡ width * (m.cells * m.cells)
  pub records_long : length (records_of work) ≡ m.cells * m.cells
  -- each ordered pair of cells stands in it exactly once
  pub each_once : (i j : ℕ) → i < m.cells → j < m.cells → count (of_pair i j) (records_of work) ≡ 1
  -- and nothing else: the first N records are of two cells of the mesh that share no vertex, with the pattern 255
  pub distant : (k : ℕ) → k < N → Distant m (get_or (records_of work) k (rec 0 0 0))
  -- the others of two cells of the mesh that share one, with their own pattern, 0 to 148
  pub touching : (k : ℕ) → N ≤ k → k < m.cells * m.cells → Touching m (get_or (records_of work) k (rec 0 0 0))

-- ---- DOFs, colours and owners of the elements on C cells. Place p of cell i, first its vertices, then its edges, then its interior, is visit
-- `visit_of s i p`, and the DOFs of that place begin at `dof_place s i p` of the DOF list

-- how many DOFs the cells before cell i have together
abbrev pub cells_dofs : Space → ℕ → ℕ
cells_dofs s i = before (cell_dim s.elements) s.kinds i

pub record Spaced (s : Space) (C count : ℕ) (dofs colours owners before : List ℕ) : Type 0 where
  -- as many as the cells' own dims add up to
  pub dofs_long : length dofs ≡ cells_dofs s C
  -- every DOF number is below the count, which is at most that, and each number below it is used
  pub dofs_below_holds : (k : ℕ) → k < cells_dofs s C → get_or dofs k 0 < count
  pub dofs_few : count ≤ cells_dofs s C
  pub dofs_used : (n : ℕ) → n < count → (k : ℕ) × (k < cells_dofs s C) × (get_or dofs k 0 ≡ n)
  -- no DOF number stands twice in one cell
  pub dofs_differ : (i a b : ℕ) → i < C → a < cell_dim s.elements (kind s i) → b < cell_dim s.elements (kind s i)
      → get_or dofs (cells_dofs s i + a) 0 ≡ get_or dofs (cells_dofs s i + b) 0 → a ≡ b
  -- cells that share an entity share its DOFs
  pub dofs_shared : (i p j r q : ℕ) → i < C → p < visits_in (kind s i) → j < C → r < visits_in (kind s j) → same_entity (visits s C) (visit_of s i p) (visit_of s j r) ≡ true
      → q < dofs_on (visits s C) (visit_of s i p) → get_or dofs (dof_place s i p + q) 0 ≡ get_or dofs (dof_place s j r + q) 0
  -- the owner record of a DOF names dimension, entity and place on it
  pub owners_named : (i p q d : ℕ) → i < C → p < visits_in (kind s i) → q < dofs_on (visits s C) (visit_of s i p) → d < 3
      → get_or owners (3 * get_or dofs (dof_place s i p + q) 0 + d) 0
      ≡ get_or (dimension_of (visits s C) (visit_of s i p) ∷ entity_of (visits s C) (visit_of s i p) ∷ q ∷ []) d 0
  -- the tail past the last record stays
  pub owners_tail : drop (3 * count) owners ≡ drop (3 * count) before
  -- one colour a cell, and two cells that share an entity of the colouring dimension have different ones
  pub colours_long : length colours ≡ C
  pub colours_differ : (i j : ℕ) → i < C → j < C → (i ≡ j → ⊥) → sharing s i j ≡ true → get_or colours i 0 ≡ get_or colours j 0 → ⊥

-- ---- all of it

pub record Promised (x : Planning) (l : Lists) (n : PlanNumbers) : Type 0 where
  -- sizes, elements and integrand are those that planning was given, the element of a kind that is not present as it was
  pub sizes : (n.cells ≡ x.mesh.cells) × (n.vertices ≡ x.mesh.vertices) × (n.edges ≡ x.mesh.edges)
  pub elements : (n.test ≡ x.test) × (n.trial ≡ x.trial)
  pub integrand : n.integrand ≡ x.integrand
  -- cells per kind, and these are all
  pub triangles : n.triangles ≡ cells_of x.mesh.kinds 3
  pub quads : n.quads ≡ cells_of x.mesh.kinds 4
  pub all_cells : n.triangles + n.quads ≡ x.mesh.cells
  -- S counts the ordered pairs of cells that share a vertex, N those that share none, and S + N = C·C; the pairs per two kinds add up to S
  pub touching : n.touching ≡ sharing_pairs x.mesh
  pub distant : n.distant ≡ distant_pairs x.mesh
  pub pairs : n.pairs ≡ kind_pairs x.mesh
  pub pairs_sum : n.pairs.triangle_triangle + n.pairs.triangle_quad + n.pairs.quad_triangle + n.pairs.quad_quad ≡ n.touching
  pub all_pairs : n.touching + n.distant ≡ x.mesh.cells * x.mesh.cells
  -- the work list holds the records of the work order
  pub order : records_of (plan_lists x l).work ≡ work_records x
  pub work : Listed x.mesh n.distant (plan_lists x l).work
  pub test : Spaced (test_space x) x.mesh.cells n.rows (plan_lists x l).test_dofs (plan_lists x l).test_colours (plan_lists x l).test_owners l.test_owners
  pub trial : Spaced (trial_space x) x.mesh.cells n.columns (plan_lists x l).trial_dofs (plan_lists x l).trial_colours (plan_lists x l).trial_owners l.trial_owners
