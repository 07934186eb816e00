-- M4 and M6 to M8 of the paper, as planning answers them, and several faults at once. Assumes nothing.
use Rattle.std.specs.Prelude.{ℕ, ◌+◌, List, [], ◌∷◌, refl}
use Rattle.lists.specs.Examples.{Example, example, Holds}
use Rattle.grid.specs.Mesh.{Mesh}
use Rattle.grid.specs.Examples.{mesh_m, m7_turned, m7_twice, m8_large, edge_shared, five_cells, diagonal, three_shared, quad_twice}
use Rattle.function.specs.Examples.{element, elements}
use Rattle.function.specs.declared.Elements.{Elements}
use Rattle.dof_numbering.specs.Examples.{opened_dofs}
use Rattle.integrands.specs.declared.Term.TheVariants.{Bare}
use Rattle.integrands.specs.Examples.{opened_integrands}
use Rattle.cell_pairs.specs.Records.{rec, flat}
use Rattle.cell_pairs.specs.Examples.{opened_cell_pairs}
use Rattle.plans.specs.declared.PlanNumbers.{PlanNumbers}
use Rattle.plans.specs.Planning.{Planned, ready, refused, Planning, Lists, lists_of, lists_for, batch_right, lengths_right, plan_refusal, plan_numbers, plan, planned_number, written_lists, plan_lists}

-- opens the definitions of this crate and of those below it
unfoldable pub opened_plans : Unit {0}
unfolding opened_cell_pairs opened_dofs opened_integrands batch_right lengths_right plan_refusal plan_numbers plan written_lists plan_lists
opened_plans = tt

-- planned with one bare term of kind 0, a = 1 on both sides
abbrev pub vertex_dofs : Mesh → ℕ → Planning
vertex_dofs m B =
    record { mesh = m; test = elements 1 0 0 0; trial = elements 1 0 0 0; batch = B; integrand = record { terms = 1; first = Bare 0; second = Bare 0 } }

-- the paper's number of what planning answers
abbrev number : Planning → ℕ
number x = planned_number (plan x (lists_for x))

-- a number that it hands back
abbrev handed : (PlanNumbers → ℕ) → Planning → ℕ
handed f x = of (plan x (lists_for x))
  where
    of : Planned → ℕ
    of (ready n) = f n
    of (refused n) = 0

-- M is accepted
abbrev pub m_planned : Example
m_planned = example (number (vertex_dofs mesh_m 2)) 0

pub m_planned_holds : Holds m_planned
unfolding opened_plans
m_planned_holds = refl

-- M6: N = 4, S = 5, 4 + 5 = 9, of what planning hands back
abbrev pub m6 : Example
m6 =
    let x : Planning = vertex_dofs mesh_m 2 in
    example (handed (λ n. n.distant) x ∷ handed (λ n. n.touching) x ∷ handed (λ n. n.distant + n.touching) x ∷ []) (4 ∷ 5 ∷ 9 ∷ [])

pub m6_holds : Holds m6
unfolding opened_plans
m6_holds = refl

-- Beside the paper's: rows are the test element's DOFs, columns the trial element's. M has 7 vertices and 3 cells
abbrev pub m_sizes : Example
m_sizes =
    let x : Planning = record { mesh = mesh_m; test = elements 1 0 0 0; trial = elements 0 0 1 0; batch = 1; integrand = (vertex_dofs mesh_m 1).integrand } in
    example (handed (λ n. n.rows) x ∷ handed (λ n. n.columns) x ∷ []) (7 ∷ 3 ∷ [])

pub m_sizes_holds : Holds m_sizes
unfolding opened_plans
m_sizes_holds = refl

-- M with one DOF a vertex for test and one a cell for trial
abbrev pub cell_trial : ℕ → Planning
cell_trial B = record { mesh = mesh_m; test = elements 1 0 0 0; trial = elements 0 0 1 0; batch = B; integrand = (vertex_dofs mesh_m 1).integrand }

-- M4 as planning leaves it in the work list, and the like with one DOF a cell for trial, whose colours are 0, 0, 0
abbrev pub work_lists : Example
work_lists =
    let x : Planning = vertex_dofs mesh_m 2 in
    let y : Planning = cell_trial 2 in
    example ((plan_lists x (lists_for x)).work ∷ (plan_lists y (lists_for y)).work ∷ [])
    (flat (rec 255 2 0 ∷ rec 255 0 2 ∷ rec 255 2 1 ∷ rec 255 1 2 ∷ rec 11 0 1 ∷ rec 15 1 0 ∷ rec 27 0 0 ∷ rec 27 1 1 ∷ rec 27 2 2 ∷ [])
    ∷ flat (rec 255 2 0 ∷ rec 255 2 1 ∷ rec 255 0 2 ∷ rec 255 1 2 ∷ rec 11 0 1 ∷ rec 15 1 0 ∷ rec 27 0 0 ∷ rec 27 1 1 ∷ rec 27 2 2 ∷ [])
    ∷ [])

-- the first check that fails answers: an element without DOFs and batch 0, 4; and M with a work list of no length, 8
abbrev pub first_fault : Example
first_fault =
    let x : Planning = vertex_dofs mesh_m 2 in
    let l : Lists = lists_for x in
    example
    (number (record { mesh = mesh_m; test = elements 0 0 0 0; trial = elements 1 0 0 0; batch = 0; integrand = x.integrand })
    ∷ planned_number (plan x (lists_of l.test_dofs l.trial_dofs l.test_colours l.trial_colours l.test_owners l.trial_owners []))
    ∷ [])
    (4 ∷ 8 ∷ [])

pub first_fault_holds : Holds first_fault
unfolding opened_plans
first_fault_holds = refl

-- M7: cells (0,1,2), (1,2,0): 7. Cells (0,1,2) twice are accepted
abbrev pub m7 : Example
m7 = example (number (vertex_dofs m7_turned 1) ∷ number (vertex_dofs m7_twice 1) ∷ []) (7 ∷ 0 ∷ [])

pub m7_holds : Holds m7
unfolding opened_plans
m7_holds = refl

-- and leave four records of 27
abbrev pub m7_work : Example
m7_work =
    let x : Planning = vertex_dofs m7_twice 1 in
    example (plan_lists x (lists_for x)).work (27 ∷ 0 ∷ 0 ∷ 27 ∷ 0 ∷ 1 ∷ 27 ∷ 1 ∷ 0 ∷ 27 ∷ 1 ∷ 1 ∷ [])

pub m7_work_holds : Holds m7_work
unfolding opened_plans
m7_work_holds = refl

-- M8: M planned with batch 0: 5. C = 2,049: 1
abbrev pub m8 : Example
m8 = example (number (vertex_dofs mesh_m 0) ∷ number (vertex_dofs m8_large 1) ∷ []) (5 ∷ 1 ∷ [])

pub m8_holds : Holds m8
unfolding opened_plans
m8_holds = refl

-- ---- with quads

-- a quad twice is accepted; quads that meet only at a diagonal and a triangle that shares three vertices with a quad: 7
abbrev pub quads_planned : Example
quads_planned =
    example (number (vertex_dofs quad_twice 1) ∷ number (vertex_dofs diagonal 1) ∷ number (vertex_dofs three_shared 1) ∷ []) (0 ∷ 7 ∷ 7 ∷ [])

pub quads_planned_hold : Holds quads_planned
unfolding opened_plans
quads_planned_hold = refl

-- 26: a kind list of M too short, and a kind of 5, each before the vertex list's length, which a kind of 4 makes wrong: 1
abbrev with_kinds : List ℕ → Mesh
with_kinds ks = record { cells = mesh_m.cells; vertices = mesh_m.vertices; edges = mesh_m.edges; kinds = ks; cell_vertices = mesh_m.cell_vertices; cell_edges = mesh_m.cell_edges }

abbrev pub kinds_refused : Example
kinds_refused =
    example
    (number (vertex_dofs (with_kinds (3 ∷ 3 ∷ [])) 1) ∷ number (vertex_dofs (with_kinds (3 ∷ 3 ∷ 5 ∷ [])) 1) ∷ number (vertex_dofs (with_kinds (3 ∷ 3 ∷ 4 ∷ [])) 1) ∷ [])
    (26 ∷ 26 ∷ 1 ∷ [])

pub kinds_refused_hold : Holds kinds_refused
unfolding opened_plans
kinds_refused_hold = refl

-- 4 looks at the kinds present alone, and where both are it wants a and b equal, each side by itself: elements whose a differ, and a quad's dim of 12, on M,
-- and on a mesh with a quad; sides that differ
abbrev unlike : Elements
unlike = record { triangle = element 1 0 0; quad = element 0 1 0 }

abbrev with : Mesh → Elements → Elements → Planning
with m test trial = record { mesh = m; test = test; trial = trial; batch = 1; integrand = (vertex_dofs mesh_m 1).integrand }

abbrev pub elements_refused : Example
elements_refused =
    example
    (number (with mesh_m unlike unlike)
    ∷ number (with edge_shared (elements 1 0 0 0) unlike)
    ∷ number (with mesh_m (elements 1 1 4 4) (elements 1 0 0 0))
    ∷ number (with edge_shared (elements 1 1 0 4) (elements 1 0 0 0))
    ∷ number (with edge_shared (elements 0 1 0 1) (elements 0 0 1 2))
    ∷ [])
    (0 ∷ 4 ∷ 0 ∷ 4 ∷ 0 ∷ [])

pub elements_refused_hold : Holds elements_refused
unfolding opened_plans
elements_refused_hold = refl

-- five cells, three triangles and two quads: S = 11 = 5 + 2 + 2 + 2, N = 14. Test with one DOF an edge and one in a quad, trial with one in a triangle and two
-- in a quad: 16 edges and 2 quads give 18 rows, 3 and twice 2 are 7 columns
abbrev pub five_numbers : Example
five_numbers =
    let n : PlanNumbers = plan_numbers (with five_cells (elements 0 1 0 1) (elements 0 0 1 2)) in
    example
    (n.triangles ∷ n.quads ∷ n.touching ∷ n.distant ∷ n.pairs.triangle_triangle ∷ n.pairs.triangle_quad ∷ n.pairs.quad_triangle ∷ n.pairs.quad_quad ∷ n.rows ∷ n.columns ∷ [])
    (3 ∷ 2 ∷ 11 ∷ 14 ∷ 5 ∷ 2 ∷ 2 ∷ 2 ∷ 18 ∷ 7 ∷ [])

pub five_numbers_hold : Holds five_numbers
unfolding opened_plans
five_numbers_hold = refl

-- the lists of a triangle and a quad that share an edge, one DOF a vertex: the quad's first vertex and its third are the triangle's last two
abbrev pub edge_shared_lists : Example
edge_shared_lists =
    let x : Planning = vertex_dofs edge_shared 1 in
    example ((plan_lists x (lists_for x)).test_dofs ∷ (plan_lists x (lists_for x)).test_colours ∷ (plan_lists x (lists_for x)).test_owners ∷ (plan_lists x (lists_for x)).work ∷ [])
    ((0 ∷ 1 ∷ 2 ∷ 1 ∷ 3 ∷ 2 ∷ 4 ∷ [])
    ∷ (0 ∷ 1 ∷ [])
    ∷ (0 ∷ 0 ∷ 0 ∷ 0 ∷ 1 ∷ 0 ∷ 0 ∷ 2 ∷ 0 ∷ 0 ∷ 3 ∷ 0 ∷ 0 ∷ 4 ∷ 0 ∷ 0 ∷ 0 ∷ 0 ∷ 0 ∷ 0 ∷ 0 ∷ [])
    ∷ flat (rec 27 0 0 ∷ rec 42 0 1 ∷ rec 82 1 0 ∷ rec 148 1 1 ∷ [])
    ∷ [])

pub edge_shared_lists_hold : Holds edge_shared_lists
unfolding opened_plans
edge_shared_lists_hold = refl
