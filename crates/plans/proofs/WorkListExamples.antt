-- The proofs to `specs/Examples.antt`. Assumes nothing.
use Rattle.std.specs.Prelude.{ℕ, List, [], ◌∷◌, ◌≡◌, refl}
use Rattle.std.proofs.Common.{ap, ap₂, ◌∙◌}
use Rattle.lists.specs.Examples.{Holds}
use Rattle.grid.specs.Examples.{mesh_m}
use Rattle.cell_pairs.specs.Records.{flat}
use Rattle.cell_pairs.proofs.WorkExamples.{m_work}
use Rattle.plans.specs.Planning.{Planning, Lists, lists_for, plan_refusal, written_lists, plan_lists, work_records}
use Rattle.plans.specs.Examples.{cell_trial, opened_plans, vertex_dofs, work_lists}

-- what planning leaves in the work list, where nothing turns it down
left : (x : Planning) (l : Lists) → plan_refusal x l ≡ 0 → (plan_lists x l).work ≡ flat (work_records x)
unfolding plan_lists written_lists
left x l e = rw e

m_accepted : plan_refusal (vertex_dofs mesh_m 2) (lists_for (vertex_dofs mesh_m 2)) ≡ 0
unfolding opened_plans
m_accepted = refl

m_accepted_by_cells : plan_refusal (cell_trial 2) (lists_for (cell_trial 2)) ≡ 0
unfolding opened_plans
m_accepted_by_cells = refl

pub work_lists_hold : Holds work_lists
unfolding opened_plans
work_lists_hold =
    ap₂ (λ (v w : List ℕ). v ∷ w ∷ [])
    (left (vertex_dofs mesh_m 2) (lists_for (vertex_dofs mesh_m 2)) m_accepted ∙ ap flat (m_work 2 (0 ∷ 1 ∷ 0 ∷ []) (0 ∷ 1 ∷ 0 ∷ [])))
    (left (cell_trial 2) (lists_for (cell_trial 2)) m_accepted_by_cells ∙ ap flat (m_work 2 (0 ∷ 1 ∷ 0 ∷ []) (0 ∷ 0 ∷ 0 ∷ [])))
