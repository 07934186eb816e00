-- The proofs to `specs/Examples.antt`. Assumes nothing.
use Rattle.std.specs.Prelude.{ℕ, ◌≡◌, refl, List, [], ◌∷◌, ◌++◌}
use Rattle.std.proofs.Common.{ap}
use Rattle.lists.specs.Examples.{Holds}
use Rattle.grid.specs.Examples.{mesh_m}
use Rattle.cell_pairs.specs.declared.WorkRecord.{WorkRecord}
use Rattle.cell_pairs.specs.Records.{rec}
use Rattle.cell_pairs.specs.WorkList.{distant_part, touching_part, work_list}
use Rattle.cell_pairs.specs.Examples.{m4_records, m5_records, opened_cell_pairs}

-- the touching part of M, computed once
m_touching : touching_part mesh_m ≡ rec 11 0 1 ∷ rec 15 1 0 ∷ rec 27 0 0 ∷ rec 27 1 1 ∷ rec 27 2 2 ∷ []
unfolding opened_cell_pairs
m_touching = refl

pub m_work : (B : ℕ) (ts rs : List ℕ) → work_list mesh_m B ts rs ≡ distant_part mesh_m B ts rs ++ (rec 11 0 1 ∷ rec 15 1 0 ∷ rec 27 0 0 ∷ rec 27 1 1 ∷ rec 27 2 2 ∷ [])
unfolding work_list
m_work B ts rs = ap (λ (l : List WorkRecord). distant_part mesh_m B ts rs ++ l) m_touching

pub m4_records_holds : Holds m4_records
unfolding opened_cell_pairs
m4_records_holds = m_work 2 (0 ∷ 1 ∷ 0 ∷ []) (0 ∷ 1 ∷ 0 ∷ [])

pub m5_records_holds : Holds m5_records
unfolding opened_cell_pairs
m5_records_holds = m_work 1 (0 ∷ 1 ∷ 0 ∷ []) (0 ∷ 1 ∷ 0 ∷ [])
