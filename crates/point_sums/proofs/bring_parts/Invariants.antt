-- `point_sums::bring_parts` meets its contract: the invariant is that those passed are right. Assumes nothing.
use Rattle.std.specs.Prelude.{◌≡◌, ℕ, ◌<◌}
use Rattle.table.specs.Views.{row_of}
use Rattle.integrands.specs.Parts.{test_part}
use Rattle.point_sums.specs.Parts.{Long, part_at}
use Rattle.point_sums.proofs.bring_parts.Given as goal

abbrev pub invariant-loop-b : goal.invariant-loop-b
invariant-loop-b l = record { long : Long l.parts; right : (k : ℕ) → k < l.b → part_at l.parts k ≡ test_part l.x l.test.geometry (row_of l.test.table k) }
