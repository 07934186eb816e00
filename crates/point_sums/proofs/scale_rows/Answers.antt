-- See Invariants.antt. Assumes nothing.
use Rattle.std.specs.Prelude.{Float}
use Rattle.std.proofs.Common.{arith, ap}
use Rattle.lists.specs.Maps.{mapped_start, mapped_turn}
use Rattle.numbers.specs.Floats.{◌⊗◌}
use Rattle.point_sums.proofs.scale_rows.Goals as goal

pub loop-b-init : goal.loop-b-init
loop-b-init c = mapped_start _

pub loop-b-preserved : goal.loop-b-preserved
loop-b-preserved c = mapped_turn c.loop-b.invariant (omega arith) (omega (arith, c.loop-b-test.true, c.requires.0)) (ap (λ (x : Float). c.args.c ⊗ x) c.get.ensures)
