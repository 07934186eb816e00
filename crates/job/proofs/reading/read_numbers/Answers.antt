-- See Invariants.antt. Assumes nothing.
use native.Mathlib.Omega.{arith}
use mathlib.Core.Path.{◌∙◌}
use Rattle.lists.specs.Writes.{stores_start}
use Rattle.job.specs.JobFacts.{filled_turn, filled_done}
use Rattle.job.proofs.reading.read_numbers.Goals as goal

pub loop-i-init : goal.loop-i-init
loop-i-init c = stores_start _ _ _ 0

pub loop-i-preserved : goal.loop-i-preserved
loop-i-preserved c =
    filled_turn c.args.bytes.now c.args.at c.loop-i.invariant (omega (arith, c.loop-i-test.true, c.loop-i.invariant.same)) (c.from.ensures ∙ c.two_at.ensures)

pub returns : goal.returns
returns c = filled_done c.args.bytes.now c.args.at c.loop-i.invariant (omega (arith, c.loop-i-test.false, c.loop-i.invariant.same))
