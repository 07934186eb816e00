-- `planning::checks::batch_right` meets its contract: the test of the range is the definition's. Assumes nothing.
use native.Mathlib.Omega.{arith}
use Rattle.lists.specs.Bool.{◌and◌}
use Rattle.plans.specs.Planning.{batch_right}
use Rattle.planning.proofs.checks.batch_right.Goals as goal

pub returns : goal.returns
unfolding batch_right ◌and◌
returns c = rw (c.contains.ensures.value, c.new.ensures.start, c.new.ensures.end, c.new.ensures.exhausted) (grind arith)
