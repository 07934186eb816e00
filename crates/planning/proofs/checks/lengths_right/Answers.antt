-- `planning::checks::lengths_right` meets its contract: the products fit. Assumes nothing.
use native.Mathlib.Omega.{arith}
use Rattle.lists.specs.Bool.{◌and◌, every}
use Rattle.planning.specs.Facts.{pairs_few, lengths_by}
use Rattle.planning.proofs.checks.lengths_right.Goals as goal

pub overflow_mul-result-4 : goal.overflow_mul-result-4
overflow_mul-result-4 c = rw c.wide-c.ensures (omega (arith, pairs_few _ c.requires.0))

pub overflow_mul-result-3 : goal.overflow_mul-result-3
overflow_mul-result-3 c = rw c.wide-c.ensures (omega (arith, pairs_few _ c.requires.0))

pub returns : goal.returns
unfolding lengths_by every ◌and◌
returns c = simp c.wide-c.ensures
