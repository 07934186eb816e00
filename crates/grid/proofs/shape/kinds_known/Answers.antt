-- See Invariants.antt. Assumes nothing.
use mathlib.Core.Path.{sym}
use Rattle.lists.specs.Bool.{◌and◌, ◌or◌}
use Rattle.lists.specs.Bounded.{all_none, all_next}
use Rattle.grid.proofs.shape.kinds_known.Goals as goal

pub loop-kind-init : goal.loop-kind-init
loop-kind-init c = sym (all_none _)

pub loop-kind-preserved : goal.loop-kind-preserved
unfolding ◌and◌ ◌or◌
loop-kind-preserved c = rw c.loop-kind.invariant (sym (all_next _ _))
