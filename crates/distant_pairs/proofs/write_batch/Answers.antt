-- See Invariants.antt. Assumes nothing.
use native.Mathlib.Omega.{arith}
use Rattle.lists.specs.Writes.{each_start, each_room, each_turn, each_done}
use Rattle.cell_pairs.specs.WorkList.{distant_batch}
use Rattle.distant_pairs.specs.Distant.{distant_row}
use Rattle.distant_pairs.proofs.write_batch.Goals as goal

pub loop-trial-init : goal.loop-trial-init
loop-trial-init c = each_start _ _ _ _

pub write_row-next-requires-clause-room : goal.write_row-next-requires-clause-room
unfolding distant_batch distant_row
write_row-next-requires-clause-room c = each_room c.loop-trial.invariant (omega arith) c.requires.room

pub loop-trial-preserved : goal.loop-trial-preserved
loop-trial-preserved c = each_turn c.loop-trial.invariant (omega arith) c.write_row-next.ensures

pub returns : goal.returns
unfolding distant_batch distant_row
returns c = each_done c.loop-trial.invariant (omega arith)
