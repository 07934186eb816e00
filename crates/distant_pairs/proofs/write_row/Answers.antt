-- See Invariants.antt. Assumes nothing.
use native.Mathlib.Omega.{arith}
use Rattle.lists.specs.Writes.{each_start, each_room, each_turn, each_done}
use Rattle.distant_pairs.specs.Distant.{distant_row}
use Rattle.distant_pairs.proofs.Facts.{corners_read, pair_same}
use Rattle.distant_pairs.proofs.write_row.Goals as goal

pub loop-test-init : goal.loop-test-init
loop-test-init c = each_start _ _ _ _

pub write_pair-next-requires-clause-room : goal.write_pair-next-requires-clause-room
unfolding distant_row
write_pair-next-requires-clause-room c =
    let at = corners_read c.args.rows.rows.now c.wide-cell.ensures c.fourth_or_first.ensures in
    rw (pair_same at c.requires.padded c.requires.trial_in_bounds _) (each_room c.loop-test.invariant (omega arith) c.requires.room)

pub loop-test-preserved : goal.loop-test-preserved
loop-test-preserved c =
    let at = corners_read c.args.rows.rows.now c.wide-cell.ensures c.fourth_or_first.ensures in
    each_turn c.loop-test.invariant (omega arith) (rw (pair_same at c.requires.padded c.requires.trial_in_bounds _) at c.write_pair-next.ensures)

pub returns : goal.returns
unfolding distant_row
returns c = each_done c.loop-test.invariant (omega arith)
