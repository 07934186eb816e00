-- See Invariants.antt. Assumes nothing.
use Rattle.lists.specs.Writes.{wrote_none, turns_start, turns_room, turns_turn, turns_done}
use Rattle.distant_pairs.specs.Distant.{distant_kind, distant_parts}
use Rattle.distant_pairs.proofs.Facts.{no_cells_of}
use Rattle.distant_pairs.proofs.write_distant.Goals as goal
use Rattle.distant_pairs.proofs.write_distant.Goals.{then-has_cells, else-has_cells}

pub loop-n-init : goal.loop-n-init
loop-n-init c = turns_start _ _ _ _

pub loop-k-init : goal.loop-k-init
loop-k-init c = turns_start _ _ _ _

pub write_kinds-next-requires-clause-room : goal.write_kinds-next-requires-clause-room
unfolding distant_parts distant_kind
write_kinds-next-requires-clause-room c =
    turns_room c.loop-k.invariant c.loop-k-test.true (turns_room c.loop-n.invariant c.loop-n-test.true c.requires.room)

pub loop-k-preserved : goal.loop-k-preserved
loop-k-preserved c =
    elim c.if-has_cells.branch [
      | then-has_cells w ↦ rw (w.work-is, w.next-is) (turns_turn c.loop-k.invariant c.loop-k-test.true w.write_kinds-next.ensures)
      | else-has_cells w ↦
          rw (w.work-is, w.next-is)
          (turns_turn c.loop-k.invariant c.loop-k-test.true
          (rw (no_cells_of c.args.rows.none c.args.rows.rows.now c.args.batch c.args.tests.order.now c.args.tests.ends.now c.args.trials.order.now c.args.trials.ends.now c.loop-n.n c.loop-k.k c.requires.cut c.requires.cut_2 c.loop-n-test.true c.loop-k-test.true c.has_cells.ensures c.has_cells-in-loop-k.ensures w.if-has_cells.false) (wrote_none _ _)))
    ]

pub loop-n-preserved : goal.loop-n-preserved
unfolding distant_kind
loop-n-preserved c = turns_turn c.loop-n.invariant c.loop-n-test.true (turns_done c.loop-k.invariant c.loop-k-test.false)

pub returns : goal.returns
unfolding distant_parts
returns c = turns_done c.loop-n.invariant c.loop-n-test.false
