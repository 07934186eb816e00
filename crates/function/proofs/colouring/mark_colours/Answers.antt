-- See Invariants.antt. Assumes nothing.
use Rattle.function.specs.ColoursFacts.{mark_start, mark_yes, mark_no}
use Rattle.function.proofs.colouring.mark_colours.Goals as goal
use Rattle.function.proofs.colouring.mark_colours.Goals.{then-j-i, else-j-i}

pub loop-cell-init : goal.loop-cell-init
loop-cell-init c = mark_start _ _ _ c.requires.marks_len

pub loop-cell-preserved : goal.loop-cell-preserved
loop-cell-preserved c =
    let inv = c.loop-cell.invariant in
    elim c.if-j-i.branch [
      | then-j-i w ↦ rw w.marks-is (mark_yes _ _ _ _ inv c.wide-j.ensures w.if-j-i.true w.wide-at.ensures (rw w.wide-at.ensures (c.requires.earlier.low _ w.if-j-i.true)))
      | else-j-i w ↦ rw w.marks-is (mark_no _ _ _ _ inv c.wide-j.ensures w.if-j-i.false)
    ]
