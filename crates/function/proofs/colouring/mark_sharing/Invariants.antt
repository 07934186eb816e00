-- `function::colouring::mark_sharing` meets its contract. The invariant: the cells of the numbers of cell i that were passed are marked. Assumes nothing.
use Rattle.function.specs.ColoursFacts.{Marked, sharing_to}
use Rattle.function.proofs.colouring.mark_sharing.Given as goal

abbrev pub invariant-loop-x : goal.invariant-loop-x
invariant-loop-x l = Marked l.i (sharing_to l.rows.rows.now l.colours l.i l.x-index) l.initial.marks l.marks
