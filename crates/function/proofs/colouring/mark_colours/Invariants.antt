-- `function::colouring::mark_colours` meets its contract. The invariant: the colours of the cells passed are marked. Assumes nothing.
use Rattle.function.specs.ColoursFacts.{Marked, colour_to}
use Rattle.function.proofs.colouring.mark_colours.Given as goal

abbrev pub invariant-loop-cell : goal.invariant-loop-cell
invariant-loop-cell l = Marked l.i (colour_to l.cells l.colours l.i l.cell-index) l.initial.marks l.marks
