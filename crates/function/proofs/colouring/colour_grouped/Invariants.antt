-- `function::colouring::colour_grouped` meets its contract. The invariant: the first i colours are stored; a turn is `filled_more`. Assumes nothing.
use Rattle.grid.specs.Rows.{share}
use Rattle.function.specs.ColoursFacts.{Filled, Marks}
use Rattle.function.proofs.colouring.colour_grouped.Given as goal

abbrev pub invariant-loop-i : goal.invariant-loop-i
invariant-loop-i l = Filled (share l.rows.none l.rows.rows.now) l.initial.colours l.colours l.i × Marks l.i l.marks
