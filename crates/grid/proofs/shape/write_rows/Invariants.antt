-- `grid::shape::write_rows` meets its contract. The invariant: the rows of the cells passed are written (`Rowed`). Assumes nothing.
use Rattle.grid.specs.RowsFacts.{Rowed}
use Rattle.grid.proofs.shape.write_rows.Given as goal

abbrev pub invariant-loop-i : goal.invariant-loop-i
invariant-loop-i l = Rowed l.none l.kinds l.list l.initial.rows l.rows l.at l.i
