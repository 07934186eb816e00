-- `grid::shape::is_distinct` meets its contract: the tests, one pair after the other, are those of three or four numbers. Assumes nothing.
use mathlib.Core.Path.{◌≡◌}
use lib.ListN.{length}
use Rattle.lists.specs.Bool.{◌and◌}
use Rattle.lists.specs.Bounded.{all}
use Rattle.grid.specs.Cells.{distinct}
use borrow.Author.Rules.{rules}
use Rattle.grid.proofs.shape.is_distinct.Goals as goal

pub returns-then-cell-eq3 : goal.returns-then-cell-eq3
unfolding distinct all ◌and◌
returns-then-cell-eq3 c = let n : length c.args.cell.now ≡ 3 = search rules in rw n

pub returns-else-cell-eq3 : goal.returns-else-cell-eq3
unfolding distinct all ◌and◌
returns-else-cell-eq3 c = let n : length c.args.cell.now ≡ 4 = search rules in rw n
