-- `grid::checks::vertices_right` meets its contract: `&` of the tests is `◌and◌`. Assumes nothing.
use Rattle.lists.specs.Bool.{◌and◌, every}
use Rattle.grid.proofs.checks.vertices_right.Goals as goal

pub returns : goal.returns
unfolding every ◌and◌
returns c = rw (c.all_distinct.ensures, c.numbers_right.ensures)
