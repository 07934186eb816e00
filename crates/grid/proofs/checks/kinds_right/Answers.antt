-- `grid::checks::kinds_right` meets its contract: `&` of the two tests is `◌and◌`. Assumes nothing.
use Rattle.lists.specs.Bool.{◌and◌}
use Rattle.grid.specs.Mesh.{kinds_right}
use Rattle.grid.proofs.checks.kinds_right.Goals as goal

pub returns : goal.returns
unfolding kinds_right ◌and◌
returns c = rw (c.kinds_known.ensures, c.wide.ensures)
