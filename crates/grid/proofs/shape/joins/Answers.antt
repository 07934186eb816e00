-- `grid::shape::joins` meets its contract. Assumes nothing.
use mathlib.Core.Path.{refl}
use Rattle.lists.specs.Bool.{◌and◌, ◌or◌}
use Rattle.grid.specs.Cells.{same_two}
use Rattle.grid.proofs.shape.joins.Goals as goal

pub returns : goal.returns
unfolding same_two ◌and◌ ◌or◌
returns c = refl
