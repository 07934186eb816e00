-- `function::dims_right` meets its contract. Assumes nothing.
use Rattle.lists.specs.Bool.{◌and◌}
use Rattle.function.specs.Elements.{dims_right}
use Rattle.function.proofs.dims_right.Goals as goal

pub returns : goal.returns
unfolding dims_right ◌and◌
returns c = simp (c.right.ensures, c.right-2.ensures)
