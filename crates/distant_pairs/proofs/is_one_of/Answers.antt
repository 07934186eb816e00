-- `distant_pairs::is_one_of` meets its contract: x is compared with the four. Assumes nothing.
use borrow.Author.Rules.{rules}
use Rattle.lists.specs.Bool.{◌or◌}
use Rattle.lists.specs.Bounded.{some}
use Rattle.grid.specs.Cells.{has}
use Rattle.distant_pairs.proofs.is_one_of.Goals as goal

pub returns : goal.returns
unfolding has some ◌or◌
returns c = search rules
