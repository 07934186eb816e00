-- `distant_pairs::has_one_of` meets its contract: each number of the row is compared with the four. Assumes nothing.
use native.Mathlib.Nat.{add-zero}
use Rattle.lists.specs.Bool.{◌or◌}
use Rattle.lists.specs.Bounded.{some}
use Rattle.grid.specs.Cells.{share}
use Rattle.distant_pairs.specs.Distant.{has_one_of}
use Rattle.distant_pairs.proofs.has_one_of.Goals as goal

pub returns : goal.returns
unfolding has_one_of share some ◌or◌
returns c = rw (c.is_one_of.ensures, c.is_one_of-2.ensures, c.is_one_of-3.ensures, c.is_one_of-4.ensures) (simp add-zero)
