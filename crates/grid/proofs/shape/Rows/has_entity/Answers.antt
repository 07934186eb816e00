-- `grid::shape::Rows::has_entity` meets its contract. Assumes nothing.
use mathlib.Core.Bool.{Bool, true, false, ◌||◌}
use mathlib.Core.Path.{◌≡◌, refl, ◌∙◌}
use Rattle.lists.specs.Bool.{◌or◌}
use Rattle.lists.specs.Bounded.{some}
use Rattle.grid.specs.Cells.{has}
use Rattle.grid.specs.RowsFacts.{cut_row}
use Rattle.grid.proofs.shape.Rows.has_entity.Goals as goal

any_of_four : (a b c d : Bool) → (a || (b || (c || (d || false)))) ≡ ((((false or a) or b) or c) or d)
unfolding ◌or◌
any_of_four true b c d = refl
any_of_four false true c d = refl
any_of_four false false true d = refl
any_of_four false false false true = refl
any_of_four false false false false = refl

pub returns : goal.returns
unfolding has some
returns c = rw (cut_row c.args.self.none c.args.self.rows.now c.args.i c.requires) at c.contains.ensures.value ∙ any_of_four _ _ _ _
