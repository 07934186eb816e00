-- `grid::shape::Rows::fourth_or_first` meets its contract: the two ways of the test are the two cases of `cond`. Assumes nothing.
use mathlib.Core.Path.{sym, ◌∙◌}
use native.Mathlib.Nat.{add-zero}
use Rattle.grid.specs.Rows.{fourth_or_first}
use Rattle.grid.proofs.shape.Rows.fourth_or_first.Goals as goal

pub returns-then-is_triangle : goal.returns-then-is_triangle
unfolding fourth_or_first
returns-then-is_triangle c = rw (sym c.is_triangle.ensures ∙ c.if-is_triangle.true, add-zero _)

pub returns-else-is_triangle : goal.returns-else-is_triangle
unfolding fourth_or_first
returns-else-is_triangle c = rw (sym c.is_triangle.ensures ∙ c.if-is_triangle.false)
