-- `grid::shape::Rows::cell` meets its contract: a row without its fourth number, or whole. Assumes nothing.
use mathlib.Core.Path.{sym, ◌∙◌}
use borrow.Author.Tests.{eqb-true, eqb-false}
use Rattle.grid.specs.RowsFacts.{cut_three, cut_four}
use Rattle.grid.proofs.shape.Rows.cell.Goals as goal

pub returns-then-is_triangle : goal.returns-then-is_triangle
returns-then-is_triangle c = cut_three c.args.self.none c.args.self.rows.now c.args.i c.requires (eqb-true _ _ (sym c.is_triangle.ensures ∙ c.if-is_triangle.true))

pub returns-else-is_triangle : goal.returns-else-is_triangle
returns-else-is_triangle c = cut_four c.args.self.none c.args.self.rows.now c.args.i c.requires (eqb-false _ _ (sym c.is_triangle.ensures ∙ c.if-is_triangle.false))
