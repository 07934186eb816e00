-- `coincident_cells::coincide` meets its contract. Assumes nothing.
use mathlib.Core.Path.{refl, sym, ap₂, ◌∙◌}
use borrow.Author.Tests.{lt-ltb, le-ltb}
use Rattle.lists.specs.Bool.{◌and◌, and_no_left}
use Rattle.cell_pairs.specs.Patterns.{same_vertices}
use Rattle.coincident_cells.proofs.coincide.Goals as goal

pub returns-then-j-i : goal.returns-then-j-i
unfolding ◌and◌
returns-then-j-i c = c.same_vertices.ensures ∙ ap₂ same_vertices c.cell.ensures c.cell-then-j-i.ensures ∙ rw (lt-ltb _ _ c.if-j-i.true)

pub returns-else-j-i : goal.returns-else-j-i
returns-else-j-i c = let e = le-ltb _ _ c.if-j-i.false in rw e (sym (and_no_left _ _ refl))
