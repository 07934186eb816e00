-- `boundary_assemblers::entries::kind_dim` meets its contract. Assumes nothing.
use mathlib.Core.Path.{sym, ◌∙◌}
use borrow.Author.Tests.{eq-eqb, ne_eqb}
use Rattle.boundary_assemblers.proofs.entries.kind_dim.Goals as goal

pub returns-then-count-eq0 : goal.returns-then-count-eq0
returns-then-count-eq0 c = rw (eq-eqb _ _ (sym c.kind_cells-count.ensures ∙ c.if-count-eq0.true))

pub returns-else-count-eq0 : goal.returns-else-count-eq0
returns-else-count-eq0 c = rw (ne_eqb _ _ (λ z. c.if-count-eq0.false (c.kind_cells-count.ensures ∙ z))) c.dim.ensures
