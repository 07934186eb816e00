-- `grid::checks::edges_right` meets its contract: the first call has tested the edge list's length and bound, which the second asks for. Assumes nothing.
use mathlib.Core.Path.{sym, ◌∙◌}
use Rattle.grid.specs.EdgeRule.{numbered, edges_right_by, edges_right_not}
use Rattle.grid.proofs.checks.edges_right.Goals as goal

pub keeps_edge_rule-requires-clause-numbered : goal.keeps_edge_rule-requires-clause-numbered
keeps_edge_rule-requires-clause-numbered c = numbered c.requires.shaped.0 c.requires.shaped.1 _ _ (sym c.edges_sized.ensures ∙ c.if-edges_sized.true)

pub returns-then-edges_sized : goal.returns-then-edges_sized
returns-then-edges_sized c = edges_right_by _ c.requires.shaped.0 c.requires.shaped.1 c.requires.kinds_len (sym c.edges_sized.ensures ∙ c.if-edges_sized.true) c.keeps_edge_rule.ensures

pub returns-else-edges_sized : goal.returns-else-edges_sized
returns-else-edges_sized c = c.if-edges_sized.false ∙ edges_right_not _ c.requires.shaped.0 c.requires.shaped.1 c.requires.kinds_len (sym c.edges_sized.ensures ∙ c.if-edges_sized.false)
