-- `grid::edge_rule::may_have` meets its contract: the two ways of the test are the two cases of the first `◌or◌`. Assumes nothing.
use borrow.Author.Tests.{eq-eqb, ne_eqb}
use Rattle.lists.specs.Bool.{◌and◌, ◌or◌}
use Rattle.grid.specs.EdgeRule.{may_have}
use Rattle.grid.proofs.edge_rule.may_have.Goals as goal

pub returns-then-known-key : goal.returns-then-known-key
unfolding may_have ◌or◌
returns-then-known-key c = rw (eq-eqb _ _ c.if-known-key.true)

pub returns-else-known-key : goal.returns-else-known-key
unfolding may_have ◌or◌ ◌and◌
returns-else-known-key c = rw (ne_eqb _ _ c.if-known-key.false, c.has_key.ensures)
