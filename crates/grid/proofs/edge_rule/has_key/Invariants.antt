-- `grid::edge_rule::has_key` meets its contract. The invariant: what is found among the edges passed (`some m`). Assumes nothing.
use mathlib.Core.Path.{◌≡◌}
use Rattle.grid.specs.EdgeRule.{has_key}
use Rattle.grid.proofs.edge_rule.has_key.Given as goal

abbrev pub invariant-loop-known : goal.invariant-loop-known
invariant-loop-known l = l.found ≡ has_key l.keys l.known-index l.key
