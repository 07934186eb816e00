-- `grid::edge_rule::write_keys` meets its contract. The invariant: the keys of the cells passed are written (`Keyed`). Assumes nothing.
use Rattle.grid.specs.EdgeRule.{Keyed}
use Rattle.grid.proofs.edge_rule.write_keys.Given as goal

abbrev pub invariant-loop-kind : goal.invariant-loop-kind
invariant-loop-kind l = Keyed l.kinds l.vertices l.initial.keys l.keys l.at l.kind-index
