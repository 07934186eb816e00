-- `grid::edge_rule::keys_agree` meets its contract. The invariant: the keys of the edges after the places passed (`Known`). Assumes nothing.
use lib.ListN.{length}
use Rattle.grid.specs.EdgeRule.{Known, Unmarked}
use Rattle.grid.proofs.edge_rule.keys_agree.Given as goal

abbrev pub invariant-loop-number : goal.invariant-loop-number
invariant-loop-number l = Known l.places l.edges l.keys l.count (length l.yielded) × Unmarked l.keys l.top l.count
