-- `grid::shape::kinds_known` meets its contract. The invariant: what is found of the cells passed. Assumes nothing.
use mathlib.Core.Path.{◌≡◌}
use lib.ListN.{get_or}
use lib.Dec.{eqb}
use Rattle.lists.specs.Bool.{◌or◌}
use Rattle.lists.specs.Bounded.{all}
use Rattle.grid.proofs.shape.kinds_known.Given as goal

abbrev pub invariant-loop-kind : goal.invariant-loop-kind
invariant-loop-kind l = l.known ≡ all l.kind-index (λ k. eqb (get_or l.kinds k 0) 3 or eqb (get_or l.kinds k 0) 4)
