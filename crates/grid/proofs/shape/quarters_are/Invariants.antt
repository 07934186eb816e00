-- `grid::shape::quarters_are` meets its contract. The invariant: what is found of the cells passed. Assumes nothing.
use mathlib.Core.Path.{◌≡◌}
use lib.ListN.{get_or}
use lib.Dec.{eqb}
use Rattle.lists.specs.Bounded.{all}
use Rattle.grid.specs.KindsFacts.{quarters}
use Rattle.grid.proofs.shape.quarters_are.Given as goal

abbrev pub invariant-loop-i : goal.invariant-loop-i
invariant-loop-i l = l.same ≡ all l.i (quarters (λ k. eqb (get_or l.kinds k 0) l.kind) l.n)
