-- `grid::shape::count_few` meets its contract. The invariant: how many of the cells passed are of the kind. Assumes nothing.
use mathlib.Core.Path.{◌≡◌}
use Rattle.grid.specs.KindsFacts.{kinds_to}
use Rattle.grid.proofs.shape.count_few.Given as goal

abbrev pub invariant-loop-k : goal.invariant-loop-k
invariant-loop-k l = l.count ≡ kinds_to l.kinds l.kind l.k-index
