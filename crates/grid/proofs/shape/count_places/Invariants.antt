-- `grid::shape::count_places` meets its contract. The invariant: the sum over the cells passed is where the next begins. Assumes nothing.
use Prim.Native.Nat.{◌*◌, ◌≤◌}
use Rattle.grid.specs.CellsFacts.{Begins}
use Rattle.grid.proofs.shape.count_places.Given as goal

abbrev pub invariant-loop-kind : goal.invariant-loop-kind
invariant-loop-kind l = Begins l.kinds l.at l.kind-index × (l.at ≤ 255 * l.kind-index)
