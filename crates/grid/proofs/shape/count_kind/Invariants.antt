-- `grid::shape::count_kind` meets its contract. The invariant: the cells of the kind are those counted and those that are left. Assumes nothing.
use Prim.Native.Nat.{◌+◌}
use mathlib.Core.Path.{◌≡◌}
use Rattle.grid.specs.KindsFacts.{few}
use Rattle.grid.specs.Mesh.{cells_of}
use Rattle.grid.proofs.shape.count_kind.Given as goal

abbrev pub invariant-loop-few : goal.invariant-loop-few
invariant-loop-few l = (l.few-iterator.size ≡ few) × (l.count + cells_of l.few-iterator.rest.now l.kind ≡ cells_of l.kinds l.kind)
