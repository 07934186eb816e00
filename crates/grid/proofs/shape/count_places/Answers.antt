-- See Invariants.antt. Assumes nothing.
use Prim.Native.Nat.{ℕ, ◌+◌}
use native.Mathlib.Omega.{arith}
use mathlib.Core.Path.{ap}
use Rattle.grid.specs.CellsFacts.{begins_first, begins_next}
use borrow.Author.Rules.{rules}
use Rattle.grid.proofs.shape.count_places.Goals as goal

pub loop-kind-init : goal.loop-kind-init
loop-kind-init c = (begins_first _, search rules)

pub loop-kind-preserved : goal.loop-kind-preserved
loop-kind-preserved c = (begins_next c.loop-kind.invariant.0 (search rules) (ap (λ (n : ℕ). c.loop-kind.at + n) c.corners_of-at.ensures.0), omega (arith, c.corners_of-at.ensures.1, c.loop-kind.invariant.1))
