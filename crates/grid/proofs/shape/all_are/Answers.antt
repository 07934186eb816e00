-- `grid::shape::all_are` meets its contract: the quarters and what is left behind them are all. Assumes nothing.
use native.Mathlib.Omega.{arith}
use Prim.Native.Nat.{◌/◌}
use lib.ListN.{length}
use lib.Dec.{eqb}
use Rattle.lists.specs.Bool.{◌and◌}
use Rattle.grid.specs.KindsFacts.{quarters_rest}
use Rattle.grid.proofs.shape.all_are.Goals as goal

pub returns : goal.returns
unfolding ◌and◌
returns c =
    let kinds = c.args.kinds.now in
    rw (c.rest_are.ensures, c.quarters_are.ensures) (quarters_rest (λ x. eqb x c.args.kind) kinds (length kinds / 4) (omega arith))
