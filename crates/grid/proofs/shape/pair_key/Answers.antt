-- `grid::shape::pair_key` meets its contract: either of the two vertices may be the smaller. Assumes nothing.
use native.Mathlib.Omega.{arith}
use Prim.Native.Nat.{ℕ, ◌<◌, ◌≤◌}
use lib.ListN.{get_or}
use Rattle.std.proofs.Common.{⊎_elim}
use Rattle.lists.specs.Bounded.{lt_or_le}
use Rattle.numbers.specs.Ranges.{below_at}
use Rattle.grid.specs.EdgeRule.{key_up, key_down}
use Rattle.grid.proofs.shape.pair_key.Goals as goal

pub overflow_mul-result : goal.overflow_mul-result
overflow_mul-result c = omega (arith, below_at _ _ c.requires.2 _ c.requires.0, below_at _ _ c.requires.2 _ c.requires.1, c.min.ensures)

pub overflow_add-result : goal.overflow_add-result
overflow_add-result c = omega (arith, below_at _ _ c.requires.2 _ c.requires.0, below_at _ _ c.requires.2 _ c.requires.1, c.min.ensures, c.max.ensures)

pub returns : goal.returns
returns c =
    let a : ℕ = get_or c.args.cell.now c.args.p 0 in
    let b : ℕ = get_or c.args.cell.now c.args.q 0 in
    ⊎_elim (λ (l : a < b). omega (arith, key_up a b (omega arith), c.min.ensures, c.max.ensures)) (λ (l : b ≤ a). omega (arith, key_down a b l, c.min.ensures, c.max.ensures))
    (lt_or_le a b)
