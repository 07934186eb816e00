-- `grid::edge_rule::keeps_edge_rule` meets its contract: it lends a list for the keys of the edge places. Assumes nothing.
use Prim.Native.Nat.{ℕ, ◌≤◌}
use native.Mathlib.Omega.{arith}
use mathlib.Core.Path.{◌≡◌, sym}
use lib.ListN.{length, take, replicate, length-replicate}
use lib.Seq.{length-take-le}
use Rattle.grid.specs.CellsFacts.{shaped_few}
use Rattle.grid.proofs.edge_rule.keeps_edge_rule.Goals as goal

scratch : (n : ℕ) → n ≤ 8192 → length {A = ℕ} (take n (replicate 8192 0)) ≡ n
scratch n h = length-take-le n (replicate 8192 0) (omega (arith, length-replicate {A = ℕ} 8192 0))

pub slice_bounds-places-end : goal.slice_bounds-places-end
slice_bounds-places-end c = omega (arith, shaped_few c.requires.shaped.0)

pub slice_bounds-places-end-2 : goal.slice_bounds-places-end-2
slice_bounds-places-end-2 c = sym (scratch _ (shaped_few c.requires.shaped.0))

pub write_keys-requires-clause-keys_len : goal.write_keys-requires-clause-keys_len
write_keys-requires-clause-keys_len c = scratch _ (shaped_few c.requires.shaped.0)
