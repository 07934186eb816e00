-- `grid::shape::write_cell_keys` meets its contract. The invariant: the keys of the edges passed are stored; a turn is `keys_turn`. Assumes nothing.
use Prim.Native.Nat.{◌≤◌}
use mathlib.Core.Path.{◌≡◌}
use lib.ListN.{length}
use lib.Seq.{sets}
use Rattle.grid.specs.EdgeRule.{keys_upto}
use Rattle.grid.proofs.shape.write_cell_keys.Given as goal

abbrev pub invariant-loop-e : goal.invariant-loop-e
invariant-loop-e l = (l.e ≤ length l.cell) × (length l.keys ≡ length l.initial.keys) × (l.keys ≡ sets l.initial.keys l.at (keys_upto l.e (length l.cell) l.cell))
