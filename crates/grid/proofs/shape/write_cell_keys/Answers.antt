-- See Invariants.antt. Assumes nothing.
use mathlib.Core.Path.{◌≡◌, refl, ap, ◌∙◌}
use Prim.Native.Nat.{ℕ}
use native.Mathlib.Omega.{arith}
use lib.ListN.{length, length-set}
use lib.Seq.{sets}
use Rattle.lists.specs.Range.{range}
use Rattle.grid.specs.EdgesFacts.{length_pairs, pair_at}
use Rattle.grid.specs.EdgeRule.{keys_upto, keys_whole, keys_turn}
use Rattle.grid.proofs.shape.write_cell_keys.Goals as goal

pub loop-e-init : goal.loop-e-init
unfolding range
loop-e-init c = (omega arith, refl, refl)

pub loop-e-preserved : goal.loop-e-preserved
loop-e-preserved c =
    let n = length c.args.cell.now in
    let e = c.loop-e.e in
    let i = c.loop-e.invariant in
    let items = c.edges_of-p-items.ensures in
    let long = ap length items ∙ length_pairs n c.requires.in_bounds.0 c.requires.in_bounds.1 in
    let ends = pair_at n e in
    (omega (arith, long), simp length-set i.1, rw i.2 (keys_turn c.args.keys.now c.args.cell.now c.args.at n e (rw (c.wide.ensures, c.wide-in-loop-e.ensures, items, ends.0, ends.1) at c.pair_key.ensures)))

pub returns : goal.returns
returns c =
    let n = length c.args.cell.now in
    let long = ap length c.edges_of-p-items.ensures ∙ length_pairs n c.requires.in_bounds.0 c.requires.in_bounds.1 in
    let e : c.loop-e.e ≡ n = omega (arith, long, c.loop-e.invariant.0) in
    c.loop-e.invariant.2 ∙ ap (λ (k : ℕ). sets c.args.keys.now c.args.at (keys_upto k n c.args.cell.now)) e ∙ ap (sets c.args.keys.now c.args.at) (keys_whole n c.args.cell.now)
