-- See Invariants.antt. Assumes nothing.
use Prim.Native.Nat.{◌≤◌}
use native.Mathlib.Omega.{arith}
use mathlib.Core.Bool.{Bool, true, false}
use mathlib.Core.Path.{◌≡◌, refl, sym, ◌∙◌}
use lib.ListN.{length, get_or}
use lib.Dec.{eqb}
use Rattle.grid.specs.Cells.{before}
use mir.Val.{bool_byte}
use Rattle.lists.specs.Total.{gate}
use Rattle.grid.specs.KindsFacts.{kinds_all, kinds_next, kinds_few}
use Rattle.grid.proofs.shape.count_few.Goals as goal

as_number : (b : Bool) → bool_byte b ≡ gate b 1
as_number true = refl
as_number false = refl

at_most : (b : Bool) → bool_byte b ≤ 1
at_most true = omega arith
at_most false = omega arith

pub loop-k-init : goal.loop-k-init
unfolding before
loop-k-init c = refl

pub overflow_add-count : goal.overflow_add-count
overflow_add-count c = let n = c.loop-k.invariant in omega (arith, kinds_few c.args.kinds.now c.args.kind c.loop-k.k-index, at_most (eqb (get_or c.args.kinds.now c.loop-k.k-index 0) c.args.kind))

pub loop-k-preserved : goal.loop-k-preserved
loop-k-preserved c = rw (c.loop-k.invariant, as_number) (sym (kinds_next _ _ _))

pub returns : goal.returns
returns c = let e : c.loop-k.k-index ≡ length c.args.kinds.now = omega arith in rw e at c.loop-k.invariant ∙ kinds_all _ _
