-- See Invariants.antt. Assumes nothing.
use Prim.Native.Nat.{◌≤◌}
use native.Mathlib.Omega.{arith}
use mathlib.Core.Path.{refl}
use Rattle.function.specs.ColoursFacts.{filled_none, filled_more, filled_all, front_le, smallest_le, marks_none}
use Rattle.function.proofs.colouring.colour_grouped.Goals as goal

pub loop-i-init : goal.loop-i-init
loop-i-init c = (filled_none _ _, marks_none)

pub next_colour-colour-requires-clause-earlier : goal.next_colour-colour-requires-clause-earlier
next_colour-colour-requires-clause-earlier c =
    let inv = c.loop-i.invariant in
    record {
      place = omega arith;
      below = omega (arith, c.requires.rows_len, inv.0.long);
      low = λ j b. omega (arith, front_le inv.0 j b, c.requires.rows_len, inv.0.long);
    }

pub overflow_cast-colours : goal.overflow_cast-colours
overflow_cast-colours c =
    let b : c.next_colour-colour.result ≤ c.loop-i.i = rw c.next_colour-colour.ensures.value (smallest_le _ _ _) in
    omega (arith, c.requires.rows_len, c.loop-i.invariant.0.long)

pub loop-i-preserved : goal.loop-i-preserved
loop-i-preserved c =
    let inv = c.loop-i.invariant in
    (filled_more inv.0 _ c.next_colour-colour.ensures.value (omega (arith, inv.0.long)), c.next_colour-colour.ensures.marks_2)

pub returns : goal.returns
returns c = filled_all c.loop-i.invariant.0 _ (omega (arith, c.loop-i.invariant.0)) refl
