-- The number's text is that of the library. Assumes nothing.
use Rattle.std.proofs.Common.{arith, ap, ◌∙◌, length-append}
use mathlib.Core.List.{List, ◌++◌}
use Prim.Native.Nat.{ℕ}
use lib.ListN.{length}
use Rattle.worklist_text.specs.TextFacts.{decimal_printed}
use Rattle.worklist_text.proofs.text.push_number.Goals as goal

pub push_str-requires : goal.push_str-requires
push_str-requires c =
    let same = c.format.ensures.text ∙ decimal_printed c.args.n (omega (arith, c.ranges.n.fits)) in
    (omega arith, omega (arith, simp length-append at c.requires, ap (λ (l : List ℕ). length l) same))

pub push_str-requires-2 : goal.push_str-requires-2
push_str-requires-2 c =
    let same = c.format.ensures.text ∙ decimal_printed c.args.n (omega (arith, c.ranges.n.fits)) in
    (omega arith, omega (arith, simp length-append at c.requires, c.push_str.ensures.len, ap (λ (l : List ℕ). length l) same))

pub returns : goal.returns
returns c =
    let same = c.format.ensures.text ∙ decimal_printed c.args.n (omega (arith, c.ranges.n.fits)) in
    c.push_str-2.ensures.bytes ∙ ap (λ (l : List ℕ). l ++ c.args.after.now) (c.push_str.ensures.bytes ∙ ap (λ (l : List ℕ). c.args.text.now.bytes ++ l) same)
