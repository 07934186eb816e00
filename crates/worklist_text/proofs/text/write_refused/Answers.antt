-- The word, then the number. Assumes nothing.
use Rattle.std.proofs.Common.{arith, ap, length-append}
use Prim.Native.Nat.{ℕ}
use mathlib.Core.List.{List, append_assoc}
use lib.ListN.{length}
use Rattle.worklist_text.specs.TextFacts.{refused_parts, refused_short}
use Rattle.worklist_text.proofs.text.write_refused.Goals as goal

pub push_number-requires : goal.push_number-requires
push_number-requires c =
    let whole = simp length-append at (ap (λ (l : List ℕ). length l) (refused_parts c.args.n)) in
    rw (c.push_str.ensures.bytes, c.clear.ensures) (simp length-append (omega (arith, whole, refused_short c.args.n)))

pub returns : goal.returns
returns c = rw (c.push_number.ensures, c.push_str.ensures.bytes, c.clear.ensures, refused_parts c.args.n) (simp append_assoc)
