-- A line is three numbers, each with what stands after it. Assumes nothing.
use Rattle.std.proofs.Common.{arith, ap, length-append}
use mathlib.Core.List.{List, append_assoc}
use Prim.Native.Nat.{ℕ}
use lib.ListN.{length}
use Rattle.worklist_text.specs.TextFacts.{line_parts, line_length}
use Rattle.worklist_text.proofs.text.push_line.Goals as goal

pub push_number-requires : goal.push_number-requires
push_number-requires c =
    simp length-append (omega (arith, c.requires, line_length c.args.item.pattern c.args.item.test c.args.item.trial))

pub push_number-requires-2 : goal.push_number-requires-2
push_number-requires-2 c =
    let first = simp length-append at (ap (λ (l : List ℕ). length l) c.push_number.ensures) in
    simp length-append (omega (arith, c.requires, line_length c.args.item.pattern c.args.item.test c.args.item.trial, first))

pub push_number-requires-3 : goal.push_number-requires-3
push_number-requires-3 c =
    let first = simp length-append at (ap (λ (l : List ℕ). length l) c.push_number.ensures) in
    let second = simp length-append at (ap (λ (l : List ℕ). length l) c.push_number-2.ensures) in
    simp length-append (omega (arith, c.requires, line_length c.args.item.pattern c.args.item.test c.args.item.trial, first, second))

pub returns : goal.returns
returns c =
    rw (c.push_number-3.ensures, c.push_number-2.ensures, c.push_number.ensures, line_parts c.args.item.pattern c.args.item.test c.args.item.trial) (simp append_assoc)
