-- See Invariants.antt. Assumes nothing.
use Rattle.std.proofs.Common.{◌≡◌, ◌+◌, sym, ap, ◌∙◌, arith, length-append}
use Prim.Native.Nat.{ℕ, ◌/◌, ◌*◌}
use mathlib.Core.List.{List, [], ◌∷◌, ◌++◌, flat_map}
use Rattle.std.proofs.lemmas.List.{length-drop}
use Rattle.std.specs.Slice.Iter.{chunks_exact_rest, chunks_exact_size}
use lib.ListN.{length}
use Rattle.lists.specs.Range.{range, flat_map_range, range_front}
use Rattle.cell_pairs.specs.Records.{width, record_at}
use Rattle.worklist_text.specs.Text.{line_of}
use Rattle.worklist_text.specs.TextFacts.{record_next}
use Rattle.worklist_text.specs.Lines.{lines_of}
use Rattle.worklist_text.proofs.text.write_lines.Goals as goal

pub loop-record-init : goal.loop-record-init
unfolding range flat_map
loop-record-init c =
    let from = c.into_iter-record-iterator.ensures.into_iter_gives in
    let items = c.chunks_exact-record-items.ensures in
    record { size = ap chunks_exact_size from ∙ items.size; rest = ap chunks_exact_rest from ∙ items.rest; room = omega arith; text = c.clear.ensures }

pub push_line-requires : goal.push_line-requires
unfolding lines_of
push_line-requires c =
    let at = c.loop-record.invariant in
    let k = length c.loop-record.yielded in
    let next = record_next c.args.work.now _ _ _ k at.rest c.in-Some.ensures.steps.1.0 (c.in-Some.ensures.steps.1.1 ∙ at.size) at.room in
    let f = λ (i : ℕ). line_of (record_at c.args.work.now i) in
    let text = ap (λ (l : List ℕ). length l) at.text in
    let more = simp length-append at (ap (λ (l : List ℕ). length l) (flat_map_range f k)) in
    rw (c.record_at.ensures, next.0) (omega (arith, c.requires, text, more, range_front f (k + 1) (length c.args.work.now / width) (omega (arith, next.2))))

pub loop-record-preserved : goal.loop-record-preserved
loop-record-preserved c =
    let at = c.loop-record.invariant in
    let k = length c.loop-record.yielded in
    let steps = c.in-Some.ensures.steps in
    let next = record_next c.args.work.now _ _ _ k at.rest steps.1.0 (steps.1.1 ∙ at.size) at.room in
    let f = λ (i : ℕ). line_of (record_at c.args.work.now i) in
    let one : length (c.loop-record.yielded ++ c.in-Some.record ∷ []) ≡ k + 1 = length-append c.loop-record.yielded (c.in-Some.record ∷ []) in
    rw one
    (record {
      size = steps.0 ∙ at.size;
      rest = next.1;
      room = next.2;
      text = c.push_line.ensures ∙ rw (at.text, c.record_at.ensures, next.0) (sym (flat_map_range f k));
    })

pub returns : goal.returns
unfolding lines_of
returns c =
    let at = c.loop-record.invariant in
    let k = length c.loop-record.yielded in
    let left = c.in-None.ensures.steps.1.0 in
    let rest = ap (λ (l : List ℕ). length l) at.rest in
    let all : k ≡ length c.args.work.now / width = omega (arith, left, rest, length-drop (width * k) c.args.work.now, at.room, at.size) in
    at.text ∙ ap (λ (n : ℕ). flat_map (λ (i : ℕ). line_of (record_at c.args.work.now i)) (range n)) all
