-- A read behind those before it: what it gave stands behind what they gave. Assumes nothing.
use Rattle.std.proofs.Common.{◌≡◌, ℕ, ◌+◌, ◌≤◌, List, ◌++◌, length, take, None, Some, rules, sym, ap, ◌∙◌, subst, append_assoc, length-take-le}
use Rattle.std.proofs.lemmas.List.{take-append-le}
use Rattle.std.proofs.Math.Seq.{take-append-add}
use Rattle.std.specs.Prelude.{Option}
use Rattle.std.specs.Io.KnownBytes.{Consumes}
use borrow.Rule.Slice.PartMut.{put_mid, post_of}
use Rattle.full_reads.proofs.Source.read_full.Goals as goal

consumes_both : (a b c : Option (List ℕ)) (bs cs : List ℕ) → Consumes a b bs → Consumes b c cs → Consumes a c (bs ++ cs)
consumes_both None b c bs cs p q = tt
consumes_both (Some x) None c bs cs p q = absurd p
consumes_both (Some x) (Some y) None bs cs p q = absurd q
consumes_both (Some x) (Some y) (Some z) bs cs p q = p ∙ ap (λ l. bs ++ l) q ∙ sym (append_assoc bs cs z)

front : (a k n : ℕ) (xs ys : List ℕ) → a ≤ length xs → n ≤ length ys → take a xs ++ take n ys ≡ take (a + n) (put_mid a k xs ys)
front a k n xs ys within fits =
    let rest = ys ++ post_of a k xs in
    let long : length (take a xs) ≡ a = length-take-le a xs within in
    sym (ap (λ m. take (m + n) (take a xs ++ rest)) (sym long) ∙ take-append-add (take a xs) rest n ∙ ap (λ l. take a xs ++ l) (take-append-le n ys _ fits))

pub loop-done-preserved : goal.loop-done-preserved
loop-done-preserved g c =
    let was = c.loop-done in
    let got = c.read_once-got in
    record {
      within = search rules;
      bytes = subst (Consumes _ _) (front was.done _ got.result was.piece got.new.piece was.invariant.within got.ensures.within) (consumes_both _ _ _ _ _ was.invariant.bytes got.ensures.bytes);
      failed = λ none. was.invariant.failed (got.ensures.failed none);
    }
