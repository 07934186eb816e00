-- What the code of the text rests on: digits, lines, and how long they are. Assumes nothing.
use Rattle.std.specs.Prelude.{ℕ, zero, suc, ◌+◌, ◌*◌, ◌/◌, ◌≤◌, ◌<◌, ◌^◌, ◌≡◌, refl, cond, length, get_or, take, ltb}
use Rattle.std.proofs.Common.{drop, add-one, arith, sym, ap, ◌∙◌, ⊎_elim, length-append, take_all, lt-ltb, le-ltb}
use mathlib.Core.List.{List, [], ◌∷◌, ◌++◌, flat_map, append_assoc}
use Rattle.lists.specs.Bounded.{lt_or_le}
use Rattle.lists.specs.Range.{range, flat_map_range, flat_map_none, flat_map_below, flat_map_take, AllIn}
use Rattle.std.specs.Fmt as fmt
use Rattle.std.proofs.lemmas.List.{get_or-drop, length-drop, drop-drop}
use Rattle.std.proofs.Math.ListN.{get_or-append}
use Rattle.std.proofs.Math.Seq.{drop-append_seam}
use Rattle.std.proofs.lemmas.Fmt.{AppendsLastDigit, decimal_from_appends, length-decimal-le}
use Rattle.cell_pairs.specs.declared.WorkRecord.{WorkRecord}
use Rattle.cell_pairs.specs.Records.{rec, width, flat, record_at}
use Rattle.cell_pairs.specs.RecordsFacts.{length_flat, flat_at}
use Rattle.worklist_text.specs.Text.{digits, decimal, line_of, refused_line}
use Rattle.worklist_text.specs.Lines.{refused_word, lines_of}

-- ---- digits

-- the text that the library prints
appends : AppendsLastDigit digits
unfolding digits
appends =
    record {
      one = λ k n h. rw (lt-ltb n 10 h) (ap (λ (d : ℕ). (48 + d) ∷ []) (omega (arith, h)));
      more = λ k n h. rw (le-ltb n 10 h);
    }

pub decimal_printed : (n : ℕ) → n < 2 ^ 32 → fmt.decimal n ≡ decimal n
decimal_printed n h = sym (decimal_from_appends digits appends 10 n (omega arith) (length-decimal-le 10 n (omega arith) (omega arith) (omega arith)))

-- a number below 10^k has at most k digits
digits_short : (j k n : ℕ) → n < 10 ^ suc k → length (digits j n) ≤ suc k
unfolding digits
digits_short zero k n h = omega arith
digits_short (suc j) zero n h = rw (lt-ltb n 10 (omega arith)) (omega arith)
digits_short (suc j) (suc k) n h =
    rw length-append (⊎_elim few (λ l. many l (digits_short j k (n / 10) (omega arith))) (lt_or_le n 10))
  where
    few : n < 10 → length (cond (ltb n 10) [] (digits j (n / 10))) + 1 ≤ suc (suc k)
    few l = rw (lt-ltb n 10 l) (omega arith)

    many : 10 ≤ n → length (digits j (n / 10)) ≤ suc k → length (cond (ltb n 10) [] (digits j (n / 10))) + 1 ≤ suc (suc k)
    many l shorter = rw (le-ltb n 10 l) (omega arith)

pub decimal_short : (n : ℕ) → n < 1000 → length (decimal n) ≤ 3
decimal_short n h = digits_short 10 2 n (omega arith)

-- ---- lines

-- a line is three numbers, each with the byte after it
pub line_parts : (p i j : ℕ) → line_of (rec p i j) ≡ (decimal p ++ (32 ∷ [])) ++ ((decimal i ++ (32 ∷ [])) ++ (decimal j ++ (10 ∷ [])))
unfolding line_of
line_parts p i j = simp append_assoc

pub line_length : (p i j : ℕ) → length (line_of (rec p i j)) ≡ length (decimal p) + length (decimal i) + length (decimal j) + 3
line_length p i j = rw (line_parts p i j) (simp length-append (omega arith))

-- `refused ` and a number
pub refused_parts : (n : ℕ) → refused_line n ≡ refused_word ++ (decimal n ++ (10 ∷ []))
unfolding refused_line
refused_parts n = refl

-- the lines of records laid out as numbers
flat_map_each : {A B : Type 0} (f : A → List B) (xs : List A) (d : A) (n : ℕ) → n ≤ length xs → flat_map (λ k. f (get_or xs k d)) (range n) ≡ flat_map f (take n xs)
unfolding flat_map
flat_map_each f xs d zero h = flat_map_none _
flat_map_each f xs d (suc n) h =
    rw (← add-one n)
    (flat_map_range (λ k. f (get_or xs k d)) n
    ∙ ap (λ (l : List _). l ++ f (get_or xs n d)) (flat_map_each f xs d n (omega arith))
    ∙ sym (flat_map_take f xs d n (omega arith)))

-- the next record of a list whose first k are passed: what is left begins with it
pub record_next : (work rest x more : List ℕ) (k : ℕ) → rest ≡ drop (width * k) work → rest ≡ x ++ more → length x ≡ width → width * k ≤ length work
    → (record_at x 0 ≡ record_at work k) × (more ≡ drop (width * (k + 1)) work) × (width * (k + 1) ≤ length work)
unfolding record_at
record_next work rest x more k left next three room =
    let long : length work ≡ width * k + (width + length more) = omega (arith, length-drop (width * k) work, ap (λ (l : List ℕ). length l) left, ap (λ (l : List ℕ). length l) next, length-append x more, three) in
    let after : more ≡ drop (width * (k + 1)) work =
    sym (ap (λ (n : ℕ). drop n (x ++ more)) (sym three) ∙ drop-append_seam x more) ∙ ap (drop width) (sym next ∙ left) ∙ drop-drop width (width * k) work ∙ ap (λ (n : ℕ). drop n work) (omega arith) in
    let first : get_or x 0 0 ≡ get_or work (width * k) 0 = at 0 (omega arith) ∙ ap (λ (n : ℕ). get_or work n 0) (omega arith) in
    (rw (first, at 1 (omega arith), at 2 (omega arith)) refl, after, omega (arith, long))
  where
    at : (j : ℕ) → j < width → get_or x j 0 ≡ get_or work (width * k + j) 0
    at j h = sym (get_or-append x more 0 j (omega (arith, three))) ∙ ap (λ (l : List ℕ). get_or l j 0) (sym next ∙ left) ∙ get_or-drop (width * k) work j 0

pub lines_flat : (rs : List WorkRecord) → lines_of (flat rs) ≡ flat_map line_of rs
unfolding lines_of record_at
lines_flat rs =
    let n : length (flat rs) / width ≡ length rs = omega (arith, length_flat rs) in
    ap (λ (k : ℕ). flat_map (λ k. line_of (record_at (flat rs) k)) (range k)) n
    ∙ flat_map_below _ (λ k. line_of (get_or rs k (rec 0 0 0))) (length rs) one
    ∙ flat_map_each line_of rs (rec 0 0 0) (length rs) (omega arith)
    ∙ ap (flat_map line_of) (take_all (length rs) rs (omega arith))
  where
    one : (k : ℕ) → k < length rs → line_of (record_at (flat rs) k) ≡ line_of (get_or rs k (rec 0 0 0))
    one k h = ap line_of (flat_at rs k h)

-- ---- how long lines are

-- a record of numbers of at most three digits
pub record Short (r : WorkRecord) : Type 0 where
  pub pattern : r.pattern < 1000
  pub test : r.test < 1000
  pub trial : r.trial < 1000

line_short : (r : WorkRecord) → Short r → length (line_of r) ≤ 12
line_short r h =
    omega (arith, line_length r.pattern r.test r.trial, decimal_short r.pattern h.pattern, decimal_short r.test h.test, decimal_short r.trial h.trial)

pub lines_short : (rs : List WorkRecord) → AllIn Short rs → length (flat_map line_of rs) ≤ 12 * length rs
unfolding AllIn flat_map
lines_short [] h = omega arith
lines_short (r ∷ rs) h = rw length-append (omega (arith, line_short r h.0, lines_short rs h.1))

-- whatever the number
digits_most : (k n : ℕ) → length (digits k n) ≤ k
unfolding digits
digits_most zero n = omega arith
digits_most (suc k) n = rw length-append (⊎_elim few (λ l. many l (digits_most k (n / 10))) (lt_or_le n 10))
  where
    few : n < 10 → length (cond (ltb n 10) [] (digits k (n / 10))) + 1 ≤ suc k
    few l = rw (lt-ltb n 10 l) (omega arith)

    many : 10 ≤ n → length (digits k (n / 10)) ≤ k → length (cond (ltb n 10) [] (digits k (n / 10))) + 1 ≤ suc k
    many l shorter = rw (le-ltb n 10 l) (omega arith)

pub refused_short : (n : ℕ) → length (refused_line n) ≤ 19
refused_short n = rw refused_parts (simp length-append (omega (arith, digits_most 10 n)))
