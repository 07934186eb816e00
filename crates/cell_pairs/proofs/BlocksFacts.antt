-- The touching part comes block after block of the pattern table, each as long as the touching pairs of its two kinds; and laws of records that come so. Assumes
-- nothing.
use Rattle.std.specs.Prelude.{ℕ, zero, suc, ◌+◌, ◌-◌, ◌*◌, ◌<◌, ◌≤◌, min, ◌≡◌, Bool, true, false, length, get_or, take}
use Rattle.std.proofs.Common.{zero-mul, suc-mul, arith, sym, ◌∙◌, ⊎_elim, length-append, get_or-append-add, eqb-true, lt-ltb, le-ltb}
use Rattle.std.proofs.Math.Path.{refl, ap, ap₂}
use mathlib.Core.List.{List, [], ◌∷◌, ◌++◌, flat_map, append_assoc, append-nil}
use Rattle.std.proofs.Math.ListN.{get_or-append}
use Rattle.std.proofs.Math.Dec.{eqb}
use Rattle.lists.specs.Bool.{◌and◌, and_left, and_right}
use Rattle.lists.specs.Bounded.{all, all_at, lt_or_le}
use Rattle.lists.specs.Range.{range, flat_map_ext, flat_map_sum, AllIn, all_in_below, all_in_weaken, all_in_at}
use Rattle.lists.specs.Total.{total, count, total_append, total_nil, gate}
use Rattle.grid.specs.Mesh.{Mesh, kind, corners}
use Rattle.cell_pairs.specs.declared.WorkRecord.{WorkRecord}
use Rattle.cell_pairs.specs.Records.{rec, pattern_count}
use Rattle.cell_pairs.specs.Matches.{matches}
use Rattle.cell_pairs.specs.Table.{Pattern, pattern, table, pattern_at}
use Rattle.cell_pairs.proofs.TableFacts.{number_at}
use Rattle.cell_pairs.specs.WorkList.{touching_pattern, touching_part, sharing_of}
use Rattle.cell_pairs.proofs.WorkRecordsFacts.{Marked, pattern_each}
use Rattle.cell_pairs.specs.Counting.{Patterned, of_kinds}
use Rattle.cell_pairs.proofs.Counting.{count_kinds}
use Rattle.cell_pairs.specs.Blocks.{Block, BlockEnds, blocks_of, block_at, entries_before, OfKinds, Blocked}

-- ---- records that come block after block

abbrev no_record : WorkRecord
no_record = rec 0 0 0

-- the numbers put cells of its kinds at each record
pub blocked_kinds : (m : Mesh) (bs : List Block) (rs : List WorkRecord) → Blocked m bs rs → (q : ℕ) → q < length rs
    → OfKinds m (block_at bs q).test_kind (block_at bs q).trial_kind (get_or rs q (rec 0 0 0))
unfolding Blocked block_at
blocked_kinds m [] rs e q l =
    let empty : length rs ≡ 0 = ap length e in
    absurd (omega arith)
blocked_kinds m (b ∷ bs) rs (xs, ys, e, n, a, more) q l =
    ⊎_elim
    (λ h.
    rw (lt-ltb q b.pairs h, e, get_or-append xs ys no_record q (omega (arith, n)))
    (all_in_at (OfKinds m b.test_kind b.trial_kind) xs a no_record q (omega (arith, n))))
    (λ h.
    let place : length xs + (q - b.pairs) ≡ q = omega (arith, n) in
    let here : get_or rs q no_record ≡ get_or ys (q - b.pairs) no_record =
    ap (λ (l : List WorkRecord). get_or l q no_record) e ∙ ap (λ (k : ℕ). get_or (xs ++ ys) k no_record) (sym place) ∙ get_or-append-add xs ys (q - b.pairs) no_record in
    let inside : q - b.pairs < length ys = omega (arith, ap length e, length-append xs ys, n) in
    rw (le-ltb q b.pairs h, here) (blocked_kinds m bs ys more (q - b.pairs) inside))
    (lt_or_le q b.pairs)

-- and the entries of the first q records are as many as these have one by one
take_front : {A : Type 0} (xs ys : List A) (q : ℕ) → take q (xs ++ ys) ≡ take q xs ++ take (q - length xs) ys
take_front [] ys zero = refl
take_front [] ys (suc q) =
    let e : suc q ≡ suc q - 0 = omega arith in
    ap (λ (k : ℕ). take k ys) e
take_front (x ∷ xs) ys zero =
    let e : 0 ≡ 0 - suc (length xs) = omega arith in
    ap (λ (k : ℕ). take k ys) e
take_front {A} (x ∷ xs) ys (suc q) =
    let e : q - length xs ≡ suc q - suc (length xs) = omega arith in
    ap (λ (l : List A). x ∷ l) (take_front xs ys q ∙ ap (λ (k : ℕ). take q xs ++ take k ys) e)

total_kinded : (m : Mesh) (size : ℕ → ℕ → ℕ) (n k : ℕ) (xs : List WorkRecord) → AllIn (OfKinds m n k) xs → (q : ℕ)
    → total (λ r. size (kind m r.test) (kind m r.trial)) (take q xs) ≡ min q (length xs) * size n k
unfolding AllIn total
total_kinded m size n k [] a zero = sym (zero-mul (size n k))
total_kinded m size n k [] a (suc q) =
    let e : min (suc q) 0 ≡ 0 = omega arith in
    rw e (sym (zero-mul (size n k)))
total_kinded m size n k (x ∷ xs) a zero =
    let e : min 0 (suc (length xs)) ≡ 0 = omega arith in
    rw e (sym (zero-mul (size n k)))
total_kinded m size n k (x ∷ xs) a (suc q) =
    let e : min (suc q) (suc (length xs)) ≡ suc (min q (length xs)) = omega arith in
    let here : size (kind m x.test) (kind m x.trial) ≡ size n k = ap₂ size a.0.test a.0.trial in
    ap₂ ◌+◌ here (total_kinded m size n k xs a.1 q) ∙ omega (arith, suc-mul (min q (length xs)) (size n k), ap (λ (j : ℕ). j * size n k) e)

pub blocked_entries : (m : Mesh) (size : ℕ → ℕ → ℕ) (bs : List Block) (rs : List WorkRecord) → Blocked m bs rs → (q : ℕ)
    → entries_before size bs q ≡ total (λ r. size (kind m r.test) (kind m r.trial)) (take q rs)
unfolding Blocked entries_before
blocked_entries m size [] rs e q = sym (ap (λ (l : List WorkRecord). total (λ r. size (kind m r.test) (kind m r.trial)) (take q l)) e ∙ none q)
  where
    none : (q : ℕ) → total (λ (r : WorkRecord). size (kind m r.test) (kind m r.trial)) (take q []) ≡ 0
    none zero = total_nil _
    none (suc q) = total_nil _
blocked_entries m size (b ∷ bs) rs (xs, ys, e, n, a, more) q =
    let weight : WorkRecord → ℕ = λ r. size (kind m r.test) (kind m r.trial) in
    sym
    (ap (λ (l : List WorkRecord). total weight (take q l)) e
    ∙ ap (total weight) (take_front xs ys q)
    ∙ total_append weight (take q xs) (take (q - length xs) ys)
    ∙ ap₂ ◌+◌ (total_kinded m size b.test_kind b.trial_kind xs a q) (sym (blocked_entries m size bs ys more (q - length xs)))
    ∙ ap (λ (l : ℕ). min q l * size b.test_kind b.trial_kind + entries_before size bs (q - l)) n)

-- ---- the blocks of the table

-- pattern p of those from start on is of kinds n and k
abbrev from_block : ℕ → ℕ → ℕ → ℕ → Bool
from_block start n k p = eqb (pattern_at (start + p)).test n and eqb (pattern_at (start + p)).trial k

-- 28 patterns of two triangles, 36 of a triangle and a quad, 36 of a quad and a triangle, 49 of two quads
first_computed : all 28 (from_block 0 3 3) ≡ true
unfolding all ◌and◌ table
first_computed = refl

second_computed : all 36 (from_block 28 3 4) ≡ true
unfolding all ◌and◌ table
second_computed = refl

third_computed : all 36 (from_block 64 4 3) ≡ true
unfolding all ◌and◌ table
third_computed = refl

fourth_computed : all 49 (from_block 100 4 4) ≡ true
unfolding all ◌and◌ table
fourth_computed = refl

module _ (m : Mesh) (h : Patterned m) where
  -- a record of pattern p has the kinds of the table's pattern p
  marked_kinds : (p : ℕ) (r : WorkRecord) → Marked m p r → OfKinds m (pattern_at p).test (pattern_at p).trial r
  marked_kinds p r a =
      let t = a.touching in
      let xs = corners m r.test in
      let ys = corners m r.trial in
      let listed : pattern_at p ≡ pattern (length xs) (length ys) (matches xs ys) =
      ap pattern_at (sym a.here ∙ t.marked) ∙ number_at (pattern (length xs) (length ys) (matches xs ys)) (omega (arith, t.marked, t.known)) in
      record {
        test = sym (ap (λ (x : Pattern). x.test) listed ∙ h.long r.test t.test_cell);
        trial = sym (ap (λ (x : Pattern). x.trial) listed ∙ h.long r.trial t.trial_cell);
      }

  -- the touching records of so many patterns from start on
  abbrev records : ℕ → ℕ → List WorkRecord
  records start many = flat_map (λ p. touching_pattern m (start + p)) (range many)

  records_kinds : (start many n k : ℕ) → start + many ≤ pattern_count → all many (from_block start n k) ≡ true → AllIn (OfKinds m n k) (records start many)
  records_kinds start many n k l e =
      all_in_below (OfKinds m n k) _ many
      (λ p u.
      let both : from_block start n k p ≡ true = all_at many (from_block start n k) e p u in
      all_in_weaken (Marked m (start + p)) (OfKinds m n k)
      (λ r a.
      let here = marked_kinds (start + p) r a in
      record {
        test = here.test ∙ eqb-true _ _ (and_left _ _ both);
        trial = here.trial ∙ eqb-true _ _ (and_right (eqb (pattern_at (start + p)).test n) _ both);
      })
      (touching_pattern m (start + p)) (pattern_each m (start + p) (omega arith)))

  -- of records that have kinds a and b, those of kinds n and k are all or none
  kinded_count : (n k a b : ℕ) (xs : List WorkRecord) → AllIn (OfKinds m a b) xs → count (λ r. of_kinds m n k r.test r.trial) xs ≡ gate (eqb a n and eqb b k) (length xs)
  unfolding AllIn total
  kinded_count n k a b xs each = go (eqb a n and eqb b k) refl xs each
    where
      same : (r : WorkRecord) → OfKinds m a b r → of_kinds m n k r.test r.trial ≡ (eqb a n and eqb b k)
      same r e = ap₂ (λ (i j : ℕ). eqb i n and eqb j k) e.test e.trial

      go : (t : Bool) → (eqb a n and eqb b k) ≡ t → (xs : List WorkRecord) → AllIn (OfKinds m a b) xs → count (λ r. of_kinds m n k r.test r.trial) xs ≡ gate t (length xs)
      go true e [] each = refl
      go true e (x ∷ xs) each = rw (same x each.0, e) (omega (arith, go true e xs each.1))
      go false e [] each = refl
      go false e (x ∷ xs) each = rw (same x each.0, e) (omega (arith, go false e xs each.1))

  -- ---- the four blocks of the touching part

  abbrev first : List WorkRecord
  first = records 0 28

  abbrev second : List WorkRecord
  second = records 28 36

  abbrev third : List WorkRecord
  third = records 64 36

  abbrev fourth : List WorkRecord
  fourth = records 100 49

  first_kinds : AllIn (OfKinds m 3 3) first
  first_kinds = records_kinds 0 28 3 3 (omega arith) first_computed

  second_kinds : AllIn (OfKinds m 3 4) second
  second_kinds = records_kinds 28 36 3 4 (omega arith) second_computed

  third_kinds : AllIn (OfKinds m 4 3) third
  third_kinds = records_kinds 64 36 4 3 (omega arith) third_computed

  fourth_kinds : AllIn (OfKinds m 4 4) fourth
  fourth_kinds = records_kinds 100 49 4 4 (omega arith) fourth_computed

  until_first : flat_map (touching_pattern m) (range 28) ≡ first
  until_first = flat_map_ext _ _ (λ p. let e : p ≡ 0 + p = omega arith in ap (touching_pattern m) e) (range 28)

  until_second : flat_map (touching_pattern m) (range 64) ≡ first ++ second
  until_second = flat_map_sum (touching_pattern m) 28 36 ∙ ap (λ (l : List WorkRecord). l ++ second) until_first

  until_third : flat_map (touching_pattern m) (range 100) ≡ flat_map (touching_pattern m) (range 64) ++ third
  until_third = flat_map_sum (touching_pattern m) 64 36

  until_fourth : flat_map (touching_pattern m) (range pattern_count) ≡ flat_map (touching_pattern m) (range 100) ++ fourth
  until_fourth = flat_map_sum (touching_pattern m) 100 49

  touching_blocks : touching_part m ≡ first ++ (second ++ (third ++ (fourth ++ [])))
  unfolding touching_part
  touching_blocks =
      until_fourth
      ∙ ap (λ (l : List WorkRecord). l ++ fourth) (until_third ∙ ap (λ (l : List WorkRecord). l ++ third) until_second)
      ∙ rw (append-nil fourth, append_assoc first second third, append_assoc first (second ++ third) fourth, append_assoc second third fourth)

  -- the records of kinds n and k, counted block by block
  counted : (n k : ℕ)
      → sharing_of m n k
      ≡ gate (eqb 3 n and eqb 3 k) (length first) + (gate (eqb 3 n and eqb 4 k) (length second) + (gate (eqb 4 n and eqb 3 k) (length third) + (gate (eqb 4 n and eqb 4 k) (length fourth) + 0)))
  counted n k =
      let w : WorkRecord → ℕ = λ r. gate (of_kinds m n k r.test r.trial) 1 in
      sym (count_kinds m h n k)
      ∙ ap (total w) touching_blocks
      ∙ total_append w first _
      ∙ ap₂ ◌+◌ (kinded_count n k 3 3 first first_kinds)
      (total_append w second _
      ∙ ap₂ ◌+◌ (kinded_count n k 3 4 second second_kinds)
      (total_append w third _ ∙ ap₂ ◌+◌ (kinded_count n k 4 3 third third_kinds) (total_append w fourth [] ∙ ap₂ ◌+◌ (kinded_count n k 4 4 fourth fourth_kinds) (total_nil w))))

  first_long : length first ≡ sharing_of m 3 3
  unfolding ◌and◌
  first_long = omega (arith, counted 3 3)

  second_long : length second ≡ sharing_of m 3 4
  unfolding ◌and◌
  second_long = omega (arith, counted 3 4)

  third_long : length third ≡ sharing_of m 4 3
  unfolding ◌and◌
  third_long = omega (arith, counted 4 3)

  fourth_long : length fourth ≡ sharing_of m 4 4
  unfolding ◌and◌
  fourth_long = omega (arith, counted 4 4)

  -- the touching part comes block after block, each with the touching pairs of its two kinds
  pub touching_blocked : Blocked m (blocks_of m) (touching_part m)
  unfolding Blocked
  touching_blocked = (
    first,
    second ++ (third ++ (fourth ++ [])),
    touching_blocks,
    first_long,
    first_kinds,
    (second, third ++ (fourth ++ []), refl, second_long, second_kinds, (third, fourth ++ [], refl, third_long, third_kinds, (fourth, [], refl, fourth_long, fourth_kinds, refl))),
  )

-- ---- where each block ends

pub block_ends : (m : Mesh) → Patterned m → BlockEnds m
block_ends m h =
    let two : length (flat_map (touching_pattern m) (range 64)) ≡ sharing_of m 3 3 + sharing_of m 3 4 =
    ap length (until_second m h) ∙ length-append (first m h) (second m h) ∙ ap₂ ◌+◌ (first_long m h) (second_long m h) in
    let three : length (flat_map (touching_pattern m) (range 100)) ≡ sharing_of m 3 3 + sharing_of m 3 4 + sharing_of m 4 3 =
    ap length (until_third m h) ∙ length-append (flat_map (touching_pattern m) (range 64)) (third m h) ∙ ap₂ ◌+◌ two (third_long m h) in
    record {
      first = ap length (until_first m h) ∙ first_long m h;
      second = two;
      third = three;
      fourth = ap length (until_fourth m h) ∙ length-append (flat_map (touching_pattern m) (range 100)) (fourth m h) ∙ ap₂ ◌+◌ three (fourth_long m h);
    }
