-- Laws of the kinds of the cells: what check 26 says of them, and that the kind of a cell is present, and once. Assumes nothing.
use Rattle.std.specs.Prelude.{ℕ, zero, suc, ◌+◌, ◌-◌, ◌*◌, ◌<◌, ◌≤◌, Bool, false, ◌&&◌, ◌≡◌, refl, ◌⊎◌, List, [], ◌∷◌, ◌++◌, length, get_or, take, drop, ltb}
use Rattle.std.proofs.Common.{add-mul, one-mul, zero-mul, not-suc-le-zero, le_of_suc-le-suc, arith, sym, ap₂, subst, ◌∙◌, length-drop, get_or-take, get_or-drop, take_all, length-take-le}
use Rattle.std.proofs.Math.Bool.{true}
use Rattle.std.proofs.Math.Path.{ap}
use Rattle.std.proofs.Math.Logic.{inl, inr, ⊎_elim}
use Rattle.std.proofs.Math.Dec.{eqb}
use borrow.Author.Tests.{lt-ltb, eq-eqb, ne_eqb, eqb-true}
use Rattle.lists.specs.Bool.{◌and◌, ◌or◌, every, every_at, every_fails, every_of, ◌also◌, end, and_left, and_right, and_both, and_no_left, or_left, or_right, same_test, cases}
use Rattle.lists.specs.Bounded.{all, all_at, all_of, all_next, all_ext, all_sum, lt_or_le}
use Rattle.lists.specs.Total.{total, total_append, gate, total_filter}
use Rattle.grid.specs.Cells.{before}
use Rattle.grid.specs.CellsFacts.{before_more, before_most}
use Rattle.grid.specs.Mesh.{cells_of, kinds_present, kinds_right, kinds_match}
use Rattle.grid.specs.Facts.{kinds_long_lem, kind_known}

-- each of C cells has a kind, and it is 3 or 4
pub record Kinded (C : ℕ) (ks : List ℕ) : Type 0 where
  pub long : length ks ≡ C
  pub each : (i : ℕ) → i < C → (get_or ks i 0 ≡ 3) ⊎ (get_or ks i 0 ≡ 4)

-- so check 26 says
pub kinded : (C : ℕ) (ks : List ℕ) → kinds_right C ks ≡ true → Kinded C ks
kinded C ks e = record { long = kinds_long_lem C ks e; each = kind_known C ks e }

-- ---- how many cells are of a kind

-- how many of the first i cells are
abbrev pub kinds_to : List ℕ → ℕ → ℕ → ℕ
kinds_to ks n i = before (λ k. gate (eqb k n) 1) ks i

-- the numbers of all cells, cell by cell
before_first : (w : ℕ → ℕ) (k : ℕ) (ks : List ℕ) (i : ℕ) → before w (k ∷ ks) (suc i) ≡ w k + before w ks i
unfolding before
before_first w k ks zero = omega arith
before_first w k ks (suc i) = omega (arith, before_first w k ks i)

before_total : (w : ℕ → ℕ) (ks : List ℕ) → before w ks (length ks) ≡ total w ks
unfolding before total
before_total w [] = refl
before_total w (k ∷ ks) = before_first w k ks (length ks) ∙ ap (λ (t : ℕ). w k + t) (before_total w ks)

pub kinds_all : (ks : List ℕ) (n : ℕ) → kinds_to ks n (length ks) ≡ cells_of ks n
unfolding cells_of
kinds_all ks n = before_total (λ k. gate (eqb k n) 1) ks

-- one more
pub kinds_next : (ks : List ℕ) (n i : ℕ) → kinds_to ks n (i + 1) ≡ kinds_to ks n i + gate (eqb (get_or ks i 0) n) 1
kinds_next ks n i = before_more (λ k. gate (eqb k n) 1) ks i

pub kinds_few : (ks : List ℕ) (n i : ℕ) → kinds_to ks n i ≤ i
kinds_few ks n i = omega (arith, before_most (λ k. gate (eqb k n) 1) ks 1 i (λ j _. most (eqb (get_or ks j 0) n)))
  where
    most : (b : Bool) → gate b 1 ≤ 1
    most true = omega arith
    most false = omega arith

pub cells_few : (ks : List ℕ) (n : ℕ) → cells_of ks n ≤ length ks
cells_few ks n = omega (arith, kinds_all ks n, kinds_few ks n (length ks))

pub cells_append : (ks ls : List ℕ) (n : ℕ) → cells_of (ks ++ ls) n ≡ cells_of ks n + cells_of ls n
unfolding cells_of
cells_append ks ls n = total_append (λ k. gate (eqb k n) 1) ks ls

-- those of the first a cells, and of b cells behind them
before_cut : (w : ℕ → ℕ) (ks : List ℕ) (a b j : ℕ) → j ≤ b → before w ks (a + j) ≡ before w ks a + before w (take b (drop a ks)) j
unfolding before
before_cut w ks a b zero h = let none : a + 0 ≡ a = omega arith in omega (arith, ap (before w ks) none)
before_cut w ks a b (suc j) h =
    let same : get_or (take b (drop a ks)) j 0 ≡ get_or ks (a + j) 0 = get_or-take b (drop a ks) j 0 (omega arith) ∙ get_or-drop a ks j 0 in
    let next : a + suc j ≡ a + j + 1 = omega arith in
    ap (before w ks) next ∙ before_more w ks (a + j) ∙ omega (arith, before_cut w ks a b j (omega arith), ap w same)

pub kinds_cut : (ks : List ℕ) (n a b : ℕ) → a + b ≤ length ks → kinds_to ks n (a + b) ≡ kinds_to ks n a + cells_of (take b (drop a ks)) n
kinds_cut ks n a b h =
    let long : length (take b (drop a ks)) ≡ b = length-take-le b (drop a ks) (omega (arith, length-drop a ks)) in
    before_cut (λ k. gate (eqb k n) 1) ks a b b (omega arith) ∙ ap (λ (m : ℕ). kinds_to ks n a + m) (ap (kinds_to (take b (drop a ks)) n) (sym long) ∙ kinds_all (take b (drop a ks)) n)

-- the code counts so few at a time
abbrev pub few : ℕ
few = 128

pub kinds_rest : (ks : List ℕ) (n a : ℕ) → a ≤ length ks → kinds_to ks n a + cells_of (take (length ks - a) (drop a ks)) n ≡ cells_of ks n
kinds_rest ks n a h =
    let all : a + (length ks - a) ≡ length ks = omega arith in
    sym (kinds_cut ks n a (length ks - a) (omega arith)) ∙ ap (kinds_to ks n) all ∙ kinds_all ks n

-- all cells are of one kind: so many are of it, and none of another
alone : (n : ℕ) (ks : List ℕ) → ((i : ℕ) → i < length ks → get_or ks i 0 ≡ n) → (k : ℕ) → cells_of ks k ≡ gate (eqb n k) (length ks)
unfolding cells_of total
alone n [] h k = go (eqb n k)
  where
    go : (b : Bool) → 0 ≡ gate b 0
    go true = refl
    go false = refl
alone n (x ∷ ks) h k = rw (h 0 (omega arith), alone n ks (λ i l. h (suc i) (omega arith)) k) (go (eqb n k))
  where
    go : (b : Bool) → gate b 1 + gate b (length ks) ≡ gate b (suc (length ks))
    go true = omega arith
    go false = refl

-- triangles and quads are all cells
one_kind : (k : ℕ) → (k ≡ 3) ⊎ (k ≡ 4) → gate (eqb k 3) 1 + gate (eqb k 4) 1 ≡ 1
one_kind k (inl e) = rw e
one_kind k (inr e) = rw e

pub kinds_sum_to : (ks : List ℕ) (i : ℕ) → ((j : ℕ) → j < i → (get_or ks j 0 ≡ 3) ⊎ (get_or ks j 0 ≡ 4)) → kinds_to ks 3 i + kinds_to ks 4 i ≡ i
unfolding before
kinds_sum_to ks zero h = refl
kinds_sum_to ks (suc i) h = omega (arith, kinds_sum_to ks i (λ j l. h j (omega arith)), one_kind (get_or ks i 0) (h i (omega arith)))

-- the numbers of cells, by how many of these are triangles and how many quads
one_three : (b x y m n : ℕ) → b ≡ x * m + y * n → b + m ≡ (x + 1) * m + (y + 0) * n
one_three b x y m n e = omega (arith, e, add-mul x 1 m, one-mul m, add-mul y 0 n, zero-mul n)

one_four : (b x y m n : ℕ) → b ≡ x * m + y * n → b + n ≡ (x + 0) * m + (y + 1) * n
one_four b x y m n e = omega (arith, e, add-mul x 0 m, zero-mul m, add-mul y 1 n, one-mul n)

pub before_kinds : (ks : List ℕ) (w : ℕ → ℕ) (i : ℕ) → ((j : ℕ) → j < i → (get_or ks j 0 ≡ 3) ⊎ (get_or ks j 0 ≡ 4)) → before w ks i ≡ kinds_to ks 3 i * w 3 + kinds_to ks 4 i * w 4
unfolding before
before_kinds ks w zero each = omega (arith, zero-mul (w 3), zero-mul (w 4))
before_kinds ks w (suc i) each =
    let e = before_kinds ks w i (λ j h. each j (omega arith)) in
    ⊎_elim (λ k. rw k (one_three (before w ks i) (kinds_to ks 3 i) (kinds_to ks 4 i) (w 3) (w 4) e))
    (λ k. rw k (one_four (before w ks i) (kinds_to ks 3 i) (kinds_to ks 4 i) (w 3) (w 4) e)) (each i (omega arith))

-- so of all cells
pub before_cells : (C : ℕ) (ks : List ℕ) → Kinded C ks → (w : ℕ → ℕ) → before w ks C ≡ cells_of ks 3 * w 3 + cells_of ks 4 * w 4
before_cells C ks h w =
    before_kinds ks w C h.each
    ∙ ap₂ (λ (x y : ℕ). x * w 3 + y * w 4) (ap (kinds_to ks 3) (sym h.long) ∙ kinds_all ks 3) (ap (kinds_to ks 4) (sym h.long) ∙ kinds_all ks 4)

pub kinds_sum : (C : ℕ) (ks : List ℕ) → Kinded C ks → cells_of ks 3 + cells_of ks 4 ≡ C
kinds_sum C ks h = omega (arith, kinds_all ks 3, kinds_all ks 4, kinds_sum_to ks (length ks) (λ j l. h.each j (omega (arith, h.long))), h.long)

-- ---- the kinds present

-- the kind of a cell is present
pub kind_present : (ks : List ℕ) (n i : ℕ) → i < length ks → get_or ks i 0 ≡ n → 0 < cells_of ks n
unfolding cells_of total
kind_present [] n i h e = absurd (not-suc-le-zero h)
kind_present (k ∷ ks) n zero h e = rw (eq-eqb k n e) (omega arith)
kind_present (k ∷ ks) n (suc i) h e = omega (arith, kind_present ks n i (le_of_suc-le-suc h) e)

-- of the kinds present, one alone is that of a cell
module _ (a b : Bool) (x : ℕ) where
  first_alone : a ≡ true → gate a (gate (eqb 3 3) x) + (gate b (gate (eqb 3 4) x) + 0) ≡ x
  first_alone e = rw e (go b)
    where
      go : (b : Bool) → x + (gate b 0 + 0) ≡ x
      go true = omega arith
      go false = omega arith

  second_alone : b ≡ true → gate a (gate (eqb 4 3) x) + (gate b (gate (eqb 4 4) x) + 0) ≡ x
  second_alone e = rw e (go a)
    where
      go : (a : Bool) → gate a 0 + (x + 0) ≡ x
      go true = omega arith
      go false = omega arith

pub kind_once : (ks : List ℕ) (k x : ℕ) → (k ≡ 3) ⊎ (k ≡ 4) → 0 < cells_of ks k → total (λ n. gate (eqb k n) x) (kinds_present ks) ≡ x
unfolding kinds_present total
kind_once ks k x c h = total_filter (λ n. gate (eqb k n) x) (λ n. ltb 0 (cells_of ks n)) (3 ∷ 4 ∷ []) ∙ go c
  where
    here : (n : ℕ) → k ≡ n → ltb 0 (cells_of ks n) ≡ true
    here n e = lt-ltb 0 (cells_of ks n) (subst (λ (j : ℕ). 0 < cells_of ks j) e h)

    go : (k ≡ 3) ⊎ (k ≡ 4) → total (λ n. gate (ltb 0 (cells_of ks n)) (gate (eqb k n) x)) (3 ∷ 4 ∷ []) ≡ x
    go (inl e) = rw e (first_alone (ltb 0 (cells_of ks 3)) (ltb 0 (cells_of ks 4)) x (here 3 e))
    go (inr e) = rw e (second_alone (ltb 0 (cells_of ks 3)) (ltb 0 (cells_of ks 4)) x (here 4 e))

-- ---- the kind list of a run, as the code reads it

module _ (C : ℕ) (ks : List ℕ) where
  -- another length
  pub match_short : (t q : ℕ) → (length ks ≡ C → ⊥) → kinds_match C t q ks ≡ false
  unfolding kinds_match kinds_right
  match_short t q h = every_fails _ 0 (and_no_left _ _ (ne_eqb (length ks) C h))

  module _ (long : length ks ≡ C) where
    abbrev known : Bool
    known = all (length ks) (λ i. eqb (get_or ks i 0) 3 or eqb (get_or ks i 0) 4)

    -- the two counts: the quads, and what is left
    pub match_both : (t q : ℕ) → kinds_match C t q ks ≡ (known and eqb t (C - cells_of ks 4) and eqb q (cells_of ks 4))
    unfolding kinds_match kinds_right every ◌and◌
    match_both t q =
        rw (eq-eqb (length ks) C long)
        (⊎_elim (λ (e : known ≡ true). ap (λ (x : ℕ). known and eqb t x and eqb q (cells_of ks 4)) (left e)) (λ (e : known ≡ false). rw e refl) (cases known))
      where
        left : known ≡ true → cells_of ks 3 ≡ C - cells_of ks 4
        left e = omega (arith, kinds_sum C ks (kinded C ks (and_both _ _ (eq-eqb (length ks) C long) e)))

    -- one kind alone
    only : (n o : ℕ) → ((i : ℕ) → i < C → (get_or ks i 0 ≡ n) ⊎ (get_or ks i 0 ≡ o)) → 0 ≡ cells_of ks o → (i : ℕ) → i < length ks → get_or ks i 0 ≡ n
    only n o each none i l = ⊎_elim (λ e. e) (λ e. absurd (omega (arith, kind_present ks o i l e))) (each i (omega (arith, long)))

    right : ((i : ℕ) → i < length ks → (get_or ks i 0 ≡ 3) ⊎ (get_or ks i 0 ≡ 4)) → kinds_right C ks ≡ true
    unfolding kinds_right
    right each = and_both _ _ (eq-eqb (length ks) C long) (all_of (length ks) _ (λ i l. ⊎_elim (λ e. or_left _ _ (eq-eqb _ 3 e)) (λ e. or_right _ _ (eq-eqb _ 4 e)) (each i l)))

    pub match_three : (t q : ℕ) → q ≡ 0 → kinds_match C t q ks ≡ (eqb t C and all (length ks) (λ i. eqb (get_or ks i 0) 3))
    unfolding kinds_match
    match_three t q none = rw none (same_test _ _ there back)
      where
        there : kinds_match C t 0 ks ≡ true → (eqb t C and all (length ks) (λ i. eqb (get_or ks i 0) 3)) ≡ true
        there e =
            let each = only 3 4 (kind_known C ks (every_at _ e 0)) (eqb-true _ _ (every_at _ e 2)) in
            and_both _ _ (eq-eqb t C (eqb-true _ _ (every_at _ e 1) ∙ alone 3 ks each 3 ∙ long)) (all_of (length ks) _ (λ i l. eq-eqb _ 3 (each i l)))

        back : (eqb t C and all (length ks) (λ i. eqb (get_or ks i 0) 3)) ≡ true → kinds_match C t 0 ks ≡ true
        back e =
            let each : (i : ℕ) → i < length ks → get_or ks i 0 ≡ 3 = λ i l. eqb-true _ _ (all_at (length ks) (λ i. eqb (get_or ks i 0) 3) (and_right (eqb t C) _ e) i l) in
            every_of (right (λ i l. inl (each i l)) also eq-eqb t _ (eqb-true t C (and_left _ _ e) ∙ sym (alone 3 ks each 3 ∙ long)) also eq-eqb 0 _ (sym (alone 3 ks each 4)) also end)

    pub match_four : (t q : ℕ) → t ≡ 0 → kinds_match C t q ks ≡ (eqb q C and all (length ks) (λ i. eqb (get_or ks i 0) 4))
    unfolding kinds_match
    match_four t q none = rw none (same_test _ _ there back)
      where
        there : kinds_match C 0 q ks ≡ true → (eqb q C and all (length ks) (λ i. eqb (get_or ks i 0) 4)) ≡ true
        there e =
            let each = only 4 3 (λ i l. ⊎_elim inr inl (kind_known C ks (every_at _ e 0) i l)) (eqb-true _ _ (every_at _ e 1)) in
            and_both _ _ (eq-eqb q C (eqb-true _ _ (every_at _ e 2) ∙ alone 4 ks each 4 ∙ long)) (all_of (length ks) _ (λ i l. eq-eqb _ 4 (each i l)))

        back : (eqb q C and all (length ks) (λ i. eqb (get_or ks i 0) 4)) ≡ true → kinds_match C 0 q ks ≡ true
        back e =
            let each : (i : ℕ) → i < length ks → get_or ks i 0 ≡ 4 = λ i l. eqb-true _ _ (all_at (length ks) (λ i. eqb (get_or ks i 0) 4) (and_right (eqb q C) _ e) i l) in
            every_of (right (λ i l. inr (each i l)) also eq-eqb 0 _ (sym (alone 4 ks each 3)) also eq-eqb q _ (eqb-true q C (and_left _ _ e) ∙ sym (alone 4 ks each 4 ∙ long)) also end)

-- ---- a list read in four quarters

-- what is read of turn k
abbrev pub quarters : (ℕ → Bool) → ℕ → ℕ → Bool
quarters f n k = f k and (f (n + k) and (f (2 * n + k) and f (3 * n + k)))

-- a turn more
pub quarters_more : (f : ℕ → Bool) (n i : ℕ) {same : Bool} → same ≡ all i (quarters f n) → (same && f i && f (n + i) && f (2 * n + i) && f (3 * n + i)) ≡ all (i + 1) (quarters f n)
unfolding ◌and◌
quarters_more f n i {same} e = go same (f i) (f (n + i)) (f (2 * n + i)) _ ∙ ap (λ (b : Bool). b and quarters f n i) e ∙ sym (all_next i (quarters f n))
  where
    go : (s a b c d : Bool) → (s && a && b && c && d) ≡ (s && (a && (b && (c && d))))
    go true true true c d = refl
    go true true false c d = refl
    go true false b c d = refl
    go false a b c d = refl

module _ (f : ℕ → Bool) (n : ℕ) (e : all n (quarters f n) ≡ true) where
  read_at : (k : ℕ) → k < n → quarters f n k ≡ true
  read_at k l = all_at n (quarters f n) e k l

  placed : {j k : ℕ} → j ≡ k → f j ≡ true → f k ≡ true
  placed p q = subst (λ (i : ℕ). f i ≡ true) p q

  all_read : (k : ℕ) → k < 4 * n → f k ≡ true
  all_read k l =
      ⊎_elim (λ a. and_left _ _ (read_at k a))
      (λ a. ⊎_elim (λ b. placed {j = n + (k - n)} (omega arith) (and_left _ _ (and_right _ _ (read_at (k - n) (omega arith)))))
      (λ b. ⊎_elim (λ d. placed {j = 2 * n + (k - 2 * n)} (omega arith) (and_left _ _ (and_right _ _ (and_right _ _ (read_at (k - 2 * n) (omega arith))))))
      (λ d. placed {j = 3 * n + (k - 3 * n)} (omega arith) (and_right _ _ (and_right _ _ (and_right _ _ (read_at (k - 3 * n) (omega arith))))))
      (lt_or_le k (3 * n)))
      (lt_or_le k (2 * n)))
      (lt_or_le k n)

-- all turns read all
pub quarters_all : (f : ℕ → Bool) (n : ℕ) → all n (quarters f n) ≡ all (4 * n) f
quarters_all f n = same_test (all n (quarters f n)) (all (4 * n) f) (λ e. all_of (4 * n) f (all_read f n e)) back
  where
    back : all (4 * n) f ≡ true → all n (quarters f n) ≡ true
    back e =
        all_of n (quarters f n)
        (λ k l. and_both _ _ (all_at (4 * n) f e k (omega arith)) (and_both _ _ (all_at (4 * n) f e (n + k) (omega arith))
        (and_both _ _ (all_at (4 * n) f e (2 * n + k) (omega arith)) (all_at (4 * n) f e (3 * n + k) (omega arith)))))

-- and what is left behind them
pub quarters_rest : (g : ℕ → Bool) (xs : List ℕ) (n : ℕ) → 4 * n ≤ length xs
    → let rest = take (length xs - 4 * n) (drop (4 * n) xs) in (all (4 * n) (λ i. g (get_or xs i 0)) and all (length rest) (λ i. g (get_or rest i 0))) ≡ all (length xs) (λ i. g (get_or xs i 0))
quarters_rest g xs n l =
    let long : length xs - 4 * n ≡ length (drop (4 * n) xs) = sym (length-drop (4 * n) xs) in
    let sum : length xs ≡ 4 * n + (length xs - 4 * n) = omega arith in
    ap (λ (b : Bool). all (4 * n) (λ i. g (get_or xs i 0)) and b)
    (ap (λ (rest : List ℕ). all (length rest) (λ i. g (get_or rest i 0))) (take_all (length xs - 4 * n) (drop (4 * n) xs) (omega (arith, long)))
    ∙ ap (λ (m : ℕ). all m (λ i. g (get_or (drop (4 * n) xs) i 0))) (sym long)
    ∙ all_ext (length xs - 4 * n) _ _ (λ k h. ap g (get_or-drop (4 * n) xs k 0)))
    ∙ sym (ap (λ (m : ℕ). all m (λ i. g (get_or xs i 0))) sum ∙ all_sum (4 * n) (length xs - 4 * n) (λ i. g (get_or xs i 0)))
