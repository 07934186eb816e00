-- Laws of the table of patterns. What holds of each pattern is one test that is computed over the whole table, and a law that reads it. Assumes nothing.
use Rattle.std.specs.Prelude.{ℕ, suc, ◌<◌, ◌≡◌, refl, Bool, true, false, cond, length, get_or, ltb, eqb}
use Rattle.std.proofs.Common.{arith, sym, ap, subst, ◌∙◌, ⊎_elim, ltb-true, eqb-true, eq-eqb, lt-ltb}
use mathlib.Core.List.{List, [], ◌∷◌, ◌++◌, flat_map}
use Rattle.lists.specs.Bool.{◌and◌, ◌or◌, true≢false, cases, and_left, and_right, and_both, every_at}
use Rattle.lists.specs.Bounded.{all, all_at, least, least_is, least_none, least_holds}
use Rattle.lists.specs.Range.{range}
use Rattle.grid.specs.Cells.{same_two, edge_joining}
use Rattle.cell_pairs.specs.Records.{pattern_count}
use Rattle.cell_pairs.specs.Matches.{Match, ◌⇄◌, same_matches, edge_of, triangle_count, pattern_of}
use Rattle.cell_pairs.specs.MatchesFacts.{joined, same_matches_lem, same_matches_refl}
use Rattle.cell_pairs.specs.Cases.{case_at, can_be}
use Rattle.cell_pairs.proofs.CasesFacts.{can_be_case}
use Rattle.cell_pairs.specs.Table.{Pattern, pattern, table, pattern_at, from_to, same, place_of, number_of, block, in_block, formula_number, of_two_triangles}

-- ---- the test `same` is equality

pub built : {n n' k k' : ℕ} {ms ms' : List Match} → n ≡ n' → k ≡ k' → ms ≡ ms' → pattern n k ms ≡ pattern n' k' ms'
built p q r = rw (p, q, r)

pub same_eq : (x y : Pattern) → same x y ≡ true → x ≡ y
unfolding same
same_eq x y e =
    let a : Bool = eqb x.test y.test in
    let b : Bool = eqb x.trial y.trial in
    let c : Bool = same_matches x.shared y.shared in
    let front : a and b ≡ true = and_left (a and b) c e in
    built (eqb-true _ _ (and_left a b front)) (eqb-true _ _ (and_right a b front)) (same_matches_lem x.shared y.shared (and_right (a and b) c e))

pub eq_same : (x y : Pattern) → x ≡ y → same x y ≡ true
unfolding same
eq_same x y e =
    subst (λ (z : Pattern). same x z ≡ true) e
    (and_both _ _ (and_both _ _ (eq-eqb x.test x.test refl) (eq-eqb x.trial x.trial refl)) (same_matches_refl x.shared))

-- ---- computed over the table

pub table_many : length table ≡ pattern_count
unfolding table
table_many = refl

pub table_blocks : table ≡ block 3 3 ++ block 3 4 ++ block 4 3 ++ block 4 4
unfolding table flat_map range
table_blocks = refl

-- where each block stands
pub table_places : (from_to 0 27 ≡ block 3 3) × (from_to 28 63 ≡ block 3 4) × (from_to 64 99 ≡ block 4 3) × (from_to 100 148 ≡ block 4 4)
unfolding table flat_map range
table_places = (refl, refl, refl, refl)

-- each pattern stands where the formula says
formula_computed : all pattern_count (λ k. eqb (formula_number (pattern_at k)) k) ≡ true
unfolding all ◌and◌ ◌or◌ least same_two edge_joining in_block formula_number table
formula_computed = refl

pub table_formula : (k : ℕ) → k < pattern_count → formula_number (pattern_at k) ≡ k
table_formula k l = eqb-true (formula_number (pattern_at k)) k (all_at pattern_count (λ k. eqb (formula_number (pattern_at k)) k) formula_computed k l)

-- so no two have the same kinds and pairs
pub table_once : (k l : ℕ) → k < pattern_count → l < pattern_count → pattern_at k ≡ pattern_at l → k ≡ l
table_once k l hk hl e = sym (table_formula k hk) ∙ ap formula_number e ∙ table_formula l hl

-- the first 28 are of two triangles, with the numbers of the triangle formula
abbrev from_triangles : ℕ → Bool
from_triangles k = eqb (pattern_at k).test 3 and eqb (pattern_at k).trial 3 and eqb (pattern_of (pattern_at k).shared) k

triangles_computed : all triangle_count from_triangles ≡ true
unfolding all ◌and◌ ◌or◌ least same_two edge_of pattern_of table
triangles_computed = refl

pub table_triangles : (k : ℕ) → k < triangle_count → ((pattern_at k).test ≡ 3) × ((pattern_at k).trial ≡ 3) × (pattern_of (pattern_at k).shared ≡ k)
table_triangles k l =
    let e = all_at triangle_count from_triangles triangles_computed k l in
    let a = eqb (pattern_at k).test 3 in
    let b = eqb (pattern_at k).trial 3 in
    let c = eqb (pattern_of (pattern_at k).shared) k in
    (eqb-true _ _ (and_left a b (and_left (a and b) c e)), eqb-true _ _ (and_right a b (and_left (a and b) c e)), eqb-true _ _ (and_right (a and b) c e))

-- the first 27 are the cases
cases_computed : all 27 (λ k. same (pattern_at k) (pattern 3 3 (case_at k).shared)) ≡ true
unfolding all ◌and◌ same_matches same table
cases_computed = refl

pub table_cases : (k : ℕ) → k < 27 → pattern_at k ≡ pattern 3 3 (case_at k).shared
table_cases k l = same_eq _ _ (all_at 27 (λ k. same (pattern_at k) (pattern 3 3 (case_at k).shared)) cases_computed k l)

-- ---- the number of a pattern

-- it is the least place that has it
place_least : (x d : Pattern) (ys : List Pattern) → place_of x ys ≡ least (length ys) (λ k. same (get_or ys k d) x)
unfolding place_of least
place_least x d [] = refl
place_least x d (y ∷ ys) = ap (λ (n : ℕ). cond (same y x) 0 (suc n)) (place_least x d ys)

pub number_least : (x : Pattern) → number_of x ≡ least pattern_count (λ k. same (pattern_at k) x)
unfolding number_of
number_least x = place_least x (pattern 0 0 []) table ∙ ap (λ (n : ℕ). least n (λ k. same (pattern_at k) x)) table_many

-- it is the place where the table has it
pub number_is : (x : Pattern) (k : ℕ) → k < pattern_count → pattern_at k ≡ x → number_of x ≡ k
number_is x k l e = number_least x ∙ least_is pattern_count (λ j. same (pattern_at j) x) k (omega arith) earlier (λ _. eq_same (pattern_at k) x e)
  where
    earlier : (j : ℕ) → j < k → same (pattern_at j) x ≡ false
    earlier j h =
        ⊎_elim
        (λ t. let j=k : j ≡ k = table_once j k (omega arith) l (same_eq (pattern_at j) x t ∙ sym e) in absurd (omega arith))
        (λ f. f)
        (cases (same (pattern_at j) x))

pub number_none : (x : Pattern) → ((k : ℕ) → k < pattern_count → pattern_at k ≡ x → ⊥) → number_of x ≡ pattern_count
number_none x h =
    number_least x
    ∙ least_none pattern_count (λ j. same (pattern_at j) x)
    (λ k l. ⊎_elim (λ t. absurd (h k l (same_eq (pattern_at k) x t))) (λ f. f) (cases (same (pattern_at k) x)))

-- a number of the table is the number of the pattern there
pub number_at : (x : Pattern) → number_of x < pattern_count → pattern_at (number_of x) ≡ x
number_at x l =
    let f : ℕ → Bool = λ j. same (pattern_at j) x in
    same_eq (pattern_at (number_of x)) x
    (subst (λ (k : ℕ). same (pattern_at k) x ≡ true) (sym (number_least x)) (least_holds pattern_count f (subst (λ (k : ℕ). k < pattern_count) (number_least x) l)))

-- it is the formula's number where the table has the pattern there; else it has none
pub number_by_formula : (x : Pattern) → number_of x ≡ cond (ltb (formula_number x) pattern_count and same (pattern_at (formula_number x)) x) (formula_number x) pattern_count
number_by_formula x = go (ltb (formula_number x) pattern_count and same (pattern_at (formula_number x)) x) refl
  where
    go : (b : Bool) → ltb (formula_number x) pattern_count and same (pattern_at (formula_number x)) x ≡ b → number_of x ≡ cond b (formula_number x) pattern_count
    go true e =
        number_is x (formula_number x) (ltb-true _ _ (and_left _ (same (pattern_at (formula_number x)) x) e))
        (same_eq (pattern_at (formula_number x)) x (and_right (ltb (formula_number x) pattern_count) _ e))
    go false e =
        number_none x
        (λ k l q.
        let here : formula_number x ≡ k = ap formula_number (sym q) ∙ table_formula k l in
        true≢false
        (sym
        (and_both _ _ (lt-ltb (formula_number x) pattern_count (omega arith)) (eq_same (pattern_at (formula_number x)) x (ap pattern_at here ∙ q)))
        ∙ e))

-- ---- of two triangles

-- the triangle formula's number, if it is one of a pattern
abbrev triangle_number : List Match → ℕ
triangle_number ms = cond (ltb (pattern_of ms) triangle_count) (pattern_of ms) pattern_count

unfoldable agrees : List Match → Bool
agrees ms =
    let x = pattern 3 3 ms in
    eqb (cond (ltb (formula_number x) pattern_count and same (pattern_at (formula_number x)) x) (formula_number x) pattern_count) (triangle_number ms)

agrees_number : (ms : List Match) → agrees ms ≡ true → number_of (pattern 3 3 ms) ≡ triangle_number ms
unfolding agrees
agrees_number ms e = number_by_formula (pattern 3 3 ms) ∙ eqb-true _ _ e

none_computed : agrees [] ≡ true
unfolding ◌and◌ in_block formula_number pattern_of agrees
none_computed = refl

three_computed : all 3 (λ i. all 3 (λ j. all 3 (λ k. agrees (i ⇄ 0 ∷ j ⇄ 1 ∷ k ⇄ 2 ∷ [])))) ≡ true
unfolding all ◌and◌ in_block formula_number pattern_of same_matches same table agrees
three_computed = refl

-- what `can_be` says of two matches
record Two (m n : Match) : Type 0 where
  test_first : m.test < 3
  test_second : n.test < 3
  rising : m.trial < n.trial
  below : n.trial < 3

two_of : (m n : Match) → can_be (m ∷ n ∷ []) ≡ true → Two m n
unfolding can_be
two_of m n e =
    record {
      test_first = ltb-true _ _ (and_left _ _ (every_at _ e 0));
      test_second = ltb-true _ _ (and_left _ _ (every_at _ e 1));
      rising = ltb-true _ _ (every_at _ e 3);
      below = ltb-true _ _ (and_right (ltb n.test 3) _ (every_at _ e 1));
    }

-- one or two: it is a case, which the table has at the formula's number
pub case_in_table : (ms : List Match) → can_be ms ≡ true → number_of (pattern 3 3 ms) ≡ pattern_of ms
case_in_table ms e =
    let f = can_be_case ms e in
    let low : pattern_of ms < 27 = f.0 in
    number_is (pattern 3 3 ms) (pattern_of ms) (omega (arith, low)) (table_cases (pattern_of ms) low ∙ ap (pattern 3 3) f.1)

few_number : (ms : List Match) → can_be ms ≡ true → number_of (pattern 3 3 ms) ≡ triangle_number ms
few_number ms e =
    let low : pattern_of ms < 27 = (can_be_case ms e).0 in
    rw (lt-ltb (pattern_of ms) triangle_count (omega (arith, low))) (case_in_table ms e)

-- three: their trial places are 0, 1 and 2
three_number : (m n o : Match) → Two m n → Two n o → number_of (pattern 3 3 (m ∷ n ∷ o ∷ [])) ≡ triangle_number (m ∷ n ∷ o ∷ [])
three_number m n o h k =
    let a = h.rising in
    let b = k.rising in
    let c = k.below in
    let places : ◌≡◌ {A = List Match} (m.test ⇄ 0 ∷ n.test ⇄ 1 ∷ o.test ⇄ 2 ∷ []) (m ∷ n ∷ o ∷ []) =
    joined refl (omega (arith, a, b, c)) (joined refl (omega (arith, a, b, c)) (joined refl (omega (arith, a, b, c)) refl)) in
    agrees_number _ (subst (λ (ms : List Match). agrees ms ≡ true) places (all_at 3 _ (all_at 3 _ (all_at 3 _ three_computed _ h.test_first) _ h.test_second) _ k.test_second))

pub triangles_number : (ms : List Match) → of_two_triangles ms ≡ true → number_of (pattern 3 3 ms) ≡ cond (ltb (pattern_of ms) triangle_count) (pattern_of ms) pattern_count
unfolding of_two_triangles
triangles_number [] e = agrees_number [] none_computed
triangles_number (m ∷ []) e = few_number (m ∷ []) e
triangles_number (m ∷ n ∷ []) e = few_number (m ∷ n ∷ []) e
triangles_number (m ∷ n ∷ o ∷ []) e =
    three_number m n o (two_of m n (and_left _ _ (and_left (can_be (m ∷ n ∷ []) and can_be (m ∷ o ∷ [])) _ e))) (two_of n o (and_right (can_be (m ∷ n ∷ []) and can_be (m ∷ o ∷ [])) _ e))
triangles_number (m ∷ n ∷ o ∷ x ∷ ms) e = absurd (true≢false (sym e))
