-- Laws of two cells with the same vertices: the pattern of a cell with itself is theirs alone, and two triangles that do not have the same vertices pass check 7.
-- Assumes nothing.
use Rattle.std.specs.Prelude.{ℕ, ◌+◌, ◌<◌, ◌≡◌, refl, Bool, true, false, not, ◌⊎◌, List, [], ◌∷◌, map, length, get_or, eqb, ltb}
use Rattle.std.proofs.Common.{arith, sym, ap, subst, ◌∙◌, inl, inr, ⊎_elim, eqb-true, eq-eqb, lt-ltb, ltb-true}
use Rattle.std.proofs.lemmas.List.{length-map}
use Rattle.std.proofs.lemmas.Bool.{not-true}
use Rattle.lists.specs.Bool.{◌and◌, ◌or◌, true≢false, cases, and_left, and_right, and_both, or_cases, or_left, or_right, same_test}
use Rattle.lists.specs.Bounded.{all, some, all_at, all_of, lt_or_le}
use Rattle.lists.specs.Range.{range, length_range, when, AllIn, all_in_below, all_in_when, all_in_at, flat_map_below, flat_map_pick, flat_map_map, map_at}
use Rattle.lists.specs.Total.{gate}
use Rattle.grid.specs.Cells.{has, share, distinct}
use Rattle.grid.specs.CellsFacts.{has_place, has_at, share_turned}
use Rattle.grid.specs.Facts.{vertices_differ}
use Rattle.cell_pairs.specs.Records.{pattern_count}
use Rattle.cell_pairs.specs.Matches.{Match, ◌⇄◌, matches}
use Rattle.cell_pairs.specs.MatchesFacts.{place, place_holds, places_of, at_places, clash, matches_at_lem, has_is_place}
use Rattle.cell_pairs.proofs.CasesFacts.{can_be_case, few_can_be}
use Rattle.cell_pairs.specs.Table.{Pattern, pattern, table, pattern_at}
use Rattle.cell_pairs.proofs.TableFacts.{number_is, number_at, case_in_table}
use Rattle.cell_pairs.specs.Patterns.{cells_pattern, identical_pattern, cells_right, same_vertices}

-- ---- the same vertices

pub same_has : (xs ys : List ℕ) → same_vertices xs ys ≡ true → (x : ℕ) → has xs x ≡ true → has ys x ≡ true
unfolding same_vertices
same_has xs ys e x h =
    let w = has_place xs x h in
    subst (λ (y : ℕ). has ys y ≡ true) w.2 (all_at (length xs) (λ p. has ys (get_or xs p 0)) (and_left _ _ e) w.0 w.1)

pub same_turned : (xs ys : List ℕ) → same_vertices xs ys ≡ true → same_vertices ys xs ≡ true
unfolding same_vertices
same_turned xs ys e = and_both _ _ (and_right (all (length xs) (λ p. has ys (get_or xs p 0))) _ e) (and_left _ _ e)

-- the same list
same_list_lem : (xs ys : List ℕ) → length xs ≡ length ys → ((p : ℕ) → p < length xs → get_or xs p 0 ≡ get_or ys p 0) → same_vertices xs ys ≡ true
unfolding same_vertices
same_list_lem xs ys n e =
    and_both _ _ (all_of (length xs) _ (λ p l. has_at ys p _ (omega (arith, n)) (sym (e p l))))
    (all_of (length ys) _ (λ q l. has_at xs q _ (omega (arith, n)) (e q (omega (arith, n)))))

-- what holds of no number and an earlier one, either way round, holds of a number and itself alone
pub none_earlier : (C : ℕ) (f : ℕ → ℕ → Bool) → ((i j : ℕ) → f i j ≡ true → f j i ≡ true) → all C (λ i. all i (λ j. not (f i j))) ≡ true
    → (i j : ℕ) → i < C → j < C → f i j ≡ true → i ≡ j
none_earlier C f turn e i j hi hj s =
    ⊎_elim (λ l. absurd (later j i l hj (turn i j s))) (λ l. ⊎_elim (λ k. absurd (later i j k hi s)) (λ k. omega arith) (lt_or_le j i)) (lt_or_le i j)
  where
    later : (i j : ℕ) → j < i → i < C → f i j ≡ true → ⊥
    later i j l h s = true≢false (sym s ∙ not-true _ (all_at i (λ j. not (f i j)) (all_at C (λ i. all i (λ j. not (f i j))) e i h) j l))

-- ---- the pattern of a cell with itself

-- each of n vertices at its own place
abbrev itself : ℕ → List Match
itself n = map (λ i. i ⇄ i) (range n)

matches_itself : (xs : List ℕ) → distinct xs ≡ true → matches xs xs ≡ itself (length xs)
unfolding matches
matches_itself xs d =
    flat_map_below _ (λ q. q ⇄ q ∷ []) (length xs)
    (λ q h. flat_map_below _ (λ p. when (eqb p q) (p ⇄ q ∷ [])) (length xs) (λ p k. ap (λ (b : Bool). when b (p ⇄ q ∷ [])) (one p q k h)) ∙ flat_map_pick (λ p. p ⇄ q ∷ []) q (length xs) h)
    ∙ flat_map_map (λ i. i ⇄ i) (range (length xs))
  where
    one : (p q : ℕ) → p < length xs → q < length xs → eqb (get_or xs p 0) (get_or xs q 0) ≡ eqb p q
    one p q k h =
        same_test _ _ (λ e. eq-eqb p q (vertices_differ xs d p q k h (eqb-true _ _ e))) (λ e. eq-eqb _ _ (ap (λ (i : ℕ). get_or xs i 0) (eqb-true p q e)))

-- a match is of one vertex
match_each : (xs ys : List ℕ) → AllIn (λ m. get_or xs m.test 0 ≡ get_or ys m.trial 0) (matches xs ys)
unfolding matches
match_each xs ys =
    let P : Match → Type 0 = λ m. get_or xs m.test 0 ≡ get_or ys m.trial 0 in
    all_in_below P _ (length ys)
    (λ q _. all_in_below P _ (length xs) (λ p _. all_in_when P (eqb (get_or xs p 0) (get_or ys q 0)) (p ⇄ q) (λ e. eqb-true _ _ e)))

-- cells that share their vertices in this way have the same
itself_same : (n : ℕ) (xs ys : List ℕ) → pattern n n (itself n) ≡ pattern (length xs) (length ys) (matches xs ys) → same_vertices xs ys ≡ true
itself_same n xs ys e =
    let P : Match → Type 0 = λ m. get_or xs m.test 0 ≡ get_or ys m.trial 0 in
    let a : n ≡ length xs = ap (λ (x : Pattern). x.test) e in
    let b : n ≡ length ys = ap (λ (x : Pattern). x.trial) e in
    let each : AllIn P (itself n) = subst (AllIn P) (sym (ap (λ (x : Pattern). x.shared) e)) (match_each xs ys) in
    let long : length (itself n) ≡ n = length-map (range n) (λ i. i ⇄ i) ∙ length_range n in
    same_list_lem xs ys (sym a ∙ b)
    (λ p l. subst P (map_at (λ i. i ⇄ i) (0 ⇄ 0) n p (omega (arith, a))) (all_in_at P (itself n) each (0 ⇄ 0) p (omega (arith, a, long))))

-- 27 of triangles, 148 of quads
pub identical_three : pattern_at 27 ≡ pattern 3 3 (itself 3)
unfolding table range
identical_three = refl

pub identical_four : pattern_at 148 ≡ pattern 4 4 (itself 4)
unfolding table range
identical_four = refl

-- cells that have it have the same vertices
pub identical_same : (xs ys : List ℕ) → identical_pattern (cells_pattern xs ys) ≡ true → same_vertices xs ys ≡ true
identical_same xs ys e = ⊎_elim (at 27 3 (omega arith) identical_three) (at 148 4 (omega arith) identical_four) (or_cases _ _ e)
  where
    at : (k n : ℕ) → k < pattern_count → pattern_at k ≡ pattern n n (itself n) → eqb (cells_pattern xs ys) k ≡ true → same_vertices xs ys ≡ true
    at k n l own h =
        let here : cells_pattern xs ys ≡ k = eqb-true _ _ h in
        itself_same n xs ys (sym own ∙ ap pattern_at (sym here) ∙ number_at (pattern (length xs) (length ys) (matches xs ys)) (omega (arith, here)))

-- and a cell with itself has it
pub itself_identical : (xs : List ℕ) → (length xs ≡ 3) ⊎ (length xs ≡ 4) → distinct xs ≡ true → identical_pattern (cells_pattern xs xs) ≡ true
itself_identical xs k d =
    ⊎_elim (λ n. or_left _ _ (eq-eqb _ _ (at 27 3 (omega arith) identical_three n))) (λ n. or_right _ _ (eq-eqb _ _ (at 148 4 (omega arith) identical_four n))) k
  where
    at : (k n : ℕ) → k < pattern_count → pattern_at k ≡ pattern n n (itself n) → length xs ≡ n → cells_pattern xs xs ≡ k
    at k n l own e = number_is (pattern (length xs) (length xs) (matches xs xs)) k l (own ∙ rw (matches_itself xs d, e) refl)

-- ---- check 7 of two triangles

-- some of three, and not all, are one or two
one_or_two : (e f g : Bool) → e or f or g ≡ true → e and f and g ≡ false → (gate e 1 + gate f 1 + gate g 1 ≡ 1) ⊎ (gate e 1 + gate f 1 + gate g 1 ≡ 2)
unfolding ◌and◌ ◌or◌
one_or_two true true true s t = absurd (true≢false t)
one_or_two true true false s t = inr refl
one_or_two true false true s t = inr refl
one_or_two false true true s t = inr refl
one_or_two true false false s t = inl refl
one_or_two false true false s t = inl refl
one_or_two false false true s t = inl refl
one_or_two false false false s t = absurd (true≢false (sym s))

-- three places below 3 are all there are
abbrev full : ℕ → ℕ → ℕ → Bool
full a b c = not (ltb a 3 and ltb b 3 and ltb c 3) or all 3 (λ p. eqb a p or eqb b p or eqb c p)

full_computed : all 4 (λ a. all 4 (λ b. all 4 (λ c. clash a b or clash a c or clash b c or full a b c))) ≡ true
unfolding all ◌and◌ ◌or◌
full_computed = refl

module _ (xs ys : List ℕ) (n : length xs ≡ 3) (k : length ys ≡ 3) (d : distinct xs ≡ true) (f : distinct ys ≡ true) where
  -- each vertex of the second is one of the first
  abbrev inside : Bool
  inside = all 3 (λ q. has xs (get_or ys q 0))

  -- one or two shared vertices are one of the 27 cases
  share_any : share xs ys ≡ true → has xs (get_or ys 0 0) or has xs (get_or ys 1 0) or has xs (get_or ys 2 0) ≡ true
  unfolding share some ◌or◌
  share_any h = rw k at (share_turned xs ys h)

  few_known : share xs ys ≡ true → inside ≡ false → cells_pattern xs ys < pattern_count
  unfolding all ◌and◌
  few_known s t =
      let few = few_can_be _ _ _ (places_of xs ys k f)
      (rw (has_is_place xs (get_or ys 0 0) n, has_is_place xs (get_or ys 1 0) n, has_is_place xs (get_or ys 2 0) n) at (one_or_two _ _ _ (share_any s) t)) in
      let low = (can_be_case _ few).0 in
      rw (n, k, matches_at_lem xs ys n k d, case_in_table _ few) (omega (arith, low))

  few_right : inside ≡ false → cells_right xs ys ≡ true
  few_right t = ⊎_elim (λ s. or_right _ _ (lt-ltb _ _ (few_known s t))) (λ s. or_left _ _ (ap not s)) (cases (share xs ys))

  -- three are the vertices of both
  module _ (t : inside ≡ true) where
    low_place : (q : ℕ) → q < 3 → place xs (get_or ys q 0) < 3
    low_place q l = ltb-true _ _ (sym (has_is_place xs (get_or ys q 0) n) ∙ all_at 3 _ t q l)

    in_second : (p q : ℕ) → q < 3 → eqb (place xs (get_or ys q 0)) p ≡ true → has ys (get_or xs p 0) ≡ true
    in_second p q l e = has_at ys q _ (omega (arith, k)) (sym (ap (λ (i : ℕ). get_or xs i 0) (sym (eqb-true _ _ e)) ∙ place_holds xs (get_or ys q 0) (low_place q l)))

    some_place : (p : ℕ) → p < 3 → has ys (get_or xs p 0) ≡ true
    some_place p l =
        let all_low = and_both _ _ (and_both _ _ (lt-ltb _ _ (low_place 0 (omega arith))) (lt-ltb _ _ (low_place 1 (omega arith)))) (lt-ltb _ _ (low_place 2 (omega arith))) in
        ⊎_elim (λ e. absurd (true≢false (sym all_low ∙ not-true _ e)))
        (λ e. ⊎_elim (λ g. ⊎_elim (in_second p 0 (omega arith)) (in_second p 1 (omega arith)) (or_cases _ _ g)) (in_second p 2 (omega arith)) (or_cases _ _ (all_at 3 _ e p l)))
        (or_cases _ _ (at_places (places_of xs ys k f) full full_computed))

    all_same : same_vertices xs ys ≡ true
    unfolding same_vertices
    all_same = and_both _ _ (all_of (length xs) _ (λ p l. some_place p (omega (arith, n)))) (all_of (length ys) _ (λ q l. all_at 3 _ t q (omega (arith, k))))

  -- two triangles pass, unless they have the same vertices
  differ_right : same_vertices xs ys ≡ false → cells_right xs ys ≡ true
  differ_right e = ⊎_elim (λ t. absurd (true≢false (sym (all_same t) ∙ e))) few_right (cases inside)

itself_right : (xs : List ℕ) → length xs ≡ 3 → distinct xs ≡ true → cells_right xs xs ≡ true
itself_right xs n d = or_right _ _ (lt-ltb _ _ (known (or_cases _ _ (itself_identical xs (inl n) d))))
  where
    known : (eqb (cells_pattern xs xs) 27 ≡ true) ⊎ (eqb (cells_pattern xs xs) 148 ≡ true) → cells_pattern xs xs < pattern_count
    known (inl e) = omega (arith, eqb-true (cells_pattern xs xs) 27 e)
    known (inr e) = omega (arith, eqb-true (cells_pattern xs xs) 148 e)

-- so where no other cell has the vertices of a triangle, nothing is left of check 7
pub triangles_right : (xs ys : List ℕ) → length xs ≡ 3 → length ys ≡ 3 → distinct xs ≡ true → distinct ys ≡ true → (same_vertices xs ys ≡ true → xs ≡ ys) → cells_right xs ys ≡ true
triangles_right xs ys n k d f one =
    ⊎_elim (λ e. subst (λ (zs : List ℕ). cells_right xs zs ≡ true) (one e) (itself_right xs n d)) (differ_right xs ys n k d f) (cases (same_vertices xs ys))
