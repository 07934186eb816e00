-- The shared vertices of two triangles, by places: in a cell without a vertex twice a vertex has one place at most, so their list follows from the test
-- places of the three trial vertices. Assumes nothing.
use Rattle.std.specs.Prelude.{ℕ, ◌+◌, ◌<◌, ◌≡◌, refl, Bool, true, false, length, get_or, eqb, ltb}
use Rattle.std.proofs.Common.{arith, sym, ap, ap₂, ◌∙◌, ⊎_elim, eqb-true, eq-eqb, ltb-true}
use mathlib.Core.List.{List, [], ◌∷◌, ◌++◌, flat_map, append-nil}
use Rattle.lists.specs.Bool.{◌and◌, ◌or◌, true≢false, and_left, and_right, and_both, or_cases}
use Rattle.lists.specs.Bounded.{all, some, all_at}
use Rattle.lists.specs.Range.{range, when}
use Rattle.lists.specs.Total.{gate}
use Rattle.grid.specs.Cells.{has, distinct}
use Rattle.grid.specs.Facts.{vertices_differ}
use Rattle.cell_pairs.specs.Matches.{Match, ◌⇄◌, same_matches, matches}

-- ---- the test that two lists are the same

pub joined : {a a' b b' : ℕ} {ms ms' : List Match} → a ≡ a' → b ≡ b' → ms ≡ ms' → ◌≡◌ {A = List Match} (a ⇄ b ∷ ms) (a' ⇄ b' ∷ ms')
joined p q r = rw (p, q, r)

pub same_matches_lem : (ms ns : List Match) → same_matches ms ns ≡ true → ms ≡ ns
unfolding same_matches
same_matches_lem [] [] e = refl
same_matches_lem [] (n ∷ ns) e = absurd (true≢false (sym e))
same_matches_lem (m ∷ ms) [] e = absurd (true≢false (sym e))
same_matches_lem (m ∷ ms) (n ∷ ns) e =
    let a : Bool = eqb m.test n.test in
    let b : Bool = eqb m.trial n.trial in
    let front : a and b ≡ true = and_left (a and b) (same_matches ms ns) e in
    joined (eqb-true _ _ (and_left a b front)) (eqb-true _ _ (and_right a b front)) (same_matches_lem ms ns (and_right (a and b) (same_matches ms ns) e))

pub same_matches_refl : (ms : List Match) → same_matches ms ms ≡ true
unfolding same_matches
same_matches_refl [] = refl
same_matches_refl (m ∷ ms) = and_both _ _ (and_both _ _ (eq-eqb m.test m.test refl) (eq-eqb m.trial m.trial refl)) (same_matches_refl ms)

-- ---- places

-- of tests at places 0, 1 and 2 the first that holds; 3 where none does
unfoldable pub first_of : Bool → Bool → Bool → ℕ
first_of true b c = 0
first_of false true c = 1
first_of false false true = 2
first_of false false false = 3

-- the place of vertex x in a triangle; 3 where it has none
abbrev pub place : List ℕ → ℕ → ℕ
place xs x = first_of (eqb (get_or xs 0 0) x) (eqb (get_or xs 1 0) x) (eqb (get_or xs 2 0) x)

-- the match of test place p and trial place q, if there is one
abbrev matched : ℕ → ℕ → List Match
matched p q = when (ltb p 3) (p ⇄ q ∷ [])

-- the matches of cells whose trial places 0, 1 and 2 stand at the test places a, b and c
unfoldable pub matches_at : ℕ → ℕ → ℕ → List Match
matches_at a b c = matched a 0 ++ (matched b 1 ++ matched c 2)

-- the same, where tests say which trial vertices are shared
abbrev pub matches_by : Bool → Bool → Bool → ℕ → ℕ → ℕ → List Match
matches_by e f g a b c = when e (a ⇄ 0 ∷ []) ++ (when f (b ⇄ 1 ∷ []) ++ when g (c ⇄ 2 ∷ []))

-- a trial vertex is shared where its test place is below 3
pub at_by : {e f g : Bool} (a b c : ℕ) → ltb a 3 ≡ e → ltb b 3 ≡ f → ltb c 3 ≡ g → matches_at a b c ≡ matches_by e f g a b c
unfolding matches_at
at_by a b c p q r = rw (p, q, r)

-- how many there are
length_by : (e f g : Bool) (a b c : ℕ) → length (matches_by e f g a b c) ≡ gate e 1 + gate f 1 + gate g 1
length_by true true true a b c = refl
length_by true true false a b c = refl
length_by true false true a b c = refl
length_by true false false a b c = refl
length_by false true true a b c = refl
length_by false true false a b c = refl
length_by false false true a b c = refl
length_by false false false a b c = refl

pub length_at : (a b c : ℕ) → length (matches_at a b c) ≡ gate (ltb a 3) 1 + gate (ltb b 3) 1 + gate (ltb c 3) 1
unfolding matches_at
length_at a b c = length_by (ltb a 3) (ltb b 3) (ltb c 3) a b c

-- the three vertices of a triangle are apart
record Apart (xs : List ℕ) : Type 0 where
  ab : get_or xs 0 0 ≡ get_or xs 1 0 → ⊥
  ac : get_or xs 0 0 ≡ get_or xs 2 0 → ⊥
  bc : get_or xs 1 0 ≡ get_or xs 2 0 → ⊥

apart : (xs : List ℕ) → length xs ≡ 3 → distinct xs ≡ true → Apart xs
apart xs n d =
    let differ : (p q : ℕ) → p < 3 → q < 3 → get_or xs p 0 ≡ get_or xs q 0 → p ≡ q = λ p q lp lq. vertices_differ xs d p q (omega (arith, n)) (omega (arith, n)) in
    record {
      ab = λ e. let z : ◌≡◌ {A = ℕ} 0 1 = differ 0 1 (omega arith) (omega arith) e in absurd (omega arith);
      ac = λ e. let z : ◌≡◌ {A = ℕ} 0 2 = differ 0 2 (omega arith) (omega arith) e in absurd (omega arith);
      bc = λ e. let z : ◌≡◌ {A = ℕ} 1 2 = differ 1 2 (omega arith) (omega arith) e in absurd (omega arith);
    }

-- at most one of three tests holds
pub record Lone (e f g : Bool) : Type 0 where
  pub ef : e ≡ true → f ≡ true → ⊥
  pub eg : e ≡ true → g ≡ true → ⊥
  pub fg : f ≡ true → g ≡ true → ⊥

pub lone : (xs : List ℕ) (x : ℕ) → length xs ≡ 3 → distinct xs ≡ true → Lone (eqb (get_or xs 0 0) x) (eqb (get_or xs 1 0) x) (eqb (get_or xs 2 0) x)
lone xs x n d =
    let h = apart xs n d in
    record {
      ef = λ p q. h.ab (eqb-true _ _ p ∙ sym (eqb-true _ _ q));
      eg = λ p q. h.ac (eqb-true _ _ p ∙ sym (eqb-true _ _ q));
      fg = λ p q. h.bc (eqb-true _ _ p ∙ sym (eqb-true _ _ q));
    }

-- the matches at one trial place
row : (e f g : Bool) (q : ℕ) → Lone e f g
    → when e (0 ⇄ q ∷ []) ++ (when f (1 ⇄ q ∷ []) ++ (when g (2 ⇄ q ∷ []) ++ [])) ≡ matched (first_of e f g) q
unfolding first_of
row true true g q h = absurd (h.ef refl refl)
row true false true q h = absurd (h.eg refl refl)
row true false false q h = refl
row false true true q h = absurd (h.fg refl refl)
row false true false q h = refl
row false false true q h = refl
row false false false q h = refl

-- the matches go by the places of the trial vertices
pub matches_at_lem : (xs ys : List ℕ) → length xs ≡ 3 → length ys ≡ 3 → distinct xs ≡ true
    → matches xs ys ≡ matches_at (place xs (get_or ys 0 0)) (place xs (get_or ys 1 0)) (place xs (get_or ys 2 0))
unfolding matches matches_at flat_map range
matches_at_lem xs ys n k d =
    rw (n, k)
    (ap₂ ◌++◌ (row _ _ _ 0 (lone xs (get_or ys 0 0) n d)) (ap₂ ◌++◌ (row _ _ _ 1 (lone xs (get_or ys 1 0) n d)) (append-nil _ ∙ row _ _ _ 2 (lone xs (get_or ys 2 0) n d))))

-- what stands at the place of x
pub place_holds : (xs : List ℕ) (x : ℕ) → place xs x < 3 → get_or xs (place xs x) 0 ≡ x
unfolding first_of
place_holds xs x = go (eqb (get_or xs 0 0) x) (eqb (get_or xs 1 0) x) (eqb (get_or xs 2 0) x) refl refl refl
  where
    go : (e f g : Bool) → eqb (get_or xs 0 0) x ≡ e → eqb (get_or xs 1 0) x ≡ f → eqb (get_or xs 2 0) x ≡ g → first_of e f g < 3 → get_or xs (first_of e f g) 0 ≡ x
    go true f g p q r h = eqb-true _ _ p
    go false true g p q r h = eqb-true _ _ q
    go false false true p q r h = eqb-true _ _ r
    go false false false p q r h = absurd (omega arith)

-- two vertices at one place are the same
place_same : (xs : List ℕ) (x y : ℕ) → place xs x < 3 → place xs x ≡ place xs y → x ≡ y
place_same xs x y h e =
    let k : place xs y < 3 = omega arith in
    sym (place_holds xs x h) ∙ ap (λ (p : ℕ). get_or xs p 0) e ∙ place_holds xs y k

-- a place is at most 3
place_most : (e f g : Bool) → first_of e f g < 4
unfolding first_of
place_most true f g = omega arith
place_most false true g = omega arith
place_most false false true = omega arith
place_most false false false = omega arith

-- the test places of three trial vertices, 3 for one that is not shared: no two shared vertices are at one place
pub record Places (a b c : ℕ) : Type 0 where
  pub most : (a < 4) × (b < 4) × (c < 4)
  pub ab : a < 3 → a ≡ b → ⊥
  pub ac : a < 3 → a ≡ c → ⊥
  pub bc : b < 3 → b ≡ c → ⊥

pub places_of : (xs ys : List ℕ) → length ys ≡ 3 → distinct ys ≡ true → Places (place xs (get_or ys 0 0)) (place xs (get_or ys 1 0)) (place xs (get_or ys 2 0))
places_of xs ys n d =
    let h = apart ys n d in
    record {
      most = (place_most _ _ _, place_most _ _ _, place_most _ _ _);
      ab = λ l e. h.ab (place_same xs (get_or ys 0 0) (get_or ys 1 0) l e);
      ac = λ l e. h.ac (place_same xs (get_or ys 0 0) (get_or ys 2 0) l e);
      bc = λ l e. h.bc (place_same xs (get_or ys 1 0) (get_or ys 2 0) l e);
    }

-- the numbers of a triangle, one by one
pub has_three : (xs : List ℕ) (x : ℕ) → length xs ≡ 3 → has xs x ≡ ((eqb (get_or xs 0 0) x or eqb (get_or xs 1 0) x) or eqb (get_or xs 2 0) x)
unfolding has some ◌or◌
has_three xs x n = rw n

-- a vertex of a triangle has a place there
pub has_is_place : (xs : List ℕ) (x : ℕ) → length xs ≡ 3 → has xs x ≡ ltb (place xs x) 3
unfolding ◌or◌ first_of
has_is_place xs x n = has_three xs x n ∙ go (eqb (get_or xs 0 0) x) (eqb (get_or xs 1 0) x) (eqb (get_or xs 2 0) x)
  where
    go : (e f g : Bool) → e or f or g ≡ ltb (first_of e f g) 3
    go true f g = refl
    go false true g = refl
    go false false true = refl
    go false false false = refl

-- ---- what is computed over all places

-- two places are the same, and below 3
abbrev pub clash : ℕ → ℕ → Bool
clash a b = ltb a 3 and eqb a b

-- what holds of all places that do not clash
pub at_places : {a b c : ℕ} → Places a b c → (f : ℕ → ℕ → ℕ → Bool) → all 4 (λ a. all 4 (λ b. all 4 (λ c. clash a b or clash a c or clash b c or f a b c))) ≡ true → f a b c ≡ true
at_places {a} {b} {c} h f e =
    let t : clash a b or clash a c or clash b c or f a b c ≡ true = all_at 4 _ (all_at 4 _ (all_at 4 _ e _ h.most.0) _ h.most.1) _ h.most.2 in
    ⊎_elim
    (λ t. absurd (⊎_elim (λ u. ⊎_elim (differ h.ab) (differ h.ac) (or_cases _ _ u)) (differ h.bc) (or_cases _ _ t)))
    (λ r. r) (or_cases _ _ t)
  where
    differ : {p q : ℕ} → (p < 3 → p ≡ q → ⊥) → clash p q ≡ true → ⊥
    differ {p} {q} n e = n (ltb-true _ _ (and_left _ _ e)) (eqb-true _ _ (and_right (ltb p 3) _ e))
