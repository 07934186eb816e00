-- Laws of the pattern and of check 7 of two triangles, by the places of shared vertices (`MatchesFacts`). Assumes nothing.
use Rattle.std.specs.Prelude.{ℕ, ◌+◌, ◌*◌, ◌<◌, ◌≡◌, refl, Bool, true, false, cond, not, ◌⊎◌, List, [], ◌∷◌, get_or, eqb, ltb}
use Rattle.std.proofs.Common.{add-zero, arith, sym, ap, ◌∙◌, inl, inr, ⊎_elim, eqb-true, ltb-true, lt-ltb}
use Rattle.lists.specs.Bool.{◌and◌, ◌or◌, true≢false, cases, every, every_at, every_fails, every_of, ◌also◌, end, and_left, and_right, or_cases, or_left, or_right, turned, passed}
use Rattle.lists.specs.Bounded.{all, some, all_at}
use Rattle.lists.specs.Total.{gate}
use Rattle.grid.specs.Cells.{has, share, distinct}
use Rattle.grid.specs.CellsFacts.{has_at, share_at, share_turned}
use Rattle.grid.specs.Rows.{entity, row}
use Rattle.grid.specs.RowsFacts.{cell_three, has_row}
use Rattle.cell_pairs.specs.Records.{pattern_count}
use Rattle.cell_pairs.specs.Matches.{Match, triangle_count, pattern_of}
use Rattle.cell_pairs.specs.Patterns.{cells_pattern}
use Rattle.cell_pairs.specs.Cases.{can_be}
use Rattle.cell_pairs.specs.Table.{pattern, number_of, of_two_triangles}
use Rattle.cell_pairs.proofs.TableFacts.{triangles_number}
use Rattle.cell_pairs.specs.MatchesFacts.{Lone, lone, first_of, place, Places, places_of, matches_at, at_by, matches_at_lem, has_is_place}
use Rattle.cell_pairs.proofs.CasesFacts.{can_be_case, few_can_be}
use Rattle.triangle_patterns.specs.Triangles.{three, cells_right}

-- ---- places

pub pattern_at_lem : (rows : List ℕ) (i j : ℕ) → distinct (three rows i) ≡ true
    → cells_pattern (three rows i) (three rows j) ≡ number_of (pattern 3 3 (matches_at (place (three rows i) (entity rows j 0)) (place (three rows i) (entity rows j 1)) (place (three rows i) (entity rows j 2))))
pattern_at_lem rows i j d = ap (λ (ms : List Match). number_of (pattern 3 3 ms)) (matches_at_lem (three rows i) (three rows j) refl refl d)

-- the first number of a cell, as code reads it
pub first_of_lem : (rows : List ℕ) (j : ℕ) → get_or rows (4 * j) 0 ≡ entity rows j 0
first_of_lem rows j = ap (λ (k : ℕ). get_or rows k 0) (sym (add-zero (4 * j)))

module _ (rows : List ℕ) (i j : ℕ) {a b c : ℕ} (e : a ≡ place (three rows i) (get_or rows (4 * j) 0)) (f : b ≡ place (three rows i) (entity rows j 1)) (g : c ≡ place (three rows i) (entity rows j 2)) where
  first_place_of : a ≡ place (three rows i) (entity rows j 0)
  first_place_of = e ∙ ap (λ (x : ℕ). place (three rows i) x) (first_of_lem rows j)

  -- three places that are found for the vertices of cell j
  pub found_places : distinct (three rows j) ≡ true → Places a b c
  found_places d = rw (first_place_of, f, g) (places_of (three rows i) (three rows j) refl d)

  -- the pattern of these
  pub found_pattern : distinct (three rows i) ≡ true → number_of (pattern 3 3 (matches_at a b c)) ≡ cells_pattern (three rows i) (three rows j)
  found_pattern d = rw (first_place_of, f, g) (sym (pattern_at_lem rows i j d))

-- the pattern of three shared vertices
abbrev pub three_pattern : ℕ → ℕ → ℕ → ℕ
three_pattern a b c = cond (eqb a 0 and eqb b 1 and eqb c 2) 27 pattern_count

-- two places are the same, and below 3
abbrev pub clash : ℕ → ℕ → Bool
clash a b = ltb a 3 and eqb a b

-- computed over all places: these are shared vertices of two triangles
two_computed : all 4 (λ a. all 4 (λ b. all 4 (λ c. clash a b or clash a c or clash b c or of_two_triangles (matches_at a b c)))) ≡ true
unfolding all ◌and◌ ◌or◌ every can_be of_two_triangles matches_at
two_computed = refl

module _ {a b c : ℕ} (h : Places a b c) where
  apart : {p q : ℕ} → (p < 3 → p ≡ q → ⊥) → clash p q ≡ true → ⊥
  apart {p} {q} n e = n (ltb-true _ _ (and_left _ _ e)) (eqb-true _ _ (and_right (ltb p 3) _ e))

  -- what holds of all places that do not clash
  pub at_places : (f : ℕ → ℕ → ℕ → Bool) → all 4 (λ a. all 4 (λ b. all 4 (λ c. clash a b or clash a c or clash b c or f a b c))) ≡ true → f a b c ≡ true
  at_places f e =
      let t : clash a b or clash a c or clash b c or f a b c ≡ true = all_at 4 _ (all_at 4 _ (all_at 4 _ e _ h.most.0) _ h.most.1) _ h.most.2 in
      ⊎_elim
      (λ t. absurd (⊎_elim (λ u. ⊎_elim (apart h.ab) (apart h.ac) (or_cases _ _ u)) (apart h.bc) (or_cases _ _ t)))
      (λ r. r) (or_cases _ _ t)

  -- the table's number is the triangle formula's
  pub number_places : number_of (pattern 3 3 (matches_at a b c)) ≡ cond (ltb (pattern_of (matches_at a b c)) triangle_count) (pattern_of (matches_at a b c)) pattern_count
  number_places = triangles_number _ (at_places (λ a b c. of_two_triangles (matches_at a b c)) two_computed)

  -- one or two shared vertices have one
  few_number : can_be (matches_at a b c) ≡ true → number_of (pattern 3 3 (matches_at a b c)) < pattern_count
  few_number e =
      let low : pattern_of (matches_at a b c) < 27 = (can_be_case _ e).0 in
      rw (number_places, lt-ltb (pattern_of (matches_at a b c)) triangle_count (omega (arith, low))) (omega (arith, low))

three_kept : (b : Bool) → cond (ltb (cond b 27 triangle_count) triangle_count) (cond b 27 triangle_count) pattern_count ≡ cond b 27 pattern_count
three_kept true = refl
three_kept false = refl

three_formula : (a b c : ℕ) → a < 3 → b < 3 → c < 3 → pattern_of (matches_at a b c) ≡ cond (eqb a 0 and eqb b 1 and eqb c 2) 27 triangle_count
unfolding pattern_of
three_formula a b c h k l = ap pattern_of (at_by a b c (lt-ltb _ _ h) (lt-ltb _ _ k) (lt-ltb _ _ l))

at_abc : {a b c : ℕ} → Places a b c → a < 3 → b < 3 → c < 3 → number_of (pattern 3 3 (matches_at a b c)) ≡ three_pattern a b c
at_abc {a} {b} {c} p h k l = number_places p ∙ rw (three_formula a b c h k l) (three_kept (eqb a 0 and eqb b 1 and eqb c 2))

-- ---- which vertices are shared

-- cells that share a vertex: one of cell j is in cell i
share_any : (rows : List ℕ) (i j : ℕ) → share (three rows i) (three rows j) ≡ true → has (three rows i) (entity rows j 0) or has (three rows i) (entity rows j 1) or has (three rows i) (entity rows j 2) ≡ true
unfolding share some ◌or◌
share_any rows i j h = share_turned (three rows i) (three rows j) h

share_first : (rows : List ℕ) (i j : ℕ) → has (three rows i) (entity rows j 0) ≡ true → share (three rows i) (three rows j) ≡ true
share_first rows i j h = share_at (three rows i) (three rows j) (entity rows j 0) h (has_at (three rows j) 0 (entity rows j 0) (omega arith) refl)

-- ---- check 7

-- some of three, and not all, are one or two
one_or_two : (e f g : Bool) → e or f or g ≡ true → every (e ∷ f ∷ g ∷ []) ≡ false → (gate e 1 + gate f 1 + gate g 1 ≡ 1) ⊎ (gate e 1 + gate f 1 + gate g 1 ≡ 2)
unfolding every ◌and◌ ◌or◌
one_or_two true true true s t = absurd (true≢false t)
one_or_two true true false s t = inr refl
one_or_two true false true s t = inr refl
one_or_two false true true s t = inr refl
one_or_two true false false s t = inl refl
one_or_two false true false s t = inl refl
one_or_two false false true s t = inl refl
one_or_two false false false s t = absurd (true≢false (sym s))

-- all three vertices of cell j are vertices of cell i
abbrev pub shares_all : List ℕ → ℕ → ℕ → Bool
shares_all rows i j = every (has (three rows i) (entity rows j 0) ∷ has (three rows i) (entity rows j 1) ∷ has (three rows i) (entity rows j 2) ∷ [])

-- cells i and j have the same list
abbrev pub same_list : List ℕ → ℕ → ℕ → Bool
same_list rows i j = eqb (entity rows i 0) (entity rows j 0) and eqb (entity rows i 1) (entity rows j 1) and eqb (entity rows i 2) (entity rows j 2)

first_place : (e f g : Bool) → eqb (first_of e f g) 0 ≡ e
unfolding first_of
first_place true f g = refl
first_place false true g = refl
first_place false false true = refl
first_place false false false = refl

second_place : (e f g : Bool) → Lone e f g → eqb (first_of e f g) 1 ≡ f
unfolding first_of
second_place true true g h = absurd (h.ef refl refl)
second_place true false g h = refl
second_place false true g h = refl
second_place false false true h = refl
second_place false false false h = refl

third_place : (e f g : Bool) → Lone e f g → eqb (first_of e f g) 2 ≡ g
unfolding first_of
third_place true f true h = absurd (h.eg refl refl)
third_place true f false h = refl
third_place false true true h = absurd (h.fg refl refl)
third_place false true false h = refl
third_place false false true h = refl
third_place false false false h = refl

three_right : (b : Bool) → ltb (cond b 27 pattern_count) pattern_count ≡ b
three_right true = refl
three_right false = refl

module _ (rows : List ℕ) (i j : ℕ) (d : distinct (three rows i) ≡ true) (k : distinct (three rows j) ≡ true) where
  -- a pair that shares one or two vertices has a pattern: one of the 27 cases
  share_few : share (three rows i) (three rows j) ≡ true → shares_all rows i j ≡ false → cells_pattern (three rows i) (three rows j) < pattern_count
  share_few s t =
      let few =
      few_can_be _ _ _ (places_of (three rows i) (three rows j) refl k)
      (rw (has_is_place (three rows i) (entity rows j 0) refl, has_is_place (three rows i) (entity rows j 1) refl, has_is_place (three rows i) (entity rows j 2) refl) at (one_or_two _ _ _ (share_any rows i j s) t)) in
      rw (pattern_at_lem rows i j d) (few_number (places_of (three rows i) (three rows j) refl k) few)

  -- a pair that does not share three vertices passes
  few_right : shares_all rows i j ≡ false → cells_right (three rows i) (three rows j) ≡ true
  few_right t = ⊎_elim (λ s. or_right _ _ (lt-ltb _ _ (share_few s t))) (λ s. or_left _ _ (ap not s)) (cases (share (three rows i) (three rows j)))

  shared : (q : ℕ) → has (three rows i) (entity rows j q) ≡ true → place (three rows i) (entity rows j q) < 3
  shared q h = ltb-true _ _ (sym (has_is_place (three rows i) (entity rows j q) refl) ∙ h)

  -- the pattern of a pair that shares three
  all_pattern : shares_all rows i j ≡ true → cells_pattern (three rows i) (three rows j) ≡ cond (same_list rows i j) 27 pattern_count
  all_pattern t =
      pattern_at_lem rows i j d
      ∙ at_abc (places_of (three rows i) (three rows j) refl k) (shared 0 (every_at _ t 0)) (shared 1 (every_at _ t 1)) (shared 2 (every_at _ t 2))
      ∙ rw (first_place (eqb (entity rows i 0) (entity rows j 0)), second_place _ _ _ (lone (three rows i) (entity rows j 1) refl d), third_place _ _ _ (lone (three rows i) (entity rows j 2) refl d))

  -- it passes where the two lists are the same
  all_right : shares_all rows i j ≡ true → cells_right (three rows i) (three rows j) ≡ same_list rows i j
  unfolding ◌or◌
  all_right t = rw (share_first rows i j (every_at _ t 0), all_pattern t) (three_right (same_list rows i j))

  -- the answers of a search that stops early
  module _ (other : (p : ℕ) → p < 3 → entity rows j p ≡ entity rows i 3 → ⊥) where
    in_row : (p : ℕ) → p < 3 → {b : Bool} → b ≡ has (row rows i) (entity rows j p) → b ≡ has (three rows i) (entity rows j p)
    in_row p l e = e ∙ has_row (entity rows i 3) rows i _ (other p l) ∙ ap (λ (xs : List ℕ). has xs (entity rows j p)) (cell_three _ rows i refl)

    first_in_row : {b : Bool} → b ≡ has (row rows i) (get_or rows (4 * j) 0) → b ≡ has (three rows i) (entity rows j 0)
    first_in_row e = in_row 0 (omega arith) (e ∙ ap (has (row rows i)) (first_of_lem rows j))

    pub first_missing : {b : Bool} → b ≡ has (row rows i) (get_or rows (4 * j) 0) → not b ≡ true → true ≡ cells_right (three rows i) (three rows j)
    first_missing e h = sym (few_right (every_fails _ 0 (turned (first_in_row e) h)))

    pub second_missing : {b : Bool} → b ≡ has (row rows i) (entity rows j 1) → not b ≡ true → true ≡ cells_right (three rows i) (three rows j)
    second_missing e h = sym (few_right (every_fails _ 1 (turned (in_row 1 (omega arith) e) h)))

    pub third_missing : {b : Bool} → b ≡ has (row rows i) (entity rows j 2) → not b ≡ true → true ≡ cells_right (three rows i) (three rows j)
    third_missing e h = sym (few_right (every_fails _ 2 (turned (in_row 2 (omega arith) e) h)))

    pub none_missing : {a b c : Bool} → a ≡ has (row rows i) (get_or rows (4 * j) 0) → not a ≡ false → b ≡ has (row rows i) (entity rows j 1) → not b ≡ false → c ≡ has (row rows i) (entity rows j 2) → not c ≡ false
        → cells_right (three rows i) (three rows j) ≡ same_list rows i j
    none_missing e h f k g l = all_right (every_of (passed (first_in_row e) h also passed (in_row 1 (omega arith) f) k also passed (in_row 2 (omega arith) g) l also end))
