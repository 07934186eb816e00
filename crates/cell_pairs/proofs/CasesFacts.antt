-- Laws of the 27 cases. What holds of each of them is one test that is computed over all, and a law that reads it. Assumes nothing.
use Rattle.std.specs.Prelude.{ℕ, ◌+◌, ◌<◌, ◌≡◌, Bool, true, false, not, ◌⊎◌, List, [], ◌∷◌, get_or, eqb, ltb}
use Rattle.std.proofs.Common.{arith, sym, ap₂, ◌∙◌, ⊎_elim, eqb-true, ltb-true, lt-ltb, ne_eqb}
use Rattle.std.proofs.Math.Path.{refl, ap}
use Rattle.std.proofs.Math.ListN.{length}
use Rattle.std.proofs.lemmas.Bool.{not-true}
use Rattle.lists.specs.Bool.{◌and◌, ◌or◌, true≢false, every, every_at, every_of, ◌also◌, end, and_left, and_right, and_both, or_cases}
use Rattle.lists.specs.Bounded.{all, all_at, least}
use Rattle.lists.specs.Range.{range}
use Rattle.lists.specs.Total.{gate, count, total_add, total_ext, pick}
use Rattle.lists.specs.Refusals.{refusal}
use Rattle.grid.specs.Cells.{own, has, distinct, same_two}
use Rattle.grid.specs.CellsFacts.{length_part}
use Rattle.grid.specs.Mesh.{Mesh, corners, vertex_places, vertices_right, mesh_checks}
use Rattle.grid.specs.Examples.{opened_grid}
use Rattle.cell_pairs.specs.Matches.{Match, ◌⇄◌, same_matches, matches, edge_of, pattern_of}
use Rattle.cell_pairs.specs.Cases.{case_at, can_be, of_triangles, Triangle, shared_vertices, two_cells}
use Rattle.cell_pairs.specs.SharedVertices.{vertex_below_lem}
use Rattle.cell_pairs.specs.MatchesFacts.{same_matches_lem, Lone, lone, Places, places_of, matches_at, matches_by, length_at, matches_at_lem, has_three, has_is_place}

-- ---- computed over the 27

numbers_computed : all 27 (λ k. eqb (case_at k).number k) ≡ true
unfolding all ◌and◌
numbers_computed = refl

pub case_number : (k : ℕ) → k < 27 → (case_at k).number ≡ k
case_number k l = eqb-true _ _ (all_at 27 (λ k. eqb (case_at k).number k) numbers_computed k l)

can_be_computed : all 27 (λ k. can_be (case_at k).shared) ≡ true
unfolding all ◌and◌ every can_be
can_be_computed = refl

pub case_can_be : (k : ℕ) → k < 27 → can_be (case_at k).shared ≡ true
case_can_be = all_at 27 (λ k. can_be (case_at k).shared) can_be_computed

formula_computed : all 27 (λ k. eqb (pattern_of (case_at k).shared) k) ≡ true
unfolding all ◌and◌ ◌or◌ least same_two edge_of pattern_of
formula_computed = refl

pub case_formula : (k : ℕ) → k < 27 → pattern_of (case_at k).shared ≡ k
case_formula k l = eqb-true _ _ (all_at 27 (λ k. eqb (pattern_of (case_at k).shared) k) formula_computed k l)

-- each occurs: the two cells that are made from its list have that list
abbrev occurs_at : ℕ → Bool
occurs_at k = eqb (refusal (mesh_checks (two_cells (case_at k).shared))) 0 and same_matches (matches (corners (two_cells (case_at k).shared) 0) (corners (two_cells (case_at k).shared) 1)) (case_at k).shared

occurs_computed : all 27 occurs_at ≡ true
unfolding opened_grid edge_of matches same_matches
occurs_computed = refl

pub case_occurs : (k : ℕ) → k < 27
    → (refusal (mesh_checks (two_cells (case_at k).shared)) ≡ 0) × (matches (corners (two_cells (case_at k).shared) 0) (corners (two_cells (case_at k).shared) 1) ≡ (case_at k).shared)
case_occurs k l =
    let e = all_at 27 occurs_at occurs_computed k l in
    (eqb-true _ _ (and_left _ _ e), same_matches_lem _ _ (and_right (eqb (refusal (mesh_checks (two_cells (case_at k).shared))) 0) _ e))

-- ---- each list that there can be

-- it is that of the case with the formula's number
unfoldable found : List Match → Bool
found ms = ltb (pattern_of ms) 27 and same_matches (case_at (pattern_of ms)).shared ms

one_computed : all 3 (λ i. all 3 (λ j. found (i ⇄ j ∷ []))) ≡ true
unfolding all ◌and◌ ◌or◌ pattern_of same_matches found
one_computed = refl

-- found, unless the test places are the same or the trial places do not rise
abbrev found_two : ℕ → ℕ → ℕ → ℕ → Bool
found_two i j k l = eqb i k or not (ltb j l) or found (i ⇄ j ∷ k ⇄ l ∷ [])

two_computed : all 3 (λ i. all 3 (λ j. all 3 (λ k. all 3 (λ l. found_two i j k l)))) ≡ true
unfolding all ◌and◌ ◌or◌ least same_two edge_of pattern_of same_matches found
two_computed = refl

-- the two places of a match
of_triangles_lem : (m : Match) → of_triangles m ≡ true → (m.test < 3) × (m.trial < 3)
of_triangles_lem m e = (ltb-true _ _ (and_left _ _ e), ltb-true _ _ (and_right (ltb m.test 3) _ e))

can_be_found : (ms : List Match) → can_be ms ≡ true → found ms ≡ true
unfolding can_be
can_be_found [] e = absurd (true≢false (sym e))
can_be_found (m ∷ []) e = let h = of_triangles_lem m e in all_at 3 _ (all_at 3 _ one_computed m.test h.0) m.trial h.1
can_be_found (m ∷ n ∷ []) e =
    let h = of_triangles_lem m (every_at _ e 0) in
    let k = of_triangles_lem n (every_at _ e 1) in
    let two : found_two m.test m.trial n.test n.trial ≡ true = all_at 3 _ (all_at 3 _ (all_at 3 _ (all_at 3 _ two_computed _ h.0) _ h.1) _ k.0) _ k.1 in
    ⊎_elim
    (λ t. absurd (⊎_elim (λ x. true≢false (sym x ∙ not-true _ (every_at _ e 2))) (λ x. true≢false (sym (every_at _ e 3) ∙ not-true _ x)) (or_cases _ _ t)))
    (λ f. f) (or_cases _ _ two)
can_be_found (m ∷ n ∷ o ∷ ms) e = absurd (true≢false (sym e))

pub can_be_case : (ms : List Match) → can_be ms ≡ true → (pattern_of ms < 27) × ((case_at (pattern_of ms)).shared ≡ ms)
unfolding found
can_be_case ms e =
    let f : ltb (pattern_of ms) 27 and same_matches (case_at (pattern_of ms)).shared ms ≡ true = can_be_found ms e in
    (ltb-true _ _ (and_left _ _ f), same_matches_lem _ _ (and_right (ltb (pattern_of ms) 27) _ f))

-- ---- two cells that share one or two vertices

one_can_be : (p q : ℕ) → p < 3 → q < 3 → can_be (p ⇄ q ∷ []) ≡ true
unfolding can_be
one_can_be p q h k = and_both _ _ (lt-ltb p 3 h) (lt-ltb q 3 k)

two_can_be : (p q r s : ℕ) → p < 3 → r < 3 → (p ≡ r → ⊥) → q < s → s < 3 → can_be (p ⇄ q ∷ r ⇄ s ∷ []) ≡ true
unfolding can_be
two_can_be p q r s hp hr n l hs =
    every_of
    (and_both _ _ (lt-ltb p 3 hp) (lt-ltb q 3 (omega arith))
    also and_both _ _ (lt-ltb r 3 hr) (lt-ltb s 3 hs)
    also ap not (ne_eqb p r n)
    also lt-ltb q s l
    also end)

module _ (a b c : ℕ) (h : Places a b c) where
  -- where tests say which trial vertices are shared
  few_by : (e f g : Bool) → ltb a 3 ≡ e → ltb b 3 ≡ f → ltb c 3 ≡ g → (gate e 1 + gate f 1 + gate g 1 ≡ 1) ⊎ (gate e 1 + gate f 1 + gate g 1 ≡ 2)
      → can_be (matches_by e f g a b c) ≡ true
  few_by true true true p q r s = absurd (⊎_elim (λ x. omega arith) (λ x. omega arith) s)
  few_by true true false p q r s = two_can_be a 0 b 1 (ltb-true _ _ p) (ltb-true _ _ q) (h.ab (ltb-true _ _ p)) (omega arith) (omega arith)
  few_by true false true p q r s = two_can_be a 0 c 2 (ltb-true _ _ p) (ltb-true _ _ r) (h.ac (ltb-true _ _ p)) (omega arith) (omega arith)
  few_by false true true p q r s = two_can_be b 1 c 2 (ltb-true _ _ q) (ltb-true _ _ r) (h.bc (ltb-true _ _ q)) (omega arith) (omega arith)
  few_by true false false p q r s = one_can_be a 0 (ltb-true _ _ p) (omega arith)
  few_by false true false p q r s = one_can_be b 1 (ltb-true _ _ q) (omega arith)
  few_by false false true p q r s = one_can_be c 2 (ltb-true _ _ r) (omega arith)
  few_by false false false p q r s = absurd (⊎_elim (λ x. omega arith) (λ x. omega arith) s)

  pub few_can_be : (gate (ltb a 3) 1 + gate (ltb b 3) 1 + gate (ltb c 3) 1 ≡ 1) ⊎ (gate (ltb a 3) 1 + gate (ltb b 3) 1 + gate (ltb c 3) 1 ≡ 2) → can_be (matches_at a b c) ≡ true
  unfolding matches_at
  few_can_be = few_by (ltb a 3) (ltb b 3) (ltb c 3) refl refl refl

-- ---- how many vertices two cells share

pub gate_none : (b : Bool) → gate b 0 ≡ 0
gate_none true = refl
gate_none false = refl

-- a test of x, counted where x is one of three
gate_three : (t e f g : Bool) → Lone e f g → gate (t and (e or f or g)) 1 ≡ gate e (gate t 1) + gate f (gate t 1) + gate g (gate t 1)
unfolding ◌and◌ ◌or◌
gate_three true true true g h = absurd (h.ef refl refl)
gate_three true true false true h = absurd (h.eg refl refl)
gate_three true true false false h = refl
gate_three true false true true h = absurd (h.fg refl refl)
gate_three true false true false h = refl
gate_three true false false true h = refl
gate_three true false false false h = refl
gate_three false e f g h = rw (gate_none e, gate_none f, gate_none g)

-- as many as there are vertices of the trial triangle in the test triangle
count_shared : (xs ys : List ℕ) (top : ℕ) → length ys ≡ 3 → distinct ys ≡ true → ((q : ℕ) → q < 3 → get_or ys q 0 < top)
    → count (λ x. has xs x and has ys x) (range top) ≡ gate (has xs (get_or ys 0 0)) 1 + gate (has xs (get_or ys 1 0)) 1 + gate (has xs (get_or ys 2 0)) 1
count_shared xs ys top n d below =
    let at : ℕ → ℕ → ℕ = λ q x. gate (eqb (get_or ys q 0) x) (gate (has xs x) 1) in
    total_ext _ (λ x. at 0 x + at 1 x + at 2 x)
    (λ x. ap (λ (b : Bool). gate (has xs x and b) 1) (has_three ys x n) ∙ gate_three (has xs x) _ _ _ (lone ys x n d)) (range top)
    ∙ total_add (λ x. at 0 x + at 1 x) (at 2) (range top)
    ∙ ap₂ ◌+◌
    (total_add (at 0) (at 1) (range top)
    ∙ ap₂ ◌+◌ (pick (get_or ys 0 0) top (λ x. gate (has xs x) 1) (below 0 (omega arith))) (pick (get_or ys 1 0) top (λ x. gate (has xs x) 1) (below 1 (omega arith))))
    (pick (get_or ys 2 0) top (λ x. gate (has xs x) 1) (below 2 (omega arith)))

module _ (m : Mesh) (places : vertex_places m ≡ true) (e : vertices_right m ≡ true) (i j : ℕ) (hi : Triangle m i) (hj : Triangle m j) where
  apart_at : (k : ℕ) → k < m.cells → distinct (corners m k) ≡ true
  unfolding vertices_right
  apart_at k h = all_at _ _ (every_at _ e 2) k h

  pub three_at : (k : ℕ) → Triangle m k → length (corners m k) ≡ 3
  unfolding corners vertex_places
  three_at k h = length_part own m.kinds m.cell_vertices m.cells k (eqb-true _ _ places) h.cell ∙ h.kind

  pub mesh_counts : shared_vertices m i j ≡ length (matches (corners m i) (corners m j))
  unfolding shared_vertices
  mesh_counts =
      let xs = corners m i in
      let ys = corners m j in
      let three = three_at i hi in
      count_shared xs ys m.vertices (three_at j hj) (apart_at j hj.cell) (λ q l. vertex_below_lem m e j q (omega (arith, three_at j hj)))
      ∙ rw (has_is_place xs (get_or ys 0 0) three, has_is_place xs (get_or ys 1 0) three, has_is_place xs (get_or ys 2 0) three) (sym (length_at _ _ _))
      ∙ ap length (sym (matches_at_lem xs ys three (three_at j hj) (apart_at i hi.cell)))

  pub mesh_can_be : (shared_vertices m i j ≡ 1) ⊎ (shared_vertices m i j ≡ 2) → can_be (matches (corners m i) (corners m j)) ≡ true
  mesh_can_be =
      rw (mesh_counts, matches_at_lem (corners m i) (corners m j) (three_at i hi) (three_at j hj) (apart_at i hi.cell), length_at)
      (few_can_be _ _ _ (places_of (corners m i) (corners m j) (three_at j hj) (apart_at j hj.cell)))
