-- What any sum over the records of the work list comes to: a sum over all ordered pairs of cells. A length, and a count of the records of one pair,
-- are such sums. Assumes nothing.
use Prim.Native.Nat.{ℕ, ◌<◌}
use Rattle.std.proofs.Common.{arith, sym, ap, ◌∙◌, eqb-true, eq-eqb, ne_eqb}
use Rattle.std.specs.Prelude.{◌≡◌, refl, Bool, true, false, not, length, get_or, eqb}
use mathlib.Core.List.{List}
use Rattle.std.proofs.lemmas.Bool.{eqb-false}
use Rattle.lists.specs.Bool.{◌and◌}
use Rattle.lists.specs.Range.{range, batch}
use Rattle.lists.specs.Total.{total, gate, total_one, total_flat_map, total_when, total_ext, total_below, total_swap, total_inward, total_zero, total_batches, gate_and, pick, pick_none}
use Rattle.grid.specs.Mesh.{Mesh, kinds_present, corners}
use Rattle.grid.specs.KindsFacts.{Kinded}
use Rattle.function.specs.Colours.{colour_count}
use Rattle.cell_pairs.specs.declared.WorkRecord.{WorkRecord}
use Rattle.cell_pairs.specs.Records.{rec, pattern_count, distant_pattern}
use Rattle.cell_pairs.specs.Patterns.{touch, pair_pattern, pair_vertex}
use Rattle.cell_pairs.specs.WorkList.{coloured, batches, distant_pair, distant_batch, distant_colours, distant_kinds, distant_part, touching_pair, touching_pattern, touching_part}
use Rattle.cell_pairs.specs.SharedVertices.{smallest_found, smallest_none}
use Rattle.cell_pairs.proofs.CellGroupsFacts.{total_coloured}

-- ---- a sum over the distant part

module _ (w : WorkRecord → ℕ) (near : ℕ → ℕ → Bool) where
  distant_pair_total : (i j : ℕ) → total w (distant_pair near i j) ≡ gate (not (near i j)) (w (rec distant_pattern i j))
  unfolding distant_pair
  distant_pair_total i j = simp (total_when, total_one)

  distant_batch_total : (tests trials : List ℕ) → total w (distant_batch near tests trials) ≡ total (λ j. total (λ i. total w (distant_pair near i j)) tests) trials
  unfolding distant_batch
  distant_batch_total tests trials = total_flat_map w _ trials ∙ total_ext _ _ (λ j. total_flat_map w (λ i. distant_pair near i j) tests) trials

  distant_colours_total : (B : ℕ) (tests trials : List ℕ) → 0 < B
      → total w (distant_colours near B tests trials) ≡ total (λ j. total (λ i. total w (distant_pair near i j)) tests) trials
  unfolding distant_colours
  distant_colours_total B tests trials h =
      let g : List ℕ → ℕ → ℕ = λ cells j. total (λ i. total w (distant_pair near i j)) cells in
      total_flat_map w _ (batches B tests)
      ∙ total_ext _ (λ b. total (g (batch B b tests)) trials)
      (λ b. total_flat_map w _ (batches B trials)
      ∙ total_ext _ (λ d. total (g (batch B b tests)) (batch B d trials)) (λ d. distant_batch_total (batch B b tests) (batch B d trials)) (batches B trials)
      ∙ total_batches (g (batch B b tests)) B trials h)
      (batches B tests)
      ∙ total_swap (λ b j. g (batch B b tests) j) (batches B tests) trials
      ∙ total_ext _ (g tests) (λ j. total_batches (λ i. total w (distant_pair near i j)) B tests h) trials

-- batches are not empty, and each cell has a kind and a colour: the distant part goes once through all pairs that share no vertex
pub distant_total : (w : WorkRecord → ℕ) (m : Mesh) (B : ℕ) (ts rs : List ℕ) → 0 < B → Kinded m.cells m.kinds → length ts ≡ m.cells → length rs ≡ m.cells
    → total w (distant_part m B ts rs)
    ≡ total (λ i. total (λ j. gate (not (touch m i j)) (w (rec distant_pattern i j))) (range m.cells)) (range m.cells)
unfolding distant_part distant_kinds
distant_total w m B ts rs h kinds test trial =
    let near : ℕ → ℕ → Bool = touch m in
    let R = range m.cells in
    let present = kinds_present m.kinds in
    let test_colours = range (colour_count ts) in
    let trial_colours = range (colour_count rs) in
    let g : List ℕ → ℕ → ℕ = λ cells j. total (λ i. total w (distant_pair near i j)) cells in
    let pairs : ℕ → ℕ → ℕ → ℕ → ℕ = λ n k c d. total (g (coloured m ts n c)) (coloured m rs k d) in
    let every : total w (distant_part m B ts rs) ≡ total (λ n. total (λ k. total (λ c. total (λ d. total w (distant_colours near B (coloured m ts n c) (coloured m rs k d))) trial_colours) test_colours) present) present = simp total_flat_map in
    every
    ∙ total_ext _ (λ n. total (λ c. total (g (coloured m ts n c)) R) test_colours)
    (λ n. total_ext _ (λ k. total (λ c. total (pairs n k c) trial_colours) test_colours)
    (λ k. total_ext _ _ (λ c. total_ext _ (pairs n k c) (λ d. distant_colours_total w near B (coloured m ts n c) (coloured m rs k d) h) trial_colours) test_colours)
    present
    ∙ total_swap (λ k c. total (pairs n k c) trial_colours) present test_colours
    ∙ total_ext _ _ (λ c. total_coloured (g (coloured m ts n c)) m rs kinds trial) test_colours)
    present
    ∙ total_ext _ _ (λ n. total_swap (λ c j. g (coloured m ts n c) j) test_colours R) present
    ∙ total_swap (λ n j. total (λ c. g (coloured m ts n c) j) test_colours) present R
    ∙ total_ext _ (g R) (λ j. total_coloured (λ i. total w (distant_pair near i j)) m ts kinds test) R
    ∙ total_swap (λ j i. total w (distant_pair near i j)) R R
    ∙ total_ext _ _ (λ i. total_ext _ _ (λ j. distant_pair_total w near i j) R) R

-- ---- a sum over the touching part

touching_pair_total : (w : WorkRecord → ℕ) (m : Mesh) (p v i j : ℕ)
    → total w (touching_pair m p v i j) ≡ gate (eqb (pair_vertex m i j) v) (gate (eqb (pair_pattern m i j) p) (w (rec p i j)))
unfolding touching_pair
touching_pair_total w m p v i j = simp (total_when, total_one) (gate_and (eqb (pair_vertex m i j) v) (eqb (pair_pattern m i j) p) _)

module _ (w : WorkRecord → ℕ) (m : Mesh) (below : (i p : ℕ) → p < length (corners m i) → get_or (corners m i) p 0 < m.vertices)
    (known : (i j : ℕ) → i < m.cells → j < m.cells → touch m i j ≡ true → pair_pattern m i j < pattern_count) where
  -- of all patterns and vertices, one alone has a record of the pair, if it shares a vertex
  touching_once : (i j : ℕ) → i < m.cells → j < m.cells
      → total (λ p. total (λ v. total w (touching_pair m p v i j)) (range m.vertices)) (range pattern_count)
      ≡ gate (touch m i j) (w (rec (pair_pattern m i j) i j))
  touching_once i j hi hj =
      total_ext _ _ (λ p. total_ext _ (λ v. gate (eqb l v) (g p)) (λ v. touching_pair_total w m p v i j) (range V')) (range pattern_count) ∙ go (touch m i j) refl
    where
      V' : ℕ
      V' = m.vertices

      l : ℕ
      l = pair_vertex m i j

      g : ℕ → ℕ
      g p = gate (eqb (pair_pattern m i j) p) (w (rec p i j))

      go : (b : Bool) → touch m i j ≡ b → total (λ p. total (λ v. gate (eqb l v) (g p)) (range V')) (range pattern_count) ≡ gate (touch m i j) (w (rec (pair_pattern m i j) i j))
      go true e =
          total_ext _ g (λ p. pick l V' (λ _. g p) (smallest_found V' (corners m i) (corners m j) (below i) e)) (range pattern_count)
          ∙ pick (pair_pattern m i j) pattern_count (λ p. w (rec p i j)) (known i j hi hj e)
          ∙ sym (ap (λ (b : Bool). gate b (w (rec (pair_pattern m i j) i j))) e)
      go false e =
          let none : l ≡ V' = smallest_none V' (corners m i) (corners m j) e in
          total_ext _ (λ _. 0) (λ p. pick_none l V' (λ _. g p) (omega arith)) (range pattern_count)
          ∙ total_zero (range pattern_count)
          ∙ sym (ap (λ (b : Bool). gate b (w (rec (pair_pattern m i j) i j))) e)

  -- each vertex is below V, and each pattern is of the table: the touching part goes once through all pairs that share a vertex
  pub touching_total : total w (touching_part m)
      ≡ total (λ i. total (λ j. gate (touch m i j) (w (rec (pair_pattern m i j) i j))) (range m.cells)) (range m.cells)
  unfolding touching_part touching_pattern
  touching_total =
      let R = range m.cells in
      let n : ℕ → ℕ → ℕ → ℕ → ℕ = λ p v i j. total w (touching_pair m p v i j) in
      let every : total w (touching_part m) ≡ total (λ p. total (λ v. total (λ i. total (λ j. n p v i j) R) R) (range m.vertices)) (range pattern_count) = simp total_flat_map in
      every
      ∙ total_ext _ _ (λ p. total_inward (λ v i j. n p v i j) (range m.vertices) R R) (range pattern_count)
      ∙ total_inward (λ p i j. total (λ v. n p v i j) (range m.vertices)) (range pattern_count) R R
      ∙ total_below _ _ m.cells (λ i hi. total_below _ _ m.cells (λ j hj. touching_once i j hi hj))

-- ---- a sum over all pairs, of which those of one pair count

eqb_swap : (a b : ℕ) → eqb a b ≡ eqb b a
eqb_swap a b = go (eqb b a) refl
  where
    go : (t : Bool) → eqb b a ≡ t → eqb a b ≡ eqb b a
    go true e = eq-eqb a b (sym (eqb-true b a e)) ∙ sym e
    go false e = ne_eqb a b (λ q. eqb-false b a e (sym q)) ∙ sym e

pub pair_total : (q : ℕ → ℕ → Bool) (C i j : ℕ) → i < C → j < C
    → total (λ i'. total (λ j'. gate (q i' j') (gate (eqb i' i and eqb j' j) 1)) (range C)) (range C) ≡ gate (q i j) 1
pair_total q C i j hi hj =
    total_ext _ (λ i'. gate (eqb i i') (gate (q i' j) 1))
    (λ i'. total_ext _ (λ j'. gate (eqb j j') (gate (eqb i i') (gate (q i' j') 1))) (λ j'. turn i' j') (range C)
    ∙ pick j C (λ j'. gate (eqb i i') (gate (q i' j') 1)) hj)
    (range C)
    ∙ pick i C (λ i'. gate (q i' j) 1) hi
  where
    order : (a b c : Bool) → gate c (gate a (gate b 1)) ≡ gate b (gate a (gate c 1))
    order true true c = refl
    order true false true = refl
    order true false false = refl
    order false true true = refl
    order false true false = refl
    order false false true = refl
    order false false false = refl

    turn : (i' j' : ℕ) → gate (q i' j') (gate (eqb i' i and eqb j' j) 1) ≡ gate (eqb j j') (gate (eqb i i') (gate (q i' j') 1))
    turn i' j' =
        ap (λ (n : ℕ). gate (q i' j') n) (gate_and (eqb i' i) (eqb j' j) 1)
        ∙ order (eqb i' i) (eqb j' j) (q i' j')
        ∙ rw (eqb_swap i' i, eqb_swap j' j)
