-- Each record of the distant part is distant, and each of the touching part touching, on any mesh. Assumes nothing.
use Prim.Native.Nat.{ℕ, ◌<◌}
use Rattle.std.proofs.Common.{arith}
use Rattle.std.specs.Prelude.{◌≡◌, Bool, not, get_or}
use Rattle.std.proofs.Math.Path.{refl, sym}
use mathlib.Core.List.{List, flat_map}
use Rattle.std.proofs.Math.Dec.{eqb}
use borrow.Author.Tests.{eqb-true, not-true}
use Rattle.lists.specs.Bool.{◌and◌, and_left, and_right}
use Rattle.lists.specs.Range.{range, batch, flat_map_each, flat_map_ext, all_in_weaken, AllIn, all_in_flat_map, all_in_when, all_in_range, all_in_below, all_in_filter, all_in_batch, all_in_places}
use Rattle.grid.specs.Mesh.{Mesh, kind, kinds_present, corners}
use Rattle.cell_pairs.specs.declared.WorkRecord.{WorkRecord}
use Rattle.cell_pairs.specs.Records.{rec, pattern_count, distant_pattern}
use Rattle.cell_pairs.specs.Patterns.{touch, pair_pattern, pair_vertex}
use Rattle.cell_pairs.specs.WorkList.{coloured, batches, distant_pair, distant_batch, distant_colours, distant_kinds, distant_part, touching_pair, touching_pattern, touching_part}
use Rattle.cell_pairs.specs.WorkRecords.{Distant, Touching}
use Rattle.cell_pairs.specs.SharedVertices.{smallest_shares}

coloured_below : (m : Mesh) (cs : List ℕ) (n c : ℕ) → AllIn (λ i. i < m.cells) (coloured m cs n c)
unfolding coloured
coloured_below m cs n c =
    let C = m.cells in
    all_in_filter (λ i. i < C) (λ i. eqb (kind m i) n and eqb (get_or cs i 0) c) (range C) (all_in_range (λ i. i < C) C (λ i l. l))

-- ---- the distant pairs of two relations that agree on the cells are the same

module _ (near near' : ℕ → ℕ → Bool) (C : ℕ) (same : (i j : ℕ) → i < C → j < C → near i j ≡ near' i j) where
  distant_pair_same : (i j : ℕ) → i < C → j < C → distant_pair near i j ≡ distant_pair near' i j
  unfolding distant_pair
  distant_pair_same i j hi hj = rw (same i j hi hj)

  distant_batch_same : (tests trials : List ℕ) → AllIn (λ i. i < C) tests → AllIn (λ j. j < C) trials → distant_batch near tests trials ≡ distant_batch near' tests trials
  unfolding distant_batch
  distant_batch_same tests trials ht hr =
      flat_map_each _ _ trials (all_in_weaken _ _ (λ j hj. flat_map_each _ _ tests (all_in_weaken _ _ (λ i hi. distant_pair_same i j hi hj) tests ht)) trials hr)

  distant_colours_same : (B : ℕ) (tests trials : List ℕ) → AllIn (λ i. i < C) tests → AllIn (λ j. j < C) trials → distant_colours near B tests trials ≡ distant_colours near' B tests trials
  unfolding distant_colours
  distant_colours_same B tests trials ht hr =
      flat_map_ext _ _
      (λ b. flat_map_ext _ _ (λ d. distant_batch_same (batch B b tests) (batch B d trials) (all_in_batch _ B b tests ht) (all_in_batch _ B d trials hr)) (batches B trials))
      (batches B tests)

-- of two kinds and two colours
pub distant_same : (m : Mesh) (near near' : ℕ → ℕ → Bool) → ((i j : ℕ) → i < m.cells → j < m.cells → near i j ≡ near' i j) → (B : ℕ) (ts rs : List ℕ) (n k c d : ℕ)
    → distant_colours near B (coloured m ts n c) (coloured m rs k d) ≡ distant_colours near' B (coloured m ts n c) (coloured m rs k d)
distant_same m near near' same B ts rs n k c d = distant_colours_same near near' m.cells same B _ _ (coloured_below m ts n c) (coloured_below m rs k d)

-- ---- each record

-- a touching record of pattern p
pub record Marked (m : Mesh) (p : ℕ) (r : WorkRecord) : Type 0 where
  pub touching : Touching m r
  pub here : r.pattern ≡ p

module _ (m : Mesh) where
  distant_pair_each : (i j : ℕ) → i < m.cells → j < m.cells → AllIn (Distant m) (distant_pair (touch m) i j)
  unfolding distant_pair
  distant_pair_each i j hi hj =
      all_in_when (Distant m) (not (touch m i j)) (rec distant_pattern i j)
      (λ e. record { test_cell = hi; trial_cell = hj; apart = not-true (touch m i j) e; marked = refl })

  distant_batch_each : (tests trials : List ℕ) → AllIn (λ i. i < m.cells) tests → AllIn (λ j. j < m.cells) trials
      → AllIn (Distant m) (distant_batch (touch m) tests trials)
  unfolding distant_batch
  distant_batch_each tests trials ht hr =
      all_in_flat_map _ (Distant m) _ (λ j hj. all_in_flat_map _ (Distant m) _ (λ i hi. distant_pair_each i j hi hj) tests ht) trials hr

  distant_colours_each : (B : ℕ) (tests trials : List ℕ) → AllIn (λ i. i < m.cells) tests → AllIn (λ j. j < m.cells) trials
      → AllIn (Distant m) (distant_colours (touch m) B tests trials)
  unfolding distant_colours
  distant_colours_each B tests trials ht hr =
      all_in_below (Distant m) _ _
      (λ b _. all_in_below (Distant m) _ _ (λ d _. distant_batch_each (batch B b tests) (batch B d trials) (all_in_batch _ B b tests ht) (all_in_batch _ B d trials hr)))

  distant_kinds_each : (B : ℕ) (ts rs : List ℕ) (n k : ℕ) → AllIn (Distant m) (distant_kinds m B ts rs n k)
  unfolding distant_kinds
  distant_kinds_each B ts rs n k =
      all_in_below (Distant m) _ _
      (λ c _. all_in_below (Distant m) _ _ (λ d _. distant_colours_each B _ _ (coloured_below m ts n c) (coloured_below m rs k d)))

  -- over the kinds present, whatever they are
  kinds_each : (f : ℕ → List WorkRecord) → ((n : ℕ) → AllIn (Distant m) (f n)) → AllIn (Distant m) (flat_map f (kinds_present m.kinds))
  kinds_each f h = all_in_flat_map (λ _. Unit {0}) (Distant m) f (λ n _. h n) _ (all_in_places _ _ 0 (λ _ _. tt))

  pub distant_each : (B : ℕ) (ts rs : List ℕ) → AllIn (Distant m) (distant_part m B ts rs)
  unfolding distant_part
  distant_each B ts rs = kinds_each _ (λ n. kinds_each _ (λ k. distant_kinds_each B ts rs n k))

  touching_pair_each : (p v i j : ℕ) → p < pattern_count → v < m.vertices → i < m.cells → j < m.cells → AllIn (Marked m p) (touching_pair m p v i j)
  unfolding touching_pair
  touching_pair_each p v i j hp hv hi hj =
      let smallest : ℕ = pair_vertex m i j in
      let pat : ℕ = pair_pattern m i j in
      all_in_when (Marked m p) (eqb smallest v and eqb pat p) (rec p i j)
      (λ e.
      let here : smallest ≡ v = eqb-true _ _ (and_left _ _ e) in
      record {
        touching =
            record {
              test_cell = hi;
              trial_cell = hj;
              meet = smallest_shares m.vertices (corners m i) (corners m j) (omega arith);
              marked = sym (eqb-true _ _ (and_right (eqb smallest v) _ e));
              known = hp;
            };
        here = refl;
      })

  -- each of pattern p
  pub pattern_each : (p : ℕ) → p < pattern_count → AllIn (Marked m p) (touching_pattern m p)
  unfolding touching_pattern
  pattern_each p hp =
      all_in_below (Marked m p) _ _
      (λ v hv. all_in_below (Marked m p) _ _ (λ i hi. all_in_below (Marked m p) _ _ (λ j hj. touching_pair_each p v i j hp hv hi hj)))

  pub touching_each : AllIn (Touching m) (touching_part m)
  unfolding touching_part
  touching_each = all_in_below (Touching m) _ _ (λ p hp. all_in_weaken (Marked m p) (Touching m) (λ r k. k.touching) (touching_pattern m p) (pattern_each p hp))
