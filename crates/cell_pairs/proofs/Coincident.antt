-- The proofs to `specs/Coincident.antt`. Assumes nothing.
use Prim.Native.Nat.{ℕ, ◌+◌, ◌*◌, ◌<◌}
use Rattle.std.proofs.Math.Nat.{zero-add}
use Rattle.std.proofs.Common.{arith, subst, ◌∙◌, inl, inr, eqb-true, eq-eqb, ne_eqb}
use Rattle.std.specs.Prelude.{◌≡◌, refl, Bool, true, false, not, List, length, get_or}
use Rattle.std.proofs.Math.Path.{sym, ap, ap₂}
use Rattle.std.proofs.Math.Logic.{⊎_elim}
use Rattle.std.proofs.lemmas.List.{get_or-replicate}
use Rattle.std.proofs.Math.Dec.{eqb}
use Rattle.lists.specs.Bool.{◌or◌, true≢false, every_at, same_test}
use Rattle.lists.specs.Bounded.{all_at, all_of, lt_or_le}
use Rattle.lists.specs.Range.{range, length_range}
use Rattle.lists.specs.Total.{total, gate, count, total_append, total_ext, total_below, total_zero, total_length, pick}
use Rattle.grid.specs.Cells.{own}
use Rattle.grid.specs.CellsFacts.{has_at, share_at, length_part}
use Rattle.grid.specs.Mesh.{Mesh, triangles, corners, vertex_places, vertices_right}
use Rattle.cell_pairs.specs.declared.WorkRecord.{WorkRecord}
use Rattle.cell_pairs.specs.Records.{rec, distant_pattern}
use Rattle.cell_pairs.specs.Patterns.{identical_pattern, same_vertices, touch, pair_pattern, cells_differ, patterns_right}
use Rattle.cell_pairs.specs.WorkList.{distant_part, touching_part, work_list, distant_pairs}
use Rattle.cell_pairs.specs.WorkRecords.{Distant, Touching, identical}
use Rattle.cell_pairs.specs.Counting.{Patterned, Countable}
use Rattle.cell_pairs.proofs.Counting.{record_distant, record_touching}
use Rattle.cell_pairs.proofs.CountingFacts.{distant_total, touching_total}
use Rattle.cell_pairs.proofs.CasesFacts.{gate_none}
use Rattle.cell_pairs.proofs.CoincidentFacts.{same_turned, none_earlier, identical_same, itself_identical, triangles_right}
use Rattle.cell_pairs.specs.Coincident.{Single}

-- so check 2 and the test of cells with the same vertices say
pub single : (m : Mesh) → vertices_right m ≡ true → cells_differ m ≡ true → Single m
unfolding vertices_right cells_differ
single m two e =
    record {
      apart = λ i h. all_at m.cells _ (every_at _ two 2) i h;
      one = none_earlier m.cells (λ i j. same_vertices (corners m i) (corners m j)) (λ i j. same_turned (corners m i) (corners m j)) e;
    }

-- ---- the identical pattern

gate_swap : (a b : Bool) → gate a (gate b 1) ≡ gate b (gate a 1)
gate_swap true b = refl
gate_swap false b = sym (gate_none b)

module _ (m : Mesh) (h : Patterned m) (s : Single m) where
  -- of two cells it is the pattern exactly where these are one
  pub identical_pair : (i j : ℕ) → i < m.cells → j < m.cells → identical_pattern (pair_pattern m i j) ≡ eqb i j
  identical_pair i j hi hj =
      same_test _ _ (λ e. eq-eqb i j (s.one i j hi hj (identical_same _ _ e)))
      (λ e. subst (λ (k : ℕ). identical_pattern (pair_pattern m i k) ≡ true) (eqb-true i j e) (itself_identical (corners m i) (⊎_elim (λ k. inl (h.long i hi ∙ k)) (λ k. inr (h.long i hi ∙ k)) (h.kinds.each i hi)) (s.apart i hi)))

  -- a cell touches itself
  touch_itself : (i : ℕ) → i < m.cells → touch m i i ≡ true
  touch_itself i hi =
      let few : 0 < length (corners m i) = ⊎_elim (λ k. omega (arith, h.long i hi, k)) (λ k. omega (arith, h.long i hi, k)) (h.kinds.each i hi) in
      let first = has_at (corners m i) 0 (get_or (corners m i) 0 0) few refl in
      share_at (corners m i) (corners m i) (get_or (corners m i) 0 0) first first

  module _ (B : ℕ) (ts rs : List ℕ) (c : Countable m B ts rs) where
    -- record k of the work list has it exactly where its two cells are one
    pub identical_alone : (k : ℕ) → k < m.cells * m.cells
        → identical (get_or (work_list m B ts rs) k (rec 0 0 0)) ≡ eqb (get_or (work_list m B ts rs) k (rec 0 0 0)).test (get_or (work_list m B ts rs) k (rec 0 0 0)).trial
    unfolding ◌or◌
    identical_alone k u = ⊎_elim (λ l. far _ (record_distant m B ts rs c k l)) (λ l. near _ (record_touching m B ts rs c k l u)) (lt_or_le k (distant_pairs m))
      where
        far : (r : WorkRecord) → Distant m r → identical r ≡ eqb r.test r.trial
        far r d =
            ap identical_pattern d.marked
            ∙ sym (ne_eqb r.test r.trial (λ e. true≢false (sym (touch_itself r.test d.test_cell) ∙ ap (touch m r.test) e ∙ d.apart)))

        near : (r : WorkRecord) → Touching m r → identical r ≡ eqb r.test r.trial
        near r t = ap identical_pattern t.marked ∙ identical_pair r.test r.trial t.test_cell t.trial_cell

    -- so C records have it
    pub identical_count : count identical (work_list m B ts rs) ≡ m.cells
    unfolding work_list ◌or◌
    identical_count =
        let w : WorkRecord → ℕ = λ r. gate (identical r) 1 in
        total_append w (distant_part m B ts rs) (touching_part m)
        ∙ ap₂ ◌+◌ (distant_total w m B ts rs c.batch h.kinds c.test_colours c.trial_colours ∙ none) (touching_total w m h.vertices h.patterns ∙ each)
        ∙ zero-add m.cells
      where
        none : total (λ i. total (λ j. gate (not (touch m i j)) (gate (identical_pattern distant_pattern) 1)) (range m.cells)) (range m.cells) ≡ 0
        none = total_ext _ (λ _. 0) (λ i. total_ext _ (λ _. 0) (λ j. gate_none (not (touch m i j))) (range m.cells) ∙ total_zero (range m.cells)) (range m.cells) ∙ total_zero (range m.cells)

        each : total (λ i. total (λ j. gate (touch m i j) (gate (identical_pattern (pair_pattern m i j)) 1)) (range m.cells)) (range m.cells) ≡ m.cells
        each =
            total_below _ (λ _. 1) m.cells
            (λ i hi. total_below _ (λ j. gate (eqb i j) (gate (touch m i j) 1)) m.cells (λ j hj. ap (λ (b : Bool). gate (touch m i j) (gate b 1)) (identical_pair i j hi hj) ∙ gate_swap (touch m i j) (eqb i j))
            ∙ pick i m.cells (λ j. gate (touch m i j) 1) hi
            ∙ ap (λ (b : Bool). gate b 1) (touch_itself i hi))
            ∙ total_length (range m.cells)
            ∙ length_range m.cells

-- ---- check 7

-- of triangles alone nothing is left for it, once checks 1 and 2 and that test pass
pub nothing_left : (m : Mesh) → m.kinds ≡ triangles m.cells → vertex_places m ≡ true → vertices_right m ≡ true → cells_differ m ≡ true → patterns_right m ≡ true
unfolding patterns_right corners vertex_places
nothing_left m three places two e =
    let s = single m two e in
    let long : (i : ℕ) → i < m.cells → length (corners m i) ≡ 3 = λ i h.
    length_part own m.kinds m.cell_vertices m.cells i (eqb-true _ _ places) h ∙ ap (λ (ks : List ℕ). get_or ks i 0) three ∙ get_or-replicate m.cells i 3 0 h in
    all_of m.cells _
    (λ i hi. all_of m.cells _
    (λ j hj. triangles_right (corners m i) (corners m j) (long i hi) (long j hj) (s.apart i hi) (s.apart j hj) (λ e. ap (corners m) (s.one i j hi hj e))))
