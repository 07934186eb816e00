-- The proofs to `specs/Counting.antt`. Assumes nothing.
use Prim.Native.Nat.{ℕ, ◌+◌, ◌-◌, ◌*◌, ◌<◌, ◌≤◌}
use Rattle.std.proofs.Math.Nat.{add_comm}
use Rattle.std.proofs.Common.{arith, ap, ◌∙◌, inl, inr, ⊎_elim, get_or-append-add, eqb-true, ltb-true}
use Rattle.std.specs.Prelude.{◌≡◌, refl, ◌⊎◌, Bool, true, false, not, get_or, ltb}
use Rattle.std.proofs.Math.Path.{sym, ap₂, subst}
use mathlib.Core.List.{List, ◌++◌}
use Rattle.std.proofs.Math.ListN.{length, length-append, get_or-append}
use Rattle.std.proofs.lemmas.Bool.{not-true}
use Rattle.lists.specs.Bool.{◌and◌, ◌or◌, true≢false, or_cases}
use Rattle.lists.specs.Bounded.{all, all_at, lt_or_le}
use Rattle.lists.specs.Range.{range, length_range, all_in_at}
use Rattle.lists.specs.Total.{total, gate, count, total_append, total_add, total_ext, total_below, total_length, total_const, count_split, gate_split, gate_and}
use Rattle.grid.specs.Cells.{own}
use Rattle.grid.specs.CellsFacts.{length_part}
use Rattle.grid.specs.Mesh.{Mesh, kind, corners, kinds_right, vertex_places, vertices_right}
use Rattle.grid.specs.KindsFacts.{Kinded, kinded}
use Rattle.cell_pairs.specs.declared.WorkRecord.{WorkRecord}
use Rattle.cell_pairs.specs.Records.{rec, pattern_count}
use Rattle.cell_pairs.specs.Patterns.{touch, pair_pattern, patterns_right}
use Rattle.cell_pairs.specs.WorkList.{distant_part, touching_part, work_list, sharing_pairs, sharing_of, distant_pairs}
use Rattle.cell_pairs.specs.SharedVertices.{vertex_below_lem}
use Rattle.cell_pairs.specs.WorkRecords.{of_pair, Distant, Touching, Right}
use Rattle.cell_pairs.proofs.WorkRecordsFacts.{distant_each, touching_each}
use Rattle.cell_pairs.proofs.CountingFacts.{distant_total, touching_total, pair_total}
use Rattle.cell_pairs.specs.Counting.{Countable, Patterned, of_kinds}

-- check 7 passes: the patterns are of the table
pub patterns_known : (m : Mesh) → patterns_right m ≡ true → (i j : ℕ) → i < m.cells → j < m.cells → touch m i j ≡ true → pair_pattern m i j < pattern_count
unfolding patterns_right
patterns_known m e i j hi hj s =
    ⊎_elim (λ n. absurd (true≢false (sym s ∙ not-true (touch m i j) n))) (λ l. ltb-true _ _ l)
    (or_cases (not (touch m i j)) (ltb (pair_pattern m i j) pattern_count)
    (all_at m.cells (λ j. not (touch m i j) or ltb (pair_pattern m i j) pattern_count) (all_at m.cells (λ i. all m.cells (λ j. not (touch m i j) or ltb (pair_pattern m i j) pattern_count)) e i hi) j hj))

-- so planning, past its checks, has all that is asked
pub patterned : (m : Mesh) → kinds_right m.cells m.kinds ≡ true → vertex_places m ≡ true → vertices_right m ≡ true → patterns_right m ≡ true → Patterned m
unfolding vertex_places corners
patterned m kinds places two seven =
    record {
      kinds = kinded m.cells m.kinds kinds;
      long = λ i l. length_part own m.kinds m.cell_vertices m.cells i (eqb-true _ _ places) l;
      vertices = vertex_below_lem m two;
      patterns = patterns_known m seven;
    }

pub countable : (m : Mesh) (B : ℕ) (ts rs : List ℕ) → kinds_right m.cells m.kinds ≡ true → vertex_places m ≡ true → vertices_right m ≡ true → patterns_right m ≡ true
    → 0 < B → length ts ≡ m.cells → length rs ≡ m.cells → Countable m B ts rs
countable m B ts rs kinds places two seven h test trial =
    record { mesh = patterned m kinds places two seven; batch = h; test_colours = test; trial_colours = trial }

-- ---- how many

-- S + N = C·C
pub split : (m : Mesh) → sharing_pairs m + distant_pairs m ≡ m.cells * m.cells
unfolding sharing_pairs distant_pairs
split m =
    let C = m.cells in
    sym (total_add _ _ (range C))
    ∙ total_ext _ (λ _. C) (λ i. count_split (λ j. touch m i j) (range C) ∙ length_range C) (range C)
    ∙ total_const C (range C)
    ∙ ap (λ (k : ℕ). k * C) (length_range C)

-- two cells are of two kinds
of_one : (m : Mesh) (i j : ℕ) → (kind m i ≡ 3) ⊎ (kind m i ≡ 4) → (kind m j ≡ 3) ⊎ (kind m j ≡ 4)
    → gate (of_kinds m 3 3 i j) 1 + gate (of_kinds m 3 4 i j) 1 + gate (of_kinds m 4 3 i j) 1 + gate (of_kinds m 4 4 i j) 1 ≡ 1
unfolding ◌and◌
of_one m i j (inl a) (inl b) = rw (a, b) refl
of_one m i j (inl a) (inr b) = rw (a, b) refl
of_one m i j (inr a) (inl b) = rw (a, b) refl
of_one m i j (inr a) (inr b) = rw (a, b) refl

gate_four : (t a b c d : Bool) → gate a 1 + gate b 1 + gate c 1 + gate d 1 ≡ 1
    → gate (t and a) 1 + gate (t and b) 1 + gate (t and c) 1 + gate (t and d) 1 ≡ gate t 1
unfolding ◌and◌
gate_four true a b c d e = e
gate_four false a b c d e = refl

total_four : {A : Type 0} (f g h k : A → ℕ) (xs : List A) → total f xs + total g xs + total h xs + total k xs ≡ total (λ x. f x + g x + h x + k x) xs
total_four f g h k xs = omega (arith, total_add (λ x. f x + g x + h x) k xs, total_add (λ x. f x + g x) h xs, total_add f g xs)

-- the touching pairs per two kinds add up to S
pub kinds_split : (m : Mesh) → Kinded m.cells m.kinds → sharing_of m 3 3 + sharing_of m 3 4 + sharing_of m 4 3 + sharing_of m 4 4 ≡ sharing_pairs m
unfolding sharing_pairs sharing_of
kinds_split m h =
    let R = range m.cells in
    let of : ℕ → ℕ → ℕ → ℕ → ℕ = λ n k i j. gate (touch m i j and of_kinds m n k i j) 1 in
    total_four (λ i. total (of 3 3 i) R) (λ i. total (of 3 4 i) R) (λ i. total (of 4 3 i) R) (λ i. total (of 4 4 i) R) R
    ∙ total_below _ _ m.cells
    (λ i hi. total_four (of 3 3 i) (of 3 4 i) (of 4 3 i) (of 4 4 i) R
    ∙ total_below _ _ m.cells (λ j hj. gate_four (touch m i j) _ _ _ _ (of_one m i j (h.each i hi) (h.each j hj))))

-- of the touching records, as many are of two kinds
pub count_kinds : (m : Mesh) → Patterned m → (n k : ℕ) → count (λ r. of_kinds m n k r.test r.trial) (touching_part m) ≡ sharing_of m n k
unfolding sharing_of
count_kinds m h n k =
    let R = range m.cells in
    touching_total (λ r. gate (of_kinds m n k r.test r.trial) 1) m h.vertices h.patterns
    ∙ total_ext _ _ (λ i. total_ext _ _ (λ j. sym (gate_and (touch m i j) (of_kinds m n k i j) 1)) R) R

module _ (m : Mesh) (B : ℕ) (ts rs : List ℕ) (h : Countable m B ts rs) where
  -- N records are distant
  pub length_distant : length (distant_part m B ts rs) ≡ distant_pairs m
  unfolding distant_pairs
  length_distant = sym (total_length (distant_part m B ts rs)) ∙ distant_total (λ _. 1) m B ts rs h.batch h.mesh.kinds h.test_colours h.trial_colours

  -- S records are touching
  pub length_touching : length (touching_part m) ≡ sharing_pairs m
  unfolding sharing_pairs
  length_touching = sym (total_length (touching_part m)) ∙ touching_total (λ _. 1) m h.mesh.vertices h.mesh.patterns

  -- there are C·C in all
  pub length_work : length (work_list m B ts rs) ≡ m.cells * m.cells
  unfolding work_list
  length_work = length-append (distant_part m B ts rs) (touching_part m) ∙ omega (arith, length_distant, length_touching, split m)

  -- ---- each ordered pair once

  -- a pair stands in the distant part once where it shares no vertex, else not at all
  pub once_distant : (i j : ℕ) → i < m.cells → j < m.cells → count (of_pair i j) (distant_part m B ts rs) ≡ gate (not (touch m i j)) 1
  once_distant i j hi hj =
      distant_total (λ r. gate (of_pair i j r) 1) m B ts rs h.batch h.mesh.kinds h.test_colours h.trial_colours
      ∙ pair_total (λ i j. not (touch m i j)) m.cells i j hi hj

  -- and in the touching part the other way round
  pub once_touching : (i j : ℕ) → i < m.cells → j < m.cells → count (of_pair i j) (touching_part m) ≡ gate (touch m i j) 1
  once_touching i j hi hj =
      touching_total (λ r. gate (of_pair i j r) 1) m h.mesh.vertices h.mesh.patterns ∙ pair_total (λ i j. touch m i j) m.cells i j hi hj

  -- each ordered pair of cells stands on the work list exactly once
  pub once : (i j : ℕ) → i < m.cells → j < m.cells → count (of_pair i j) (work_list m B ts rs) ≡ 1
  unfolding work_list
  once i j hi hj =
      total_append (λ r. gate (of_pair i j r) 1) (distant_part m B ts rs) (touching_part m)
      ∙ ap₂ ◌+◌ (once_distant i j hi hj) (once_touching i j hi hj)
      ∙ add_comm (gate (not (touch m i j)) 1) (gate (touch m i j) 1)
      ∙ gate_split (touch m i j) 1

  -- ---- each record, by its place k on the list

  -- the first N are distant
  pub record_distant : (k : ℕ) → k < distant_pairs m → Distant m (get_or (work_list m B ts rs) k (rec 0 0 0))
  unfolding work_list
  record_distant k l =
      let inside : k < length (distant_part m B ts rs) = omega (arith, length_distant) in
      subst (Distant m) (sym (get_or-append (distant_part m B ts rs) (touching_part m) (rec 0 0 0) k inside))
      (all_in_at (Distant m) (distant_part m B ts rs) (distant_each m B ts rs) (rec 0 0 0) k inside)

  -- those that follow are touching
  pub record_touching : (k : ℕ) → distant_pairs m ≤ k → k < m.cells * m.cells → Touching m (get_or (work_list m B ts rs) k (rec 0 0 0))
  unfolding work_list
  record_touching k l u =
      let far : List WorkRecord = distant_part m B ts rs in
      let n : ℕ = k - length far in
      let place : length far + n ≡ k = omega (arith, length_distant) in
      let inside : n < length (touching_part m) = omega (arith, length_distant, length_touching, split m) in
      subst (λ (i : ℕ). Touching m (get_or (far ++ touching_part m) i (rec 0 0 0))) place
      (subst (Touching m) (sym (get_or-append-add far (touching_part m) n (rec 0 0 0)))
      (all_in_at (Touching m) (touching_part m) (touching_each m) (rec 0 0 0) n inside))

  -- so each is of two cells of the mesh, and right at its place
  pub records_right : (k : ℕ) → k < m.cells * m.cells → Right m k (get_or (work_list m B ts rs) k (rec 0 0 0))
  records_right k u =
      record {
        test_cell = ⊎_elim (λ l. (record_distant k l).test_cell) (λ l. (record_touching k l u).test_cell) (lt_or_le k (distant_pairs m));
        trial_cell = ⊎_elim (λ l. (record_distant k l).trial_cell) (λ l. (record_touching k l u).trial_cell) (lt_or_le k (distant_pairs m));
        distant = λ l. record_distant k l;
        touching = λ l. record_touching k l u;
      }
