-- The entry lists of a finished run pass 25, and hold at each row and column what the touching pairs put there. Assumes nothing.
use Rattle.std.specs.Prelude.{ℕ, ◌+◌, ◌*◌, ◌≤◌, ◌<◌, true, ◌≡◌, length, Float}
use Rattle.std.proofs.Common.{arith, ap, ◌∙◌}
use Rattle.std.proofs.Math.Path.{refl, sym, ap₂}
use mathlib.Core.List.{List, [], ◌∷◌, ◌++◌, flat_map, map}
use Rattle.std.proofs.Math.ListN.{length-append}
use borrow.Author.Tests.{eq-eqb, le-leb, lt-ltb}
use Rattle.lists.specs.Bool.{every_of, end, ◌also◌}
use Rattle.lists.specs.Bounded.{all_of}
use Rattle.lists.specs.Range.{AllIn, all_in_flat_map, all_in_weaken, all_in_places, all_in_at}
use Rattle.lists.specs.Refusals.{answers, accepted, ◌then◌}
use Rattle.numbers.specs.Ranges.{all_below, below_at}
use Rattle.lent_numbers.specs.Lent.{Touching}
use Rattle.lent_numbers.specs.Entries.{touching_entry}
use Rattle.cell_pairs.specs.declared.WorkRecord.{WorkRecord}
use Rattle.cell_pairs.specs.WorkRecords.{Touching as Near}
use Rattle.cell_pairs.proofs.WorkRecordsFacts.{touching_each}
use Rattle.cell_pairs.specs.WorkList.{touching_part}
use Rattle.scatter.specs.Adding.{local_rows, local_columns}
use Rattle.scatter.specs.AddingFacts.{length_local_rows, length_local_columns, length_local_values}
use Rattle.plans.specs.Planning.{Planning, Lists}
use Rattle.plans.specs.Accepted.{Accepted, test_fits, trial_fits}
use Rattle.runs.specs.Runs.{EntryLists, entry_lists}
use Rattle.runs.specs.CellDofs.{cell_long, cell_below}
use Rattle.runs.specs.Machine.{Machine, machine_along, machine_of}
use Rattle.runs.specs.Reading.{record_rows, record_columns, call_values, record_values}
use Rattle.sparse_lists.specs.Sparse.{kept, values_at, kept_of, SparseLists, in_front, entries_fit, lists_hold, sparse_refusal, sparse_rows, sparse_written}
use Rattle.sparse_lists.proofs.Laws.{same_kept, same_lists}
use Rattle.sparse_lists.proofs.BlockFacts.{values_nil, values_append, values_local}
use Rattle.sparse_lists.specs.Pairs.{pair_at, pairs_at}

-- ---- properties of each element

all_in_same : (P : ℕ → Type 0) (k : ℕ) → P k → (xs : List ℕ) → AllIn P (map (λ (x : ℕ). k) xs)
unfolding AllIn
all_in_same P k h [] = tt
all_in_same P k h (x ∷ xs) = (h, all_in_same P k h xs)

below_all : (bound : ℕ) (xs : List ℕ) → AllIn (λ k. k < bound) xs → all_below xs bound ≡ true
unfolding all_below
below_all bound xs h = all_of _ _ (λ k l. lt-ltb _ bound (all_in_at (λ k. k < bound) xs h 0 k l))

all_below_lem : (bound : ℕ) (xs : List ℕ) → all_below xs bound ≡ true → AllIn (λ k. k < bound) xs
all_below_lem bound xs h = all_in_places (λ k. k < bound) xs 0 (below_at xs bound h)

-- ---- records and the calls beside them

-- its cells have as many DOFs as their elements say
record Dims (m : Machine) (e : WorkRecord) : Type 0 where
  test : length (m.test_dofs e.test) ≡ m.test_dim e.test
  trial : length (m.trial_dofs e.trial) ≡ m.trial_dim e.trial

module _ (m : Machine) where
  columns_long : (e : WorkRecord) → length (record_columns m e) ≡ length (record_rows m e)
  unfolding record_rows record_columns
  columns_long e = length_local_columns _ _ ∙ sym (length_local_rows _ _)

  values_long : (e : WorkRecord) (a : Touching) → Dims m e → length (call_values m e a) ≡ length (record_rows m e)
  unfolding record_rows call_values
  values_long e a d = length_local_values _ _ _ ∙ ap₂ (λ (i j : ℕ). i * j) (sym d.test) (sym d.trial) ∙ sym (length_local_rows _ _)

  -- all together
  all_columns : (es : List WorkRecord) → length (flat_map (record_columns m) es) ≡ length (flat_map (record_rows m) es)
  unfolding flat_map
  all_columns [] = refl
  all_columns (e ∷ es) = length-append (record_columns m e) _ ∙ ap₂ (λ (i j : ℕ). i + j) (columns_long e) (all_columns es) ∙ sym (length-append (record_rows m e) _)

  all_values : (es : List WorkRecord) (ws : List Touching) → AllIn (Dims m) es → length ws ≡ length es → length (record_values m es ws) ≡ length (flat_map (record_rows m) es)
  unfolding flat_map AllIn record_values
  all_values [] [] d h = refl
  all_values [] (a ∷ ws) d h = absurd (omega arith)
  all_values (e ∷ es) [] d h = absurd (omega arith)
  all_values (e ∷ es) (a ∷ ws) d h =
      length-append (call_values m e a) _ ∙ ap₂ (λ (i j : ℕ). i + j) (values_long e a d.0) (all_values es ws d.1 (omega arith)) ∙ sym (length-append (record_rows m e) _)

  module _ (r c : ℕ) where
    values_pair : (e : WorkRecord) (a : Touching) → Dims m e → values_at (entry_lists (record_rows m e) (record_columns m e) (call_values m e a)) r c ≡ pair_at m e a r c
    unfolding record_rows record_columns call_values pair_at
    values_pair e a d = rw (← d.test, ← d.trial) (values_local r c (m.test_dofs e.test) (m.trial_dofs e.trial) (touching_entry m.integrand a))

    values_pairs : (es : List WorkRecord) (ws : List Touching) → AllIn (Dims m) es → length ws ≡ length es
        → values_at (entry_lists (flat_map (record_rows m) es) (flat_map (record_columns m) es) (record_values m es ws)) r c ≡ pairs_at m es ws r c
    unfolding AllIn flat_map pairs_at record_values
    values_pairs [] [] d h = values_nil r c [] []
    values_pairs [] (a ∷ ws) d h = absurd (omega arith)
    values_pairs (e ∷ es) [] d h = absurd (omega arith)
    values_pairs (e ∷ es) (a ∷ ws) d h =
        values_append r c (record_rows m e) _ (record_columns m e) _ (call_values m e a) _ (columns_long e) (values_long e a d.0)
        ∙ ap₂ (λ (xs ys : List Float). xs ++ ys) (values_pair e a d.0) (values_pairs es ws d.1 (omega arith))

-- ---- the touching records of a mesh

module _ {x : Planning} {l : Lists} (ok : Accepted x l) where
  abbrev m : Machine
  m = machine_of x true

  abbrev T : List WorkRecord
  T = touching_part x.mesh

  dims : (e : WorkRecord) → Near x.mesh e → Dims m e
  unfolding machine_along
  dims e near =
      record {
        test = cell_long ok x.test (test_fits ok) e.test near.test_cell;
        trial = cell_long ok x.trial (trial_fits ok) e.trial near.trial_cell;
      }

  all_dims : AllIn (Dims m) T
  all_dims = all_in_weaken (Near x.mesh) (Dims m) dims T (touching_each x.mesh)

  rows_below : AllIn (λ k. k < m.rows) (flat_map (record_rows m) T)
  unfolding record_rows local_rows machine_along
  rows_below =
      all_in_flat_map (Near x.mesh) (λ k. k < m.rows) (record_rows m)
      (λ e _. all_in_flat_map (λ _. Unit {0}) (λ k. k < m.rows) _ (λ _ _. all_below_lem _ _ (cell_below ok x.test (test_fits ok) e.test)) _ (all_in_places (λ _. Unit {0}) _ 0 (λ _ _. tt)))
      T (touching_each x.mesh)

  columns_below : AllIn (λ k. k < m.columns) (flat_map (record_columns m) T)
  unfolding record_columns local_columns machine_along
  columns_below =
      all_in_flat_map (Near x.mesh) (λ k. k < m.columns) (record_columns m)
      (λ e _. all_in_flat_map (λ k. k < m.columns) (λ k. k < m.columns) _ (λ column h. all_in_same (λ k. k < m.columns) column h (m.test_dofs e.test)) _
      (all_below_lem _ _ (cell_below ok x.trial (trial_fits ok) e.trial)))
      T (touching_each x.mesh)

  module _ (ws : List Touching) (each : length ws ≡ length T) where
    abbrev lists : EntryLists
    lists = entry_lists (flat_map (record_rows m) T) (flat_map (record_columns m) T) (record_values m T ws)

    pub pairs_fit : entries_fit lists m.rows m.columns ≡ true
    unfolding entries_fit
    pairs_fit =
        every_of (eq-eqb _ _ (all_columns m T) also eq-eqb _ _ (all_values m T ws all_dims each) also below_all _ _ rows_below also below_all _ _ columns_below also end)

    pub pairs_held : (r c : ℕ) → values_at lists r c ≡ pairs_at m T ws r c
    pairs_held r c = values_pairs m r c T ws all_dims each

-- ---- the call, where 25 passes and the values at each row and column are known

pub gathers_known : (e : EntryLists) (at : ℕ → ℕ → List Float) (R C : ℕ) → entries_fit e R C ≡ true → ((r c : ℕ) → values_at e r c ≡ at r c) → (l : SparseLists)
    → R + 1 ≤ length l.starts → kept_of at R C ≤ length l.columns → kept_of at R C ≤ length l.values
    → (sparse_rows e R C l ≡ kept (kept_of at R C)) × (sparse_written e R C l ≡ in_front at R C l)
unfolding sparse_rows sparse_written sparse_refusal lists_hold
gathers_known e at R C fit held l s c v =
    let same : kept_of (values_at e) R C ≡ kept_of at R C = same_kept (values_at e) at R C (λ r c _ _. held r c) in
    let hold : lists_hold e R C l ≡ true =
    every_of (le-leb (R + 1) (length l.starts) s also le-leb (kept_of (values_at e) R C) (length l.columns) (omega arith) also le-leb (kept_of (values_at e) R C) (length l.values) (omega arith) also end) in
    let none : sparse_refusal e R C l ≡ 0 = sym (answers (fit then hold then accepted)) in
    (rw none (ap kept same), rw none (same_lists (values_at e) at R C (λ r c _ _. held r c) l))
