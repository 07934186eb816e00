-- What an entries run leaves: with k accepted entries calls the three lists hold, from their front on, row, column and value of the local entries of the first
-- k touching records in work order; what stands behind them is as it was. Assumes nothing.
use Prim.Native.Nat.{ℕ, zero, suc, ◌+◌, ◌-◌, ◌*◌, ◌≤◌, ◌<◌}
use Rattle.std.proofs.Common.{add-zero, add-one, ◌∙◌, length-take}
use native.Mathlib.Omega.{arith}
use Rattle.std.specs.Prelude.{◌≡◌, Bool, false, not, Float}
use Rattle.std.proofs.Math.Path.{refl, sym, ap, ap₂}
use Rattle.std.proofs.Math.Bool.{true}
use Rattle.std.proofs.Math.Logic.{⊎_elim}
use mathlib.Core.List.{List, [], ◌∷◌, ◌++◌, flat_map, map, append-nil, append_assoc, map-append}
use Rattle.std.proofs.Math.ListN.{length, get_or, take, length-append}
use Rattle.std.proofs.lemmas.List.Edits.{sets}
use Rattle.std.proofs.Math.Seq.{take_all, get_or-append-add}
use borrow.Author.Tests.{eqb-true}
use Rattle.lists.specs.Bool.{◌and◌, every_at, true≢false, cases, and_right}
use Rattle.lists.specs.Total.{total, gate, count_split}
use Rattle.numbers.specs.Ranges.{within_low}
use Rattle.grid.specs.Mesh.{corners, most_cells, cells_right}
use Rattle.grid.specs.CellsFacts.{has_at, share_at}
use Rattle.grid.specs.Facts.{corners_length}
use Rattle.cell_pairs.specs.Patterns.{touch}
use Rattle.lists.specs.Refusals.{refusal, refusal_at}
use Rattle.lists.specs.Range.{when, flat_map_take}
use Rattle.lists.specs.Stores.{sets_append, sets_all}
use Rattle.function.specs.Colours.{colour_list}
use Rattle.lent_numbers.specs.Lent.{Touching}
use Rattle.cell_pairs.specs.declared.WorkRecord.{WorkRecord}
use Rattle.cell_pairs.specs.Records.{rec}
use Rattle.cell_pairs.specs.WorkList.{touching_part, distant_part, work_list, distant_pairs, sharing_pairs}
use Rattle.cell_pairs.specs.WorkRecords.{of_pair}
use Rattle.cell_pairs.proofs.Counting.{split, length_distant, length_touching, once_touching, record_touching}
use Rattle.scatter.specs.AddingFacts.{length_local_rows, length_local_columns, length_local_values}
use Rattle.plans.specs.Planning.{Planning, Lists, test_space, trial_space, work_records}
use Rattle.plans.specs.Accepted.{mesh_fine, Accepted, counted, test_fits, trial_fits}
use Rattle.runs.specs.Runs.{EntryLists, entry_lists, Answer, accepted, refused, answered}
use Rattle.runs.specs.CellDofs.{cell_long}
use Rattle.runs.specs.Calls.{Call, looks, adds_distant, adds_touching, adds_entries}
use Rattle.runs.specs.Machine.{Machine, machine_along, machine_of, State, entries_to, lists_sized, call_checks, add_pair, write_pair, granted, call_refusal, machine_step}
use Rattle.runs.specs.Beside.{pair_count}
use Rattle.runs.proofs.Listed.{touching_behind_lem}
use Rattle.runs.specs.Reading.{is_accepted, acceptances, answer_at, taken, lent_to, record_rows, record_columns, call_values, record_values, entries_of}
use Rattle.runs.proofs.ReadingFacts.{pairs_from, answers_from}

-- ---- an accepted call of an entries run is an entries call

lent_append : (cs ds : List Call) → lent_to (cs ++ ds) ≡ lent_to cs ++ lent_to ds
unfolding lent_to
lent_append [] ds = refl
lent_append (looks ∷ cs) ds = lent_append cs ds
lent_append (adds_distant a ∷ cs) ds = lent_append cs ds
lent_append (adds_touching a ∷ cs) ds = lent_append cs ds
lent_append (adds_entries a ∷ cs) ds = ap (λ (ws : List Touching). a ∷ ws) (lent_append cs ds)

-- 23 turns any other down
no_adds : (b : Bool) → b and not true ≡ true → ⊥
no_adds b h = true≢false (sym (and_right b false h))

-- an acceptance is no refusal
not_refused : (v : ℕ) → is_accepted (answered v accepted) ≡ true → v ≡ 0
not_refused zero h = refl
not_refused (suc v) h = absurd (true≢false (sym h))

module _ (m : Machine) (kind : m.entries ≡ true) where
  entries_only : (c : Call) (s : State)
      → (let t = when (is_accepted (answered (call_refusal m c s) (granted m s.position c))) (c ∷ []) in t ≡ map adds_entries (lent_to t))
  unfolding call_refusal call_checks lent_to
  entries_only looks s = go (call_refusal m looks s)
    where
      go : (v : ℕ) → (let t = when (is_accepted (answered v (granted m s.position looks))) (looks ∷ []) in t ≡ map adds_entries (lent_to t))
      go zero = refl
      go (suc v) = refl
  entries_only (adds_distant a) s = go (call_refusal m (adds_distant a) s) (λ z. no_adds _ (rw kind at (refusal_at _ z refl 2)))
    where
      go : (v : ℕ) → (v ≡ 0 → ⊥) → (let t = when (is_accepted (answered v accepted)) (adds_distant a ∷ []) in t ≡ map adds_entries (lent_to t))
      go zero h = absurd (h refl)
      go (suc v) h = refl
  entries_only (adds_touching a) s = go (call_refusal m (adds_touching a) s) (λ z. no_adds _ (rw kind at (refusal_at _ z refl 2)))
    where
      go : (v : ℕ) → (v ≡ 0 → ⊥) → (let t = when (is_accepted (answered v accepted)) (adds_touching a ∷ []) in t ≡ map adds_entries (lent_to t))
      go zero h = absurd (h refl)
      go (suc v) h = refl
  entries_only (adds_entries a) s = go (call_refusal m (adds_entries a) s)
    where
      go : (v : ℕ) → (let t = when (is_accepted (answered v accepted)) (adds_entries a ∷ []) in t ≡ map adds_entries (lent_to t))
      go zero = refl
      go (suc v) = refl

  pub taken_entries : (calls : List Call) (s : State) → (let t = taken calls (answers_from m calls s) in t ≡ map adds_entries (lent_to t))
  unfolding taken answers_from lent_to
  taken_entries [] s = refl
  taken_entries (c ∷ cs) s =
      let here : List Call = when (is_accepted (answered (call_refusal m c s) (granted m s.position c))) (c ∷ []) in
      let later : List Call = taken cs (answers_from m cs (machine_step m c s)) in
      ap₂ (λ (xs ys : List Call). xs ++ ys) (entries_only c s) (taken_entries cs (machine_step m c s))
      ∙ sym (map-append adds_entries (lent_to here) (lent_to later))
      ∙ ap (map adds_entries) (sym (lent_append here later))

  -- it was lent lists of the right length
  accepted_sized : (p : ℕ) (M : List Float) (e : EntryLists) (c : Call) → is_accepted (answer_at m p M e c) ≡ true → lists_sized m e ≡ true
  unfolding answer_at call_checks
  accepted_sized p M e looks h = go (refusal (call_checks m p M e looks)) h
    where
      go : (v : ℕ) → is_accepted (answered v (granted m p looks)) ≡ true → lists_sized m e ≡ true
      go zero h = absurd (true≢false (sym h))
      go (suc v) h = absurd (true≢false (sym h))
  accepted_sized p M e (adds_distant a) h = absurd (no_adds _ (rw kind at (refusal_at _ (not_refused _ h) refl 2)))
  accepted_sized p M e (adds_touching a) h = absurd (no_adds _ (rw kind at (refusal_at _ (not_refused _ h) refl 2)))
  accepted_sized p M e (adds_entries a) h = refusal_at _ (not_refused _ h) refl 0

-- one of some answers is an acceptance
accepted_one : (rs : List Answer) → 0 < acceptances rs → (k : ℕ) × (k < length rs) × (is_accepted (get_or rs k (refused 0)) ≡ true)
unfolding total
accepted_one [] h = absurd (omega arith)
accepted_one (r ∷ rs) h = ⊎_elim (λ t. (0, omega arith, t)) (λ f. let k = accepted_one rs (later (is_accepted r) f h) in (suc k.0, omega (arith, k.1), k.2)) (cases (is_accepted r))
  where
    later : (b : Bool) → b ≡ false → 0 < gate b 1 + acceptances rs → 0 < acceptances rs
    later true f l = absurd (true≢false f)
    later false f l = omega arith

-- so lists of which a call was accepted have the right length
pub some_sized : (m : Machine) → m.entries ≡ true → (calls : List Call) (M : List Float) (e : EntryLists) (rs : List Answer) (at : ℕ → ℕ)
    → ((k : ℕ) → k < length rs → get_or rs k (refused 0) ≡ answer_at m (at k) M e (get_or calls k looks)) → 0 < acceptances rs → lists_sized m e ≡ true
some_sized m kind calls M e rs at each some =
    let first = accepted_one rs some in
    accepted_sized m kind (at first.0) M e (get_or calls first.0 looks) (ap is_accepted (sym (each first.0 first.1)) ∙ first.2)

-- entries calls leave the matrix
pub entries_keep : (m : Machine) (ws : List Touching) (k : ℕ) (M : List Float) → pairs_from (add_pair m) k (map adds_entries ws) M ≡ M
unfolding pairs_from add_pair
entries_keep m [] k M = refl
entries_keep m (a ∷ ws) k M = entries_keep m ws (suc k) M

-- ---- lists of blocks

-- a store behind what was stored from the front
stores_behind : {A : Type 0} (l p q : List A) (at : ℕ) → length p ≡ at → sets (sets l 0 p) at q ≡ sets l 0 (p ++ q)
stores_behind l p q at e = sym (sets_append l 0 p q ∙ ap (λ (n : ℕ). sets (sets l 0 p) n q) (omega (arith, e)))

-- three lists are equal list by list
lists_are : {r r' c c' : List ℕ} {v v' : List Float} → r ≡ r' → c ≡ c' → v ≡ v'
    → ◌≡◌ {A = EntryLists} (record { rows = r; columns = c; values = v }) (record { rows = r'; columns = c'; values = v' })
lists_are e f g = rw (e, f, g)

-- the blocks of the first j elements of a list are as long as these say one by one
blocks_long : {A B : Type 0} (f : A → List B) (w : A → ℕ) (d : A) (xs : List A) → ((k : ℕ) → k < length xs → length (f (get_or xs k d)) ≡ w (get_or xs k d))
    → (j : ℕ) → length (flat_map f (take j xs)) ≡ total w (take j xs)
unfolding flat_map total
blocks_long f w d xs h zero = refl
blocks_long f w d [] h (suc j) = refl
blocks_long f w d (x ∷ xs) h (suc j) =
    length-append (f x) (flat_map f (take j xs)) ∙ ap₂ ◌+◌ (h 0 (omega arith)) (blocks_long f w d xs (λ k l. h (suc k) (omega arith)) j)

module _ (m : Machine) where
  -- how many entries a record has
  abbrev size : WorkRecord → ℕ
  size e = m.test_dim e.test * m.trial_dim e.trial

  values_long : (es : List WorkRecord) (ws : List Touching) → length ws ≡ length es → length (record_values m es ws) ≡ total size es
  unfolding record_values call_values total
  values_long [] ws e = refl
  values_long (r ∷ es) [] e = absurd (omega arith)
  values_long (r ∷ es) (a ∷ ws) e = length-append (call_values m r a) (record_values m es ws) ∙ ap₂ ◌+◌ (length_local_values _ _ _) (values_long es ws (omega arith))

  -- one more record and its call
  values_more : (es : List WorkRecord) (ws : List Touching) (a : Touching) → length ws < length es
      → record_values m (take (suc (length ws)) es) (ws ++ (a ∷ [])) ≡ record_values m (take (length ws) es) ws ++ call_values m (get_or es (length ws) (rec 0 0 0)) a
  unfolding record_values
  values_more [] ws a h = absurd (omega arith)
  values_more (r ∷ es) [] a h = append-nil (call_values m r a)
  values_more (r ∷ es) (b ∷ ws) a h =
      ap (λ (l : List Float). call_values m r b ++ l) (values_more es ws a (omega arith))
      ∙ sym (append_assoc (call_values m r b) (record_values m (take (length ws) es) ws) _)

module _ {x : Planning} {l : Lists} (ok : Accepted x l) where
  abbrev m : Machine
  m = machine_of x true

  abbrev N : ℕ
  N = distant_pairs x.mesh

  -- the touching records, in work order
  abbrev T : List WorkRecord
  T = touching_part x.mesh

  -- the entries of the first j of them
  abbrev place : ℕ → ℕ
  place j = total (size m) (take j T)

  place_is : (j : ℕ) → entries_to m j ≡ place j
  unfolding entries_to machine_along
  place_is j = ap (λ (rs : List WorkRecord). total (size m) (take j rs)) (touching_behind_lem ok)

  long : length T ≡ sharing_pairs x.mesh
  long = length_touching x.mesh x.batch _ _ (counted ok)

  -- record N + j is touching record j
  record_is : (j : ℕ) → get_or m.work (N + j) (rec 0 0 0) ≡ get_or T j (rec 0 0 0)
  unfolding machine_along work_list
  record_is j =
      ap (λ (n : ℕ). get_or (work_records x) (n + j) (rec 0 0 0)) (sym (length_distant x.mesh x.batch _ _ (counted ok)))
      ∙ get_or-append-add (distant_part x.mesh x.batch (colour_list (test_space x) x.mesh.cells) (colour_list (trial_space x) x.mesh.cells)) T j (rec 0 0 0)

  -- its cells have as many DOFs as their elements
  module _ (j : ℕ) (h : j < length T) where
    abbrev met : WorkRecord
    met = get_or T j (rec 0 0 0)

    below : N + j < pair_count x
    below = omega (arith, long, split x.mesh)

    test_long : length (m.test_dofs met.test) ≡ m.test_dim met.test
    unfolding machine_along
    test_long =
        let near = record_touching x.mesh x.batch _ _ (counted ok) (N + j) (omega arith) below in
        cell_long ok x.test (test_fits ok) _ (rw (← record_is j) near.test_cell)

    trial_long : length (m.trial_dofs met.trial) ≡ m.trial_dim met.trial
    unfolding machine_along
    trial_long =
        let near = record_touching x.mesh x.batch _ _ (counted ok) (N + j) (omega arith) below in
        cell_long ok x.trial (trial_fits ok) _ (rw (← record_is j) near.trial_cell)

    rows_long : length (record_rows m met) ≡ size m met
    unfolding record_rows
    rows_long = length_local_rows _ _ ∙ ap₂ ◌*◌ test_long trial_long

    columns_long : length (record_columns m met) ≡ size m met
    unfolding record_columns
    columns_long = length_local_columns _ _ ∙ ap₂ ◌*◌ test_long trial_long

  -- the next record's block, and its call's values, stored behind the others
  store_record : (f : WorkRecord → List ℕ) → ((j : ℕ) → j < length T → length (f (get_or T j (rec 0 0 0))) ≡ size m (get_or T j (rec 0 0 0))) → (old : List ℕ) (j : ℕ) → j < length T
      → sets (sets old 0 (flat_map f (take j T))) (place j) (f (get_or T j (rec 0 0 0))) ≡ sets old 0 (flat_map f (take (j + 1) T))
  store_record f each old j h =
      stores_behind old (flat_map f (take j T)) (f (get_or T j (rec 0 0 0))) (place j) (blocks_long f (size m) (rec 0 0 0) T each j)
      ∙ ap (sets old 0) (sym (flat_map_take f T (rec 0 0 0) j h))

  store_call : (old : List Float) (ws : List Touching) (a : Touching) → length ws < length T
      → sets (sets old 0 (record_values m (take (length ws) T) ws)) (place (length ws)) (call_values m (get_or T (length ws) (rec 0 0 0)) a)
      ≡ sets old 0 (record_values m (take (length ws + 1) T) (ws ++ (a ∷ [])))
  store_call old ws a h =
      stores_behind old (record_values m (take (length ws) T) ws) (call_values m (get_or T (length ws) (rec 0 0 0)) a) (place (length ws))
      (values_long m (take (length ws) T) ws (omega (arith, length-take (length ws) T)))
      ∙ ap (sets old 0) (sym (ap (λ (k : ℕ). record_values m (take k T) (ws ++ (a ∷ []))) (add-one (length ws)) ∙ values_more m T ws a h))

  -- an entries call writes the entries of the next touching record behind the others
  write_more : (e : EntryLists) (ws : List Touching) (a : Touching) → length ws < length T
      → write_pair m (N + length ws) (adds_entries a) (entries_of m (take (length ws) T) ws e) ≡ entries_of m (take (length ws + 1) T) (ws ++ (a ∷ [])) e
  unfolding write_pair entries_of record_rows record_columns call_values machine_along
  write_more e ws a inside =
      let j : ℕ = length ws in
      let here : N + j - N ≡ j = omega arith in
      rw (here, place_is j, record_is j)
      (lists_are (store_record (record_rows m) rows_long e.rows j inside) (store_record (record_columns m) columns_long e.columns j inside) (store_call e.values ws a inside))

  -- and so on
  write_all : (e : EntryLists) (done ws : List Touching) → length done + length ws ≤ length T
      → pairs_from (write_pair m) (N + length done) (map adds_entries ws) (entries_of m (take (length done) T) done e)
      ≡ entries_of m (take (length (done ++ ws)) T) (done ++ ws) e
  unfolding pairs_from
  write_all e done [] h = rw append-nil
  write_all e done (a ∷ ws) h =
      let more : length (done ++ (a ∷ [])) ≡ length done + 1 = length-append done (a ∷ []) in
      let next : suc (N + length done) ≡ N + length (done ++ (a ∷ [])) = omega (arith, more) in
      ap₂ (λ (k : ℕ) (f : EntryLists). pairs_from (write_pair m) k (map adds_entries ws) f) next (write_more e done a (omega arith) ∙ ap (λ (k : ℕ). entries_of m (take k T) (done ++ (a ∷ [])) e) (sym more))
      ∙ write_all e (done ++ (a ∷ [])) ws (omega (arith, more))
      ∙ rw (append_assoc done (a ∷ []) ws)

  -- from the front on
  pub entries_written_holds : (e : EntryLists) (ws : List Touching) → length ws ≤ length T → pairs_from (write_pair m) N (map adds_entries ws) e ≡ entries_of m (take (length ws) T) ws e
  unfolding entries_of flat_map record_values
  entries_written_holds e ws h = ap (λ (k : ℕ). pairs_from (write_pair m) k (map adds_entries ws) e) (sym (add-zero N)) ∙ write_all e [] ws (omega arith)

  pub touching_long : length T + N ≡ pair_count x
  touching_long = omega (arith, long, split x.mesh)

  -- a cell touches itself
  pub some_touching : 0 < length T
  unfolding cells_right
  some_touching =
      let C : ℕ = x.mesh.cells in
      let inside : 0 < C = within_low 1 most_cells C ok.cells in
      let f = mesh_fine ok in
      let long = corners_length x.mesh f 0 inside in
      let vertex : 0 < length (corners x.mesh 0) = ⊎_elim (λ three. omega (arith, long, three)) (λ four. omega (arith, long, four)) (f.each 0 inside) in
      let here = has_at (corners x.mesh 0) 0 _ vertex refl in
      let itself : touch x.mesh 0 0 ≡ true = share_at (corners x.mesh 0) (corners x.mesh 0) _ here here in
      omega (arith, once_touching x.mesh x.batch _ _ (counted ok) 0 0 inside inside, ap (λ (b : Bool). gate b 1) itself, count_split (of_pair 0 0) T)

  -- 21 passes: the lists have room for the entries of all touching records
  lists_long : (e : EntryLists) → lists_sized m e ≡ true
      → (length e.rows ≡ total (size m) T) × (length e.columns ≡ total (size m) T) × (length e.values ≡ total (size m) T)
  unfolding lists_sized machine_along
  lists_long e h =
      let all : entries_to m (pair_count x - N) ≡ total (size m) T =
      place_is (pair_count x - N) ∙ ap (total (size m)) (take_all (pair_count x - N) T (omega (arith, touching_long))) in (
        eqb-true _ _ (every_at _ h 0) ∙ all,
        eqb-true _ _ (every_at _ h 1) ∙ all,
        eqb-true _ _ (every_at _ h 2) ∙ all,
      )

  -- all of them fill the lists
  pub entries_all : (e : EntryLists) (ws : List Touching) → lists_sized m e ≡ true → length ws ≡ length T
      → entries_of m (take (length ws) T) ws e ≡ entry_lists (flat_map (record_rows m) T) (flat_map (record_columns m) T) (record_values m T ws)
  unfolding entries_of
  entries_all e ws sized all =
      let whole : take (length ws) T ≡ T = take_all (length ws) T (omega arith) in
      let lengths = lists_long e sized in
      rw whole
      (lists_are (sets_all e.rows _ (blocks (record_rows m) rows_long ∙ sym lengths.0)) (sets_all e.columns _ (blocks (record_columns m) columns_long ∙ sym lengths.1))
      (sets_all e.values _ (values_long m T ws all ∙ sym lengths.2)))
    where
      blocks : (f : WorkRecord → List ℕ) → ((j : ℕ) → j < length T → length (f (get_or T j (rec 0 0 0))) ≡ size m (get_or T j (rec 0 0 0))) → length (flat_map f T) ≡ total (size m) T
      blocks f h =
          let whole : take (length T) T ≡ T = take_all (length T) T (omega arith) in
          ap (λ (t : List WorkRecord). length (flat_map f t)) (sym whole) ∙ blocks_long f (size m) (rec 0 0 0) T h (length T) ∙ ap (total (size m)) whole
