-- The proofs to `specs/Beside.antt`. Assumes nothing.
use Prim.Native.Nat.{ℕ, zero, suc, ◌+◌, ◌-◌, ◌*◌, ◌≤◌, ◌<◌}
use native.Mathlib.Omega.{arith}
use Rattle.std.proofs.Math.Path.{◌≡◌, refl, ap}
use Rattle.std.proofs.Common.{sym, ap₂, ◌∙◌}
use Rattle.std.specs.Prelude.{Bool, cond, take, drop, Float}
use Rattle.std.proofs.Math.Bool.{true, false, not}
use Rattle.std.proofs.Math.Logic.{⊎_elim}
use mathlib.Core.List.{List, [], ◌∷◌, ◌++◌}
use Rattle.std.proofs.Math.ListN.{length, get_or, length-take, length-drop}
use Rattle.std.proofs.Math.Seq.{get_or-take, get_or-drop}
use Rattle.std.proofs.Math.Dec.{leb, eqb}
use borrow.Author.Tests.{le-leb, lt-ltb, eq-eqb, eqb-false, not-true}
use Rattle.lists.specs.Bool.{◌and◌, ◌or◌, every, every_at, every_of, end, ◌also◌, and_both, true≢false, or_left, or_right, cases}
use Rattle.lists.specs.Bounded.{lt_or_le}
use Rattle.lists.specs.Fold.{over_agree}
use Rattle.lists.specs.Range.{AllIn, all_in_places}
use Rattle.lists.specs.Refusals.{Check, check, refusal, unless, refusal_at}
use Rattle.lists.specs.Total.{total}
use Rattle.grid.specs.Mesh.{kind, cells_of, kinds_match, cells_right, vertices_right, edges_right}
use Rattle.numbers.specs.Ranges.{all_below}
use Rattle.function.specs.declared.Elements.{Elements}
use Rattle.function.specs.Elements.{cell_dim}
use Rattle.dof_numbering.specs.Numbering.{dof_count}
use Rattle.cell_pairs.specs.Patterns.{touch}
use Rattle.lent_numbers.specs.Lent.{Touching, Distant}
use Rattle.lent_numbers.specs.Entries.{touching_entry, distant_entry}
use Rattle.scatter.specs.Adding.{add_local}
use Rattle.cell_pairs.specs.declared.WorkRecord.{WorkRecord}
use Rattle.cell_pairs.specs.Records.{width, rec, flat, record_at}
use Rattle.cell_pairs.specs.WorkList.{sharing_pairs, distant_pairs}
use Rattle.cell_pairs.specs.RecordsFacts.{flat_at, length_flat}
use Rattle.cell_pairs.proofs.Counting.{split, kinds_split}
use Rattle.cell_pairs.specs.Blocks.{blocks_of, block_at}
use Rattle.cell_pairs.proofs.BlocksFacts.{blocked_kinds, blocked_entries}
use Rattle.plans.specs.Planning.{Planning, Lists, plan_numbers, unless_refused, test_space, trial_space}
use Rattle.plans.specs.Accepted.{dofs_long, dofs_few, Accepted, counted, test_fits, trial_fits}
use Rattle.runs.specs.Runs.{Run, EntryLists, Answer, found, answered, begin, begin_entries, begun, record_of, test_dofs_of, trial_dofs_of, written, cell_dofs, is_touching, is_distant, ranges_right, counts_right, kinds_fit, plan_right, kinds_put, kind_dim, entries_on, entries_to, matrix_right, entries_right, pair_left, record_known, record_right, state_checks, look_refusal, distant_refusal, touching_refusal, entries_refusal, advance, look, add_distant, add_touching, add_entries, distant_matrix, touching_matrix, entries_written}
use Rattle.runs.specs.CellDofs.{kind_dim_lem, cell_below}
use Rattle.runs.specs.Calls.{Call, looks, adds_distant, adds_touching, adds_entries, Progress, reply_to, matrix_after, lists_after, call, call_all}
use Rattle.runs.specs.Machine.{Machine, machine_along, State, record_no, entries_to as entries_up_to, lists_sized, call_checks, add_pair, write_pair, call_refusal, machine_step, fresh, machine_run}
use Rattle.runs.specs.Beside.{Along, Between, embed, pair_count, plan_along, run_at}

-- ---- by a refusal's number

unless_same : {A : Type 0} (n : ℕ) (a b c : A) → (n ≡ 0 → a ≡ b) → unless_refused n a c ≡ unless_refused n b c
unless_same zero a b c h = h refl
unless_same (suc n) a b c h = refl

answered_same : (n : ℕ) (a b : Answer) → (n ≡ 0 → a ≡ b) → answered n a ≡ answered n b
answered_same zero a b h = h refl
answered_same (suc n) a b h = refl

pub kept : {A : Type 0} (n : ℕ) (a : A) → unless_refused n a a ≡ a
kept zero a = refl
kept (suc n) a = refl

-- where 20 passes there is a pair left
still_below : (p n : ℕ) → p ≤ n → not (eqb p n) ≡ true → p < n
still_below p n h left =
    let other : p ≡ n → ⊥ = eqb-false p n (not-true (eqb p n) left) in
    omega arith

-- a sum is the same where each of its terms is
total_each : {A : Type 0} (m m' : A → ℕ) (xs : List A) → AllIn (λ x. m x ≡ m' x) xs → total m xs ≡ total m' xs
unfolding total AllIn
total_each m m' [] e = refl
total_each m m' (x ∷ xs) e = ap₂ ◌+◌ e.0 (total_each m m' xs e.1)

-- progress is equal part by part
progress_is : {r r' : Run} {M M' : List Float} {e e' : EntryLists} {A A' : List Answer} → r ≡ r' → M ≡ M' → e ≡ e' → A ≡ A'
    → ◌≡◌ {A = Progress} (record { run = r; matrix = M; lists = e; answers = A }) (record { run = r'; matrix = M'; lists = e'; answers = A' })
progress_is e f g h = rw (e, f, g, h)

module _ (x : Planning) (l : Lists) (ok : Accepted x l) (W : List WorkRecord) (along : Along x W) (entries : Bool) where
  abbrev C : ℕ
  C = x.mesh.cells

  abbrev N : ℕ
  N = distant_pairs x.mesh

  abbrev m : Machine
  m = machine_along x W entries

  -- ---- 21 and 22 pass at each position that the run may have

  ranges_right_holds : (p : ℕ) → ranges_right (run_at x entries p) ≡ true
  unfolding ranges_right run_at plan_numbers cells_right vertices_right edges_right
  ranges_right_holds p =
      every_of (ok.cells also every_at _ ok.vertices 0 also every_at _ ok.edges 0 also ok.dims also ok.integrand also end)

  counts_right_holds : (p : ℕ) → Between x entries p → counts_right (run_at x entries p) ≡ true
  unfolding counts_right run_at plan_numbers
  counts_right_holds p h =
      every_of
      (eq-eqb _ _ (kinds_split x.mesh (counted ok).mesh.kinds) also eq-eqb _ _ (split x.mesh) also le-leb _ _ h.to also kind_right entries h.from also end)
    where
      -- an entries run has p from N on
      kind_right : (b : Bool) → (b ≡ true → distant_pairs x.mesh ≤ p) → not b or leb (distant_pairs x.mesh) p ≡ true
      kind_right false f = or_left _ _ refl
      kind_right true f = or_right _ _ (le-leb _ _ (f refl))

  kinds_fit_holds : (p : ℕ) → kinds_fit (run_at x entries p) (plan_along x W) ≡ true
  unfolding kinds_fit kinds_match run_at plan_numbers plan_along
  kinds_fit_holds p = every_of (ok.kinds also eq-eqb (cells_of x.mesh.kinds 3) _ refl also eq-eqb (cells_of x.mesh.kinds 4) _ refl also end)

  plan_right_holds : (p : ℕ) → plan_right (run_at x entries p) (plan_along x W) ≡ true
  unfolding plan_right run_at plan_numbers plan_along
  plan_right_holds p =
      let all_pairs : length (flat W) ≡ width * pair_count x = length_flat W ∙ ap (λ (n : ℕ). width * n) along.long in
      every_of
      (le-leb _ _ (dofs_few ok x.test (test_fits ok)) also le-leb _ _ (dofs_few ok x.trial (trial_fits ok))
      also eq-eqb _ _ (dofs_long ok x.test (test_fits ok)) also eq-eqb _ _ (dofs_long ok x.trial (trial_fits ok)) also eq-eqb _ _ all_pairs also end)

  module _ (p : ℕ) (below : p < pair_count x) where
    -- what the program reads is record p
    record_is : record_at (plan_along x W).work p ≡ get_or W p (rec 0 0 0)
    unfolding plan_along
    record_is = flat_at W p (omega (arith, along.long))

    -- a pattern of the list
    pattern_right : is_touching (get_or W p (rec 0 0 0)).pattern or is_distant (get_or W p (rec 0 0 0)).pattern ≡ true
    pattern_right =
        ⊎_elim (λ t. or_left _ _ (along.touching p below ∙ t)) (λ f. or_right _ _ (along.distant p below ∙ ap not f))
        (cases (touch x.mesh (get_or W p (rec 0 0 0)).test (get_or W p (rec 0 0 0)).trial))

    test_below : all_below (cell_dofs (plan_along x W).kinds x.test (plan_along x W).test_dofs (get_or W p (rec 0 0 0)).test) (dof_count (test_space x) C) ≡ true
    unfolding plan_along
    test_below = cell_below ok x.test (test_fits ok) _

    trial_below : all_below (cell_dofs (plan_along x W).kinds x.trial (plan_along x W).trial_dofs (get_or W p (rec 0 0 0)).trial) (dof_count (trial_space x) C) ≡ true
    unfolding plan_along
    trial_below = cell_below ok x.trial (trial_fits ok) _

    record_right_lem : record_right (run_at x entries p) (plan_along x W) ≡ true
    unfolding record_right record_known run_at plan_numbers
    record_right_lem =
        rw record_is
        (every_of (every_of (pattern_right also lt-ltb _ _ (along.test p below) also lt-ltb _ _ (along.trial p below) also end) also test_below also trial_below also end))

    -- the numbers put cells of its kinds there, where they put any
    kinds_put_holds : kinds_put (run_at x entries p) (plan_along x W) ≡ true
    unfolding kinds_put run_at plan_numbers plan_along
    kinds_put_holds = ⊎_elim (λ h. or_left _ _ (lt-ltb _ _ h)) (λ h. or_right _ _ (rw record_is (put h))) (lt_or_le p N)
      where
        put : N ≤ p
            → (let b = block_at (blocks_of x.mesh) (p - N) in
            eqb (kind x.mesh (get_or W p (rec 0 0 0)).test) b.test_kind and eqb (kind x.mesh (get_or W p (rec 0 0 0)).trial) b.trial_kind ≡ true)
        put h =
            let place : N + (p - N) ≡ p = omega arith in
            let here : get_or (drop N W) (p - N) (rec 0 0 0) ≡ get_or W p (rec 0 0 0) = get_or-drop N W (p - N) (rec 0 0 0) ∙ ap (λ (k : ℕ). get_or W k (rec 0 0 0)) place in
            let inside : p - N < length (drop N W) = omega (arith, length-drop N W, along.long) in
            let kinds = blocked_kinds x.mesh (blocks_of x.mesh) (drop N W) along.blocked (p - N) inside in
            rw (← here) (and_both _ _ (eq-eqb _ _ kinds.test) (eq-eqb _ _ kinds.trial))

    put_passes : (rest : List Check) → refusal (check 22 (kinds_put (run_at x entries p) (plan_along x W)) ∷ rest) ≡ refusal rest
    unfolding refusal unless
    put_passes rest = rw kinds_put_holds

  -- a cell's kind has cells, so that its dim is read
  dim_read : (i : ℕ) → i < C → (es : Elements) → kind_dim (plan_numbers x) es (kind x.mesh i) ≡ cell_dim es (kind x.mesh i)
  unfolding kinds_fit run_at plan_numbers plan_along
  dim_read i h es = kind_dim_lem (plan_numbers x) x.mesh.kinds (kinds_fit_holds 0) i h es

  -- so the numbers say how many entries the first touching records have
  same_entries : (q : ℕ) → entries_to (plan_numbers x) q ≡ entries_up_to m q
  unfolding plan_numbers machine_along entries_up_to
  same_entries q =
      blocked_entries x.mesh _ (blocks_of x.mesh) (drop N W) along.blocked q
      ∙ total_each _ _ (take q (drop N W)) (all_in_places _ (take q (drop N W)) (rec 0 0 0) each)
    where
      each : (k : ℕ) → k < length (take q (drop N W))
          → (let e = get_or (take q (drop N W)) k (rec 0 0 0) in
          entries_on (plan_numbers x) (kind x.mesh e.test) (kind x.mesh e.trial) ≡ m.test_dim e.test * m.trial_dim e.trial)
      each k h =
          let inside : k < q = omega (arith, length-take q (drop N W)) in
          let below : N + k < pair_count x = omega (arith, length-take q (drop N W), length-drop N W, along.long) in
          let here : get_or (take q (drop N W)) k (rec 0 0 0) ≡ get_or W (N + k) (rec 0 0 0) = get_or-take q (drop N W) k (rec 0 0 0) inside ∙ get_or-drop N W k (rec 0 0 0) in
          rw here (ap₂ ◌*◌ (dim_read _ (along.test (N + k) below) x.test) (dim_read _ (along.trial (N + k) below) x.trial))

  lists_same : (p : ℕ) (e : EntryLists) → entries_right (run_at x entries p) e ≡ lists_sized m e
  unfolding entries_right lists_sized run_at machine_along plan_numbers
  lists_same p e =
      let all : sharing_pairs x.mesh ≡ pair_count x - N = omega (arith, split x.mesh) in
      rw (same_entries (sharing_pairs x.mesh), all)

  -- ---- so 21, 20 and 22 come to the machine's checks, and 23 and the rest answer only at a pair

  same_checks : (p : ℕ) → Between x entries p → (sized : Bool) (rest rest' : List Check) → (p < pair_count x → refusal rest ≡ refusal rest')
      → refusal (state_checks (run_at x entries p) (plan_along x W) sized ++ rest) ≡ refusal (check 21 sized ∷ check 20 (not (eqb p (pair_count x))) ∷ rest')
  unfolding refusal unless pair_left run_at plan_numbers every ◌and◌
  same_checks p h sized rest rest' k =
      rw (ranges_right_holds p, counts_right_holds p h, kinds_fit_holds p, plan_right_holds p) (go sized (eqb p (pair_count x)) refl)
    where
      go : (s e : Bool) → eqb p (pair_count x) ≡ e
          → unless s 21 (unless (not e) 20 (unless (record_right (run_at x entries p) (plan_along x W)) 22 (refusal rest)))
          ≡ unless s 21 (unless (not e) 20 (refusal rest'))
      go false e q = refl
      go true true q = refl
      go true false q =
          let other : p ≡ pair_count x → ⊥ = eqb-false p (pair_count x) q in
          let below : p < pair_count x = omega (arith, h.to) in
          rw (record_right_lem p below) (k below)

  module _ (s : State) (h : Between x entries s.position) where
    abbrev p : ℕ
    p = s.position

    abbrev q : Progress
    q = embed x entries s

    look_same : look_refusal q.run (plan_along x W) ≡ call_refusal m looks s
    unfolding look_refusal call_refusal call_checks machine_along refusal unless
    look_same = same_checks p h true [] [] (λ _. refl)

    distant_same : (a : Distant) → distant_refusal q.run (plan_along x W) s.matrix a ≡ call_refusal m (adds_distant a) s
    unfolding distant_refusal call_refusal call_checks machine_along matrix_right run_at plan_numbers plan_along
    distant_same a = same_checks p h _ _ _ (λ below. rw (record_is p below, along.distant p below))

    touching_same : (a : Touching) → touching_refusal q.run (plan_along x W) s.matrix a ≡ call_refusal m (adds_touching a) s
    unfolding touching_refusal call_refusal call_checks machine_along matrix_right run_at plan_numbers plan_along
    touching_same a = same_checks p h _ _ _ (λ below. rw (record_is p below, along.touching p below))

    entries_same : (a : Touching) → entries_refusal q.run (plan_along x W) s.lists a ≡ call_refusal m (adds_entries a) s
    unfolding entries_refusal call_refusal call_checks machine_along run_at plan_numbers plan_along
    entries_same a = rw (lists_same p s.lists) (same_checks p h _ _ _ (λ below. put_passes p below _ ∙ rw (record_is p below, along.touching p below)))

    -- an accepted call is at a pair
    accepted_below : (c : Call) → call_refusal m c s ≡ 0 → p < pair_count x
    unfolding call_refusal call_checks machine_along
    accepted_below looks e = still_below p (pair_count x) h.to (refusal_at _ e refl 0)
    accepted_below (adds_distant a) e = still_below p (pair_count x) h.to (refusal_at _ e refl 1)
    accepted_below (adds_touching a) e = still_below p (pair_count x) h.to (refusal_at _ e refl 1)
    accepted_below (adds_entries a) e = still_below p (pair_count x) h.to (refusal_at _ e refl 1)

  -- ---- what an accepted call finds, adds and writes

  module _ (s : State) (below : s.position < pair_count x) where
    abbrev r : Run
    r = run_at x entries s.position

    look_finds : record_of r (plan_along x W) ≡ record_no m s.position
    unfolding machine_along run_at
    look_finds = record_is s.position below

    distant_sum_holds : (a : Distant)
        → add_local (distant_entry r.numbers.integrand a) r.numbers.rows (test_dofs_of r (plan_along x W)) (trial_dofs_of r (plan_along x W)) s.matrix
        ≡ add_pair m s.position (adds_distant a) s.matrix
    unfolding add_pair machine_along run_at plan_numbers plan_along
    distant_sum_holds a = rw (record_is s.position below)

    touching_sum_holds : (a : Touching)
        → add_local (touching_entry r.numbers.integrand a) r.numbers.rows (test_dofs_of r (plan_along x W)) (trial_dofs_of r (plan_along x W)) s.matrix
        ≡ add_pair m s.position (adds_touching a) s.matrix
    unfolding add_pair machine_along run_at plan_numbers plan_along
    touching_sum_holds a = rw (record_is s.position below)

    entries_written_holds : (a : Touching)
        → written r (plan_along x W) (touching_entry r.numbers.integrand a) s.lists ≡ write_pair m s.position (adds_entries a) s.lists
    unfolding write_pair machine_along run_at plan_numbers plan_along
    entries_written_holds a = rw (record_is s.position below, same_entries (s.position - N))

  -- ---- one call

  add_run : (n p : ℕ) → unless_refused n (advance (run_at x entries p)) (run_at x entries p) ≡ run_at x entries (unless_refused n (p + 1) p)
  unfolding advance run_at
  add_run zero p = refl
  add_run (suc n) p = refl

  step_agrees : (c : Call) (s : State) → Between x entries s.position → call (plan_along x W) c (embed x entries s) ≡ embed x entries (machine_step m c s)
  unfolding call machine_step reply_to matrix_after lists_after add_pair write_pair look add_distant add_touching add_entries distant_matrix touching_matrix entries_written
  step_agrees looks s h =
      rw (look_same s h)
      (progress_is (kept (call_refusal m looks s) _ ∙ ap (run_at x entries) (sym (kept (call_refusal m looks s) _)))
      (sym (kept (call_refusal m looks s) _)) (sym (kept (call_refusal m looks s) _))
      (ap (λ (a : Answer). s.answers ++ (a ∷ [])) (answered_same (call_refusal m looks s) _ _ (λ e. ap found (look_finds s (accepted_below s h looks e))))))
  step_agrees (adds_distant a) s h =
      rw (distant_same s h a)
      (progress_is (add_run (call_refusal m (adds_distant a) s) s.position)
      (unless_same (call_refusal m (adds_distant a) s) _ _ _ (λ e. distant_sum_holds s (accepted_below s h (adds_distant a) e) a))
      (sym (kept (call_refusal m (adds_distant a) s) _)) refl)
  step_agrees (adds_touching a) s h =
      rw (touching_same s h a)
      (progress_is (add_run (call_refusal m (adds_touching a) s) s.position)
      (unless_same (call_refusal m (adds_touching a) s) _ _ _ (λ e. touching_sum_holds s (accepted_below s h (adds_touching a) e) a))
      (sym (kept (call_refusal m (adds_touching a) s) _)) refl)
  step_agrees (adds_entries a) s h =
      rw (entries_same s h a)
      (progress_is (add_run (call_refusal m (adds_entries a) s) s.position)
      (sym (kept (call_refusal m (adds_entries a) s) _))
      (unless_same (call_refusal m (adds_entries a) s) _ _ _ (λ e. entries_written_holds s (accepted_below s h (adds_entries a) e) a)) refl)

  -- p stays where the run may have it
  grown : (n v p : ℕ) → n ≤ p → n ≤ unless_refused v (p + 1) p
  grown n zero p h = omega arith
  grown n (suc v) p h = h

  bounded : (v p : ℕ) → p ≤ pair_count x → (v ≡ 0 → p < pair_count x) → unless_refused v (p + 1) p ≤ pair_count x
  bounded zero p h below = omega (arith, below refl)
  bounded (suc v) p h below = h

  pub step_between : (c : Call) (s : State) → Between x entries s.position → Between x entries (machine_step m c s).position
  unfolding machine_step
  step_between looks s h = rw (kept (call_refusal m looks s) s.position) h
  step_between (adds_distant a) s h = record { from = λ e. grown _ (call_refusal m (adds_distant a) s) _ (h.from e); to = bounded (call_refusal m (adds_distant a) s) _ h.to (accepted_below s h (adds_distant a)) }
  step_between (adds_touching a) s h = record { from = λ e. grown _ (call_refusal m (adds_touching a) s) _ (h.from e); to = bounded (call_refusal m (adds_touching a) s) _ h.to (accepted_below s h (adds_touching a)) }
  step_between (adds_entries a) s h = record { from = λ e. grown _ (call_refusal m (adds_entries a) s) _ (h.from e); to = bounded (call_refusal m (adds_entries a) s) _ h.to (accepted_below s h (adds_entries a)) }

  fresh_between : (M : List Float) (e : EntryLists) → Between x entries (fresh m M e).position
  unfolding machine_along
  fresh_between M e = go entries
    where
      go : (b : Bool) → Between x b (cond b (distant_pairs x.mesh) 0)
      go true = record { from = λ _. omega arith; to = omega (arith, split x.mesh) }
      go false = record { from = λ e. absurd (true≢false (sym e)); to = omega arith }

  -- ---- a list of calls

  begun_is : (M : List Float) (e : EntryLists)
      → ◌≡◌ {A = Progress} (record { run = begun entries (plan_numbers x); matrix = M; lists = e; answers = [] }) (embed x entries (fresh m M e))
  unfolding machine_along begin begin_entries run_at plan_numbers
  begun_is M e = go entries
    where
      go : (b : Bool)
          → ◌≡◌ {A = Progress} (record { run = begun b (plan_numbers x); matrix = M; lists = e; answers = [] })
          (record { run = run_at x b (cond b (distant_pairs x.mesh) 0); matrix = M; lists = e; answers = [] })
      go true = refl
      go false = refl

  beside_between : (calls : List Call) (M : List Float) (e : EntryLists)
      → (call_all (plan_along x W) calls (begun entries (plan_numbers x)) M e ≡ embed x entries (machine_run m calls M e)) × Between x entries (machine_run m calls M e).position
  unfolding call_all machine_run
  beside_between calls M e =
      over_agree (λ (q : Progress) (s : State). (q ≡ embed x entries s) × Between x entries s.position) (call (plan_along x W)) (machine_step m)
      (λ c q s h. (ap (call (plan_along x W) c) h.0 ∙ step_agrees c s h.1, step_between c s h.1))
      calls _ (fresh m M e) (begun_is M e, fresh_between M e)

  pub beside : (calls : List Call) (M : List Float) (e : EntryLists)
      → call_all (plan_along x W) calls (begun entries (plan_numbers x)) M e ≡ embed x entries (machine_run m calls M e)
  beside calls M e = (beside_between calls M e).0

  pub between : (calls : List Call) (M : List Float) (e : EntryLists) → Between x entries (machine_run m calls M e).position
  between calls M e = (beside_between calls M e).1
