-- What an add needs where nothing turns it down, the ways it ends, and what it comes to. Assumes nothing.
use Rattle.std.specs.Prelude.{ℕ, zero, suc, ◌+◌, ◌≡◌, refl, Bool, true, false, not, List, ◌∷◌, ◌++◌, length, drop, Float}
use Rattle.std.proofs.Common.{arith, sym, ap, ◌∙◌, length-take, length-drop, eqb-true}
use Rattle.lists.specs.Bool.{◌and◌}
use Rattle.lists.specs.Refusals.{Check, check, refusal, refusal_first, refusal_rest, refusal_fails, refusal_passes}
use Rattle.refusals.specs.declared.Refusal.{Refusal}
use Rattle.refusals.specs.declared.Refusal.TheVariants.{Kind}
use Rattle.refusals.specs.Numbers.{number_of, number_nonzero}
use Rattle.grid.specs.Cells.{part}
use Rattle.numbers.specs.Ranges.{below_at}
use Rattle.integrands.specs.Columns.{Held}
use Rattle.scatter.specs.Adding.{add_local}
use Rattle.scatter.specs.AddingFacts.{add_local_ext}
use Rattle.scatter.specs.Entries.{entry_at, AddFits}
use Rattle.plans.specs.Planning.{unless_refused}
use Rattle.runs.specs.Runs.{Run, Plan, Reply, Answer, accepted, refused, reply, test_dofs_of, trial_dofs_of, matrix_right, state_checks, advance}
use Rattle.boundary_assemblers.specs.declared.Cell.{Cell}
use Rattle.boundary_assemblers.specs.declared.Pair.{Pair}
use Rattle.boundary_assemblers.specs.RunFacts.{state_number, Passed, Dofs, Standing, standing}
use Rattle.boundary_assemblers.specs.Forms.{dofs_at, pair_at}

-- the DOFs of a cell are as many as its dim
pub dofs_long : {dofs : List ℕ} {size : ℕ} {c : Cell} → Dofs dofs size c → length (dofs_at dofs c) ≡ c.dim
dofs_long {dofs} {size} {c} h = length-take c.dim (drop c.start dofs) ∙ omega (arith, length-drop c.start dofs, h.ends)

-- the matrix has room for each entry
pub add_fits : {r : Run} {ts us : List ℕ} {e : Pair} {M : List Float} → Standing r ts us e (matrix_right r M)
    → AddFits M r.numbers.rows r.numbers.columns (dofs_at ts e.test) (dofs_at us e.trial)
unfolding matrix_right
add_fits {r} {ts} {us} {e} {M} h =
    record {
      size = eqb-true _ _ h.size;
      test = below_at (dofs_at ts e.test) r.numbers.rows h.test.below;
      trial = below_at (dofs_at us e.trial) r.numbers.columns h.trial.below;
      few = omega (arith, dofs_long h.test, h.test.few);
      few_trial = omega (arith, dofs_long h.trial, h.trial.few);
    }

-- ---- the ways a call that writes ends; behind: its checks behind 21, 20, 22, of record p and its cells

module _ {A : Type 0} (r : Run) (l : Plan) (sized : Bool) (behind : Pair → List Check) (M new : A) where
  abbrev number : ℕ
  number = refusal (state_checks r l sized ++ behind (pair_at r l))

  -- the run and the answer that are handed back, and what is written
  abbrev Ends : Run → Answer → A → Type 0
  Ends next a M' = (◌≡◌ {A = Reply} (record { run = next; answer = a }) (reply number r (advance r) accepted)) × (M' ≡ unless_refused number new M)

  refuses : (v : Refusal) → number_of v ≡ number → Ends r (refused (number_of v)) M
  refuses v e = rw (← e) (go (number_of v) (number_nonzero v))
    where
      go : (n : ℕ) → (n ≡ 0 → ⊥) → (◌≡◌ {A = Reply} (record { run = r; answer = refused n }) (reply n r (advance r) accepted)) × (M ≡ unless_refused n new M)
      go zero h = absurd (h refl)
      go (suc n) h = (refl, refl)

  -- 21, 20 or 22 turns the call down
  pub by_state : (v : Refusal) → number_of v ≡ state_number r l sized → Ends r (refused (number_of v)) M
  by_state v e = refuses v (refusal_first (state_checks r l sized) (behind (pair_at r l)) (number_of v) e (number_nonzero v))

  module _ {e : Pair} (s : Passed r l sized e) {n : ℕ} (last : n ≡ refusal (behind e)) where
    all : n ≡ number
    all =
        last ∙ ap (λ (p : Pair). refusal (behind p)) s.pair ∙ sym (refusal_rest (state_checks r l sized) (behind (pair_at r l)) s.none refl)

    -- a check behind them does
    pub by_rest : (v : Refusal) → number_of v ≡ n → Ends r (refused (number_of v)) M
    by_rest v h = refuses v (h ∙ all)

    -- none does
    pub by_none : n ≡ 0 → {next : Run} {M' : A} → next ≡ advance r → M' ≡ new → Ends next accepted M'
    by_none z a w = rw (sym all ∙ z, a, w) (refl, refl)

-- an add checks 23, by the record and the run, then 9 to 11: of the sort that `taken` says by a pattern, with `checks` of two dims
module _ (taken : ℕ → Bool) (checks : ℕ → ℕ → List Check) where
  abbrev pub sort_behind : Run → Pair → List Check
  sort_behind r e = check 23 (taken e.item.pattern and not r.entries) ∷ checks e.test.dim e.trial.dim

  abbrev pub refusal_by : Run → Plan → List Float → ℕ
  refusal_by r l M = refusal (state_checks r l (matrix_right r M) ++ sort_behind r (pair_at r l))

  -- what it answers, and the matrix that it leaves, of the local entries of the pair
  abbrev pub added_by : Run → Plan → List Float → Reply
  added_by r l M = reply (refusal_by r l M) r (advance r) accepted

  abbrev pub matrix_by : (ℕ → ℕ → Float) → Run → Plan → List Float → List Float
  matrix_by entry r l M = unless_refused (refusal_by r l M) (add_local entry r.numbers.rows (test_dofs_of r l) (trial_dofs_of r l) M) M

-- the sum of the entries that the local matrix holds is that of the local entries
pub sum_is : (r : Run) (l : Plan) (sized : Bool) {e : Pair} → Passed r l sized e
    → (M : List Float) {M' : List Float} {entries : List Float} (entry : ℕ → ℕ → Float) → Held e.test.dim e.trial.dim entries entry
    → M' ≡ add_local (entry_at entries e.test.dim) r.numbers.rows (dofs_at l.test_dofs e.test) (dofs_at l.trial_dofs e.trial) M
    → M' ≡ add_local entry r.numbers.rows (test_dofs_of r l) (trial_dofs_of r l) M
unfolding part
sum_is r l sized {e} s M {M'} {entries} entry held w =
    let h = standing r l sized s in
    w ∙ add_local_ext (entry_at entries e.test.dim) entry r.numbers.rows (dofs_at l.test_dofs e.test) (dofs_at l.trial_dofs e.trial)
    (λ i j hi hj. held.at i j (omega (arith, dofs_long h.test)) (omega (arith, dofs_long h.trial))) M
    ∙ ap (λ (p : Pair). add_local entry r.numbers.rows (dofs_at l.test_dofs p.test) (dofs_at l.trial_dofs p.trial) M) s.pair

-- the local matrix is read by the test cell's dim
pub by_dim : {r : Run} {ts us : List ℕ} {e : Pair} {sized : Bool} → Standing r ts us e sized → (M : List Float) {M' : List Float} (entries : List Float)
    → M' ≡ add_local (entry_at entries (length (dofs_at ts e.test))) r.numbers.rows (dofs_at ts e.test) (dofs_at us e.trial) M
    → M' ≡ add_local (entry_at entries e.test.dim) r.numbers.rows (dofs_at ts e.test) (dofs_at us e.trial) M
by_dim {r} {ts} {us} {e} h M entries w =
    w ∙ ap (λ (n : ℕ). add_local (entry_at entries n) r.numbers.rows (dofs_at ts e.test) (dofs_at us e.trial) M) (dofs_long h.test)

-- ---- the ways an add ends, of local entries that the pair gives

module _ (taken : ℕ → Bool) (checks : ℕ → ℕ → List Check) (entry : ℕ → ℕ → Float) (r : Run) (l : Plan) (M : List Float) where
  abbrev Added : Run → Answer → List Float → Type 0
  Added next a M' = (◌≡◌ {A = Reply} (record { run = next; answer = a }) (added_by taken checks r l M)) × (M' ≡ matrix_by taken checks entry r l M)

  -- 21, 20 or 22 turns it down
  pub add_by_state : (v : Refusal) → number_of v ≡ state_number r l (matrix_right r M) → Added r (refused (number_of v)) M
  add_by_state v e = by_state r l (matrix_right r M) (sort_behind taken checks r) M _ v e

  module _ {e : Pair} (s : Passed r l (matrix_right r M) e) where
    -- 23 does
    pub add_by_kind : (taken e.item.pattern and not r.entries) ≡ false → Added r (refused 23) M
    add_by_kind h = by_rest r l (matrix_right r M) (sort_behind taken checks r) M _ s (sym (refusal_fails 23 _ _ h)) Kind refl

    module _ (h : (taken e.item.pattern and not r.entries) ≡ true) {n : ℕ} (last : n ≡ refusal (checks e.test.dim e.trial.dim)) where
      -- one of 9 to 11 does
      pub add_by_lent : (v : Refusal) → number_of v ≡ n → Added r (refused (number_of v)) M
      add_by_lent v q = by_rest r l (matrix_right r M) (sort_behind taken checks r) M _ s (last ∙ sym (refusal_passes 23 _ _ h)) v q

      -- none does, and the local matrix is added
      pub add_by_none : n ≡ 0 → {M' : List Float} {entries : List Float} → Held e.test.dim e.trial.dim entries entry
          → M' ≡ add_local (entry_at entries e.test.dim) r.numbers.rows (dofs_at l.test_dofs e.test) (dofs_at l.trial_dofs e.trial) M
          → Added (record { numbers = r.numbers; entries = r.entries; position = r.position + 1 }) accepted M'
      unfolding advance
      add_by_none z held w =
          by_none r l (matrix_right r M) (sort_behind taken checks r) M _ s (last ∙ sym (refusal_passes 23 _ _ h)) z refl (sum_is r l (matrix_right r M) s M entry held w)
