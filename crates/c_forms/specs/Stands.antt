-- The C form of an answer stands for it: read back, its refusal and its run, or the number kept, are those that the definitions give. A refused call hands the
-- run back as it was, and a run begun from a refused planning gets 21. Assumes nothing.
use Rattle.std.specs.Prelude.{ℕ, zero, suc, ◌≡◌, refl, Bool, true, false, List, [], ◌∷◌, ◌++◌, Float}
use Rattle.lent_numbers.specs.Lent.{Touching, Distant}
use Rattle.lists.specs.Bool.{◌and◌, every_fails}
use Rattle.lists.specs.Refusals.{Check, refusal, refusal_fails}
use Rattle.grid.specs.Mesh.{Mesh}
use Rattle.cell_pairs.specs.declared.WorkRecord.{WorkRecord}
use Rattle.function.specs.declared.Elements.{Elements}
use Rattle.plans.specs.Planning.{Planned, ready, refused as not_planned, planning_of, plan_numbers}
use Rattle.runs.specs.Runs.{Run, Plan, EntryLists, Reply, found, accepted, reply, begin, begin_entries, ranges_right, counts_right, kinds_fit, plan_right, state_checks, look_refusal, advance, distant_refusal, touching_refusal, entries_refusal}
use Rattle.sparse_lists.specs.Sparse.{SparseLists, values_at, kept_of, sparse_refusal, gathered, sparse_rows}
use Rattle.c_forms.specs.declared.CIntegrand.{CIntegrand}
use Rattle.c_forms.specs.declared.CNumbers.{CNumbers}
use Rattle.c_forms.specs.declared.CRun.{CRun}
use Rattle.c_forms.specs.declared.CLooked.{CLooked}
use Rattle.c_forms.specs.declared.CAdded.{CAdded}
use Rattle.c_forms.specs.Forms.{integrand_of, numbers_of, run_of, c_numbers, c_planned, c_run, c_looked, c_added, c_gathered}
use Rattle.c_forms.specs.Calls.{looked_by, added_by}

-- ---- planning and beginning

pub plan_stands : (m : Mesh) (test trial : Elements) (B : ℕ) (f : CIntegrand)
    → (let x = planning_of m test trial B (integrand_of f) in numbers_of (c_numbers test trial f (plan_numbers x)) ≡ plan_numbers x)
unfolding plan_numbers
plan_stands m test trial B f = refl

-- whatever planning answers, elements and integrand go back as the host gave them, those of a kind that is not present too
pub record HandedBack (test trial : Elements) (f : CIntegrand) (n : CNumbers) : Type 0 where
  pub test_kept : n.test ≡ test
  pub trial_kept : n.trial ≡ trial
  pub integrand_kept : n.integrand ≡ f

pub plan_hands_back : (test trial : Elements) (f : CIntegrand) (p : Planned) → HandedBack test trial f (c_planned test trial f p).numbers
plan_hands_back test trial f (ready n) = record { test_kept = refl; trial_kept = refl; integrand_kept = refl }
plan_hands_back test trial f (not_planned v) = record { test_kept = refl; trial_kept = refl; integrand_kept = refl }

pub begin_stands : (n : CNumbers) → run_of (c_run n (begin (numbers_of n))) ≡ begin (numbers_of n)
unfolding begin
begin_stands n = refl

pub begin_entries_stands : (n : CNumbers) → run_of (c_run n (begin_entries (numbers_of n))) ≡ begin_entries (numbers_of n)
unfolding begin_entries
begin_entries_stands n = refl

-- ---- look, by the refusal's number

pub record LookStands (c : CRun) (x : CLooked) (g : Reply) : Type 0 where
  pub answer : looked_by x ≡ g.answer
  pub run : run_of x.run ≡ g.run
  pub same : x.run ≡ c

pub look_stands : (c : CRun) (n : ℕ) (e : WorkRecord) → (let g = reply n (run_of c) (run_of c) (found e) in LookStands c (c_looked c g) g)
look_stands c zero e = record { answer = refl; run = refl; same = refl }
look_stands c (suc n) e = record { answer = refl; run = refl; same = refl }

-- ---- the adds and the entries call, by the refusal's number

pub record AddStands (c : CRun) (x : CAdded) (g : Reply) : Type 0 where
  pub answer : added_by x ≡ g.answer
  pub run : run_of x.run ≡ g.run
  pub same : (x.refusal ≡ 0 → ⊥) → x.run ≡ c

pub add_stands : (c : CRun) (n : ℕ) → (let g = reply n (run_of c) (advance (run_of c)) accepted in AddStands c (c_added c g) g)
unfolding advance
add_stands c zero = record { answer = refl; run = refl; same = λ h. absurd (h refl) }
add_stands c (suc n) = record { answer = refl; run = refl; same = λ _. refl }

-- ---- a run begun from the numbers of a refused planning, which have no cell: every call answers 21

no_cell : (c : CRun) → c.numbers.cells ≡ 0 → ranges_right (run_of c) ≡ false
unfolding ranges_right ◌and◌
no_cell c e = every_fails _ 0 (rw e)

out_of_range : (r : Run) (l : Plan) (sized : Bool) (rest : List Check) → ranges_right r ≡ false → refusal (state_checks r l sized ++ rest) ≡ 21
out_of_range r l sized rest e = refusal_fails 21 _ _ (every_fails (ranges_right r ∷ counts_right r ∷ kinds_fit r l ∷ plan_right r l ∷ sized ∷ []) 0 e)

pub record AllRefused (c : CRun) : Type 0 where
  pub look : (l : Plan) → look_refusal (run_of c) l ≡ 21
  pub distant : (l : Plan) (M : List Float) (a : Distant) → distant_refusal (run_of c) l M a ≡ 21
  pub touching : (l : Plan) (M : List Float) (a : Touching) → touching_refusal (run_of c) l M a ≡ 21
  pub entries : (l : Plan) (e : EntryLists) (a : Touching) → entries_refusal (run_of c) l e a ≡ 21

pub no_cell_refused : (c : CRun) → c.numbers.cells ≡ 0 → AllRefused c
unfolding look_refusal distant_refusal touching_refusal entries_refusal
no_cell_refused c e =
    let out = no_cell c e in
    record {
      look = λ l. out_of_range (run_of c) l true [] out;
      distant = λ l M a. out_of_range (run_of c) l _ _ out;
      touching = λ l M a. out_of_range (run_of c) l _ _ out;
      entries = λ l e a. out_of_range (run_of c) l _ _ out;
    }

-- ---- sparse rows

pub sparse_rows_stand : (e : EntryLists) (R C : ℕ) (l : SparseLists) → (let x = c_gathered (sparse_rows e R C l) in gathered x.refusal x.kept ≡ sparse_rows e R C l)
unfolding sparse_rows
sparse_rows_stand e R C l = go (sparse_refusal e R C l) (kept_of (values_at e) R C)
  where
    go : (v n : ℕ) → (let x = c_gathered (gathered v n) in gathered x.refusal x.kept ≡ gathered v n)
    go zero n = refl
    go (suc v) n = refl
