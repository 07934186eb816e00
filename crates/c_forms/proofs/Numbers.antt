-- The proofs to `specs/Numbers.antt`. Assumes nothing.
use Rattle.std.specs.Prelude.{ℕ, zero, suc, ◌≡◌, refl, Bool, true, false, List, [], ◌∷◌, Float}
use Rattle.lists.specs.Bool.{◌and◌, ◌or◌, and_left, and_right}
use Rattle.lists.specs.Refusals.{Check, refusal, unless}
use Rattle.function.specs.declared.Elements.{Elements}
use Rattle.plans.specs.declared.PlanNumbers.{PlanNumbers}
use Rattle.plans.specs.Planning.{Planning, Lists, plan_refusal, plan_answer, plan, plan_numbers}
use Rattle.runs.specs.Runs.{Run, Plan, EntryLists, found, accepted, reply, record_of, advance, look_refusal, distant_refusal, touching_refusal, entries_refusal, look, add_distant, add_touching, add_entries}
use Rattle.cell_pairs.specs.declared.WorkRecord.{WorkRecord}
use Rattle.lent_numbers.specs.Lent.{Touching, Distant}
use Rattle.sparse_lists.specs.Sparse.{SparseLists, values_at, kept_of, sparse_refusal, gathered, sparse_rows}
use Rattle.c_forms.specs.declared.CIntegrand.{CIntegrand}
use Rattle.c_forms.specs.declared.CRun.{CRun}
use Rattle.c_forms.specs.Forms.{run_of, c_planned, c_looked, c_added, c_gathered}
use Rattle.c_forms.specs.Numbers.{adding, among, gathering, looking, planning}

-- ---- what checks answer is 0 or the number of one of them

all_among : List ℕ → List Check → Bool
all_among ms [] = true
all_among ms (c ∷ cs) = among ms c.number and all_among ms cs

refusal_among : (ms : List ℕ) → among ms 0 ≡ true → (cs : List Check) → all_among ms cs ≡ true → among ms (refusal cs) ≡ true
unfolding refusal unless all_among
refusal_among ms z [] h = z
refusal_among ms z (c ∷ cs) h = go c.passes c.number (refusal cs) (and_left _ _ h) (refusal_among ms z cs (and_right _ _ h))
  where
    go : (b : Bool) (n rest : ℕ) → among ms n ≡ true → among ms rest ≡ true → among ms (unless b n rest) ≡ true
    go true n rest e f = f
    go false n rest e f = e

-- ---- the refusal of an answer in C is the number

planned_number_lem : (test trial : Elements) (f : CIntegrand) (n : ℕ) (p : PlanNumbers) → (c_planned test trial f (plan_answer n p)).refusal ≡ n
planned_number_lem test trial f zero p = refl
planned_number_lem test trial f (suc n) p = refl

looked_number : (c : CRun) (n : ℕ) (r : Run) (e : WorkRecord) → (c_looked c (reply n r r (found e))).refusal ≡ n
looked_number c zero r e = refl
looked_number c (suc n) r e = refl

added_number : (c : CRun) (n : ℕ) (r : Run) → (c_added c (reply n r (advance r) accepted)).refusal ≡ n
added_number c zero r = refl
added_number c (suc n) r = refl

gathered_number : (v n : ℕ) → (c_gathered (gathered v n)).refusal ≡ v
gathered_number zero n = refl
gathered_number (suc v) n = refl

-- ---- each function

pub plan_among : (test trial : Elements) (f : CIntegrand) (x : Planning) (l : Lists) → among planning (c_planned test trial f (plan x l)).refusal ≡ true
unfolding plan plan_refusal among all_among ◌and◌ ◌or◌
plan_among test trial f x l = rw (planned_number_lem test trial f (plan_refusal x l) (plan_numbers x)) (refusal_among planning refl _ refl)

pub look_among : (c : CRun) (l : Plan) → among looking (c_looked c (look (run_of c) l)).refusal ≡ true
unfolding look look_refusal among all_among ◌and◌ ◌or◌
look_among c l = rw (looked_number c (look_refusal (run_of c) l) (run_of c) (record_of (run_of c) l)) (refusal_among looking refl _ refl)

pub add_distant_among : (c : CRun) (l : Plan) (M : List Float) (a : Distant) → among adding (c_added c (add_distant (run_of c) l M a)).refusal ≡ true
unfolding add_distant distant_refusal among all_among ◌and◌ ◌or◌
add_distant_among c l M a = rw (added_number c (distant_refusal (run_of c) l M a) (run_of c)) (refusal_among adding refl _ refl)

pub add_touching_among : (c : CRun) (l : Plan) (M : List Float) (a : Touching) → among adding (c_added c (add_touching (run_of c) l M a)).refusal ≡ true
unfolding add_touching touching_refusal among all_among ◌and◌ ◌or◌
add_touching_among c l M a = rw (added_number c (touching_refusal (run_of c) l M a) (run_of c)) (refusal_among adding refl _ refl)

pub add_entries_among : (c : CRun) (l : Plan) (e : EntryLists) (a : Touching) → among adding (c_added c (add_entries (run_of c) l e a)).refusal ≡ true
unfolding add_entries entries_refusal among all_among ◌and◌ ◌or◌
add_entries_among c l e a = rw (added_number c (entries_refusal (run_of c) l e a) (run_of c)) (refusal_among adding refl _ refl)

pub sparse_rows_among : (e : EntryLists) (R C : ℕ) (l : SparseLists) → among gathering (c_gathered (sparse_rows e R C l)).refusal ≡ true
unfolding sparse_rows sparse_refusal among all_among ◌and◌ ◌or◌
sparse_rows_among e R C l = rw (gathered_number (sparse_refusal e R C l) (kept_of (values_at e) R C)) (refusal_among gathering refl _ refl)
