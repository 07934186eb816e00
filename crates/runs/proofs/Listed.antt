-- The proofs to `specs/Listed.antt`. Assumes nothing.
use Rattle.std.specs.Prelude.{ℕ, ◌<◌, ◌≡◌, Bool, false, not, List, get_or, drop, Float}
use Rattle.std.proofs.Common.{arith, sym, ap, subst, ◌∙◌, ⊎_elim, lt-ltb, le-ltb, eq-eqb, ne_eqb}
use Rattle.std.proofs.Math.Seq.{drop-append_seam}
use Rattle.lists.specs.Bounded.{lt_or_le}
use Rattle.cell_pairs.specs.Records.{rec, pattern_count, distant_pattern}
use Rattle.cell_pairs.specs.WorkList.{distant_part, touching_part, work_list, distant_pairs}
use Rattle.cell_pairs.specs.Blocks.{blocks_of, Blocked}
use Rattle.cell_pairs.proofs.BlocksFacts.{touching_blocked}
use Rattle.cell_pairs.specs.WorkRecords.{Distant, Touching}
use Rattle.cell_pairs.proofs.Counting.{length_distant, length_work, record_distant, record_touching, records_right}
use Rattle.plans.specs.declared.PlanNumbers.{PlanNumbers}
use Rattle.plans.specs.Planning.{ready, Planning, Lists, plan, plan_refusal, plan_lists, written_lists, work_records}
use Rattle.plans.specs.Accepted.{Accepted, accepted, counted, ready_is}
use Rattle.runs.specs.Runs.{EntryLists, is_touching, is_distant, begun}
use Rattle.runs.specs.Calls.{Call, call_all}
use Rattle.runs.specs.Machine.{machine_of, machine_run}
use Rattle.runs.specs.Beside.{Along, pair_count, plan_along, embed, Between}
use Rattle.runs.proofs.Beside.{beside, between}
use Rattle.runs.specs.Listed.{plan_in}

-- ---- what a pattern says

near_distant : (q : ℕ) → q < pattern_count → is_distant q ≡ false
near_distant q h = ne_eqb q distant_pattern (λ (e : q ≡ distant_pattern). omega arith)

far_touching : (q : ℕ) → q ≡ distant_pattern → is_touching q ≡ false
far_touching q e = le-ltb q pattern_count (omega arith)

-- the records from N on are the touching ones
pub touching_behind_lem : {x : Planning} {l : Lists} → Accepted x l → drop (distant_pairs x.mesh) (work_records x) ≡ touching_part x.mesh
unfolding work_list
touching_behind_lem {x} ok =
    ap (λ (n : ℕ). drop n (work_records x)) (sym (length_distant x.mesh x.batch _ _ (counted ok)))
    ∙ drop-append_seam (distant_part x.mesh x.batch _ _) (touching_part x.mesh)

pub listed : {x : Planning} {l : Lists} → Accepted x l → Along x (work_records x)
listed {x} ok =
    record {
      long = length_work x.mesh x.batch _ _ (counted ok);
      test = λ p below. (records_right x.mesh x.batch _ _ (counted ok) p below).test_cell;
      trial = λ p below. (records_right x.mesh x.batch _ _ (counted ok) p below).trial_cell;
      distant = λ p below.
          kind p below _ (λ d. eq-eqb _ _ d.marked ∙ sym (ap not d.apart)) (λ t. near_distant _ t.known ∙ sym (ap not t.meet));
      touching = λ p below.
          kind p below _ (λ d. far_touching _ d.marked ∙ sym d.apart) (λ t. lt-ltb _ _ t.known ∙ sym t.meet);
      blocked = subst (Blocked x.mesh (blocks_of x.mesh)) (sym (touching_behind_lem ok)) (touching_blocked x.mesh (counted ok).mesh);
    }
  where
    -- the first N records are distant, those that follow are touching
    kind : (p : ℕ) → p < pair_count x → (P : Type 0) → (Distant x.mesh (get_or (work_records x) p (rec 0 0 0)) → P) → (Touching x.mesh (get_or (work_records x) p (rec 0 0 0)) → P) → P
    kind p below P far near =
        ⊎_elim (λ h. far (record_distant x.mesh x.batch _ _ (counted ok) p h)) (λ h. near (record_touching x.mesh x.batch _ _ (counted ok) p h below))
        (lt_or_le p (distant_pairs x.mesh))

plan_left : (x : Planning) (l : Lists) → plan_refusal x l ≡ 0 → plan_in x (plan_lists x l) ≡ plan_along x (work_records x)
unfolding plan_lists written_lists plan_along
plan_left x l e = rw e

module _ (x : Planning) (l : Lists) (n : PlanNumbers) (e : plan x l ≡ ready n) (entries : Bool) (calls : List Call) (M : List Float) (lists : EntryLists) where
  -- For all planning arguments that planning accepts, a run of either kind begun from its numbers, every starting matrix, any three starting lists and every
  -- list of calls: folding what the contracts say, on the plan that planning leaves, gives answers, position, matrix and lists of the machine of the mesh
  pub machine_beside : call_all (plan_in x (plan_lists x l)) calls (begun entries n) M lists ≡ embed x entries (machine_run (machine_of x entries) calls M lists)
  machine_beside =
      let r = ready_is e in
      let ok : Accepted x l = accepted x l r.none in
      rw (plan_left x l r.none, r.numbers) (beside x l ok (work_records x) (listed ok) entries calls M lists)

  -- the machine's position is at most C·C, and in an entries run from N on
  pub machine_between : Between x entries (machine_run (machine_of x entries) calls M lists).position
  machine_between =
      let ok : Accepted x l = accepted x l (ready_is e).none in
      between x l ok (work_records x) (listed ok) entries calls M lists
