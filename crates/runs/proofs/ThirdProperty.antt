-- The proofs to `specs/ThirdProperty.antt`. Assumes nothing.
use Rattle.std.specs.Prelude.{ℕ, ◌*◌, ◌<◌, ◌≡◌, refl, take, Float}
use Rattle.std.proofs.Math.Nat.{zero-add}
use Rattle.std.proofs.Common.{arith, ◌∙◌, take_all}
use Rattle.std.proofs.Math.Path.{sym, ap}
use Rattle.std.proofs.Math.Bool.{false}
use mathlib.Core.List.{List}
use Rattle.std.proofs.Math.ListN.{length, get_or}
use Rattle.std.specs.Float.{nan}
use Rattle.lists.specs.Total.{count}
use Rattle.cell_pairs.specs.WorkRecords.{of_pair}
use Rattle.cell_pairs.proofs.Counting.{once, length_work}
use Rattle.plans.specs.declared.PlanNumbers.{PlanNumbers}
use Rattle.plans.specs.Planning.{ready, Planning, Lists, plan, plan_lists, work_records}
use Rattle.plans.specs.Accepted.{Accepted, accepted, counted, ready_is}
use Rattle.runs.specs.Runs.{EntryLists, refused, begin}
use Rattle.runs.specs.Calls.{Call, looks, Progress, call_all}
use Rattle.runs.specs.Machine.{machine_along, machine_of, machine_run}
use Rattle.runs.specs.Beside.{run_at, embed}
use Rattle.runs.specs.Listed.{plan_in}
use Rattle.runs.proofs.Listed.{machine_beside, machine_between}
use Rattle.runs.specs.Reading.{acceptances, answer_at}
use Rattle.runs.proofs.ReadingFacts.{count_take, reading, pairs_place, length_pairs, look_answer}
use Rattle.runs.specs.ThirdProperty.{ThirdProperty}

module _ (x : Planning) (l : Lists) (n : PlanNumbers) (e : plan x l ≡ ready n) (calls : List Call) (M : List Float) (lists : EntryLists) where
  -- so it is wherever answers, run, matrix and lists are the machine's
  pub property : (q : Progress) → q ≡ embed x false (machine_run (machine_of x false) calls M lists) → ThirdProperty x calls M lists q
  unfolding machine_along run_at
  property q same =
      let m = machine_of x false in
      let r = reading m calls M lists in
      rw same
      (record {
        machine = refl;
        answered = r.answered;
        position = r.position ∙ zero-add _;
        within = (machine_between x l n e false calls M lists).to;
        size = ap length r.matrix ∙ length_pairs m 0 _ M;
        entries = λ at h. ap (λ (A : List Float). get_or A at nan) r.matrix ∙ pairs_place m 0 _ M at h;
        all_taken = r.count ∙ sym (r.position ∙ zero-add _);
        never_twice = λ i j hi hj. omega (arith, count_take (of_pair i j) (machine_run m calls M lists).position (work_records x), once_all i j hi hj);
        each_once = λ end i j hi hj. rw end (ap (count (of_pair i j)) (take_all (x.mesh.cells * x.mesh.cells) (work_records x) (omega (arith, work_long))) ∙ once_all i j hi hj);
        looked = λ k h c. each k h ∙ ap (answer_at m _ M lists) c ∙ look_answer m _ M lists;
        each = each;
      })
    where
      ok : Accepted x l
      ok = accepted x l (ready_is e).none

      work_long : length (work_records x) ≡ x.mesh.cells * x.mesh.cells
      work_long = length_work x.mesh x.batch _ _ (counted ok)

      once_all : (i j : ℕ) → i < x.mesh.cells → j < x.mesh.cells → count (of_pair i j) (work_records x) ≡ 1
      once_all = once x.mesh x.batch _ _ (counted ok)

      each : (k : ℕ) → k < length calls
          → (let answers = (machine_run (machine_of x false) calls M lists).answers in
          get_or answers k (refused 0) ≡ answer_at (machine_of x false) (acceptances (take k answers)) M lists (get_or calls k looks))
      each k h =
          (reading (machine_of x false) calls M lists).each k h
          ∙ ap (λ (p : ℕ). answer_at (machine_of x false) p M lists (get_or calls k looks)) (zero-add _)

  pub third_property : ThirdProperty x calls M lists (call_all (plan_in x (plan_lists x l)) calls (begin n) M lists)
  third_property = property _ (machine_beside x l n e false calls M lists)
