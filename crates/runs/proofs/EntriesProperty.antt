-- The proofs to `specs/EntriesProperty.antt`. Assumes nothing.
use Rattle.std.specs.Prelude.{◌<◌, ◌≡◌, take, Float}
use Rattle.std.proofs.Common.{arith, ◌∙◌}
use Rattle.std.proofs.Math.Path.{refl, sym, ap}
use Rattle.std.proofs.Math.Bool.{true}
use mathlib.Core.List.{List, map}
use Rattle.std.proofs.Math.ListN.{length}
use Rattle.std.proofs.lemmas.List.{length-map}
use Rattle.lent_numbers.specs.Lent.{Touching}
use Rattle.cell_pairs.specs.WorkList.{touching_part, distant_pairs}
use Rattle.plans.specs.declared.PlanNumbers.{PlanNumbers}
use Rattle.plans.specs.Planning.{ready, Planning, Lists, plan, plan_lists}
use Rattle.plans.specs.Accepted.{Accepted, accepted, ready_is}
use Rattle.runs.specs.Runs.{EntryLists, begin_entries}
use Rattle.runs.specs.Calls.{Call, adds_entries, Progress, call_all}
use Rattle.runs.specs.Machine.{machine_along, machine_of, lists_sized, add_pair, write_pair, fresh, machine_run}
use Rattle.runs.specs.Beside.{run_at, embed}
use Rattle.runs.specs.Listed.{plan_in}
use Rattle.runs.proofs.Listed.{machine_beside, machine_between}
use Rattle.runs.specs.Reading.{acceptances, taken, lent_to, answer_at, entries_of}
use Rattle.runs.proofs.ReadingFacts.{reading, pairs_from, look_answer}
use Rattle.runs.proofs.EntriesFacts.{taken_entries, some_sized, some_touching, entries_keep, entries_written_holds, touching_long, entries_all}
use Rattle.runs.specs.EntriesProperty.{EntriesProperty}

module _ (x : Planning) (l : Lists) (n : PlanNumbers) (e : plan x l ≡ ready n) (calls : List Call) (M : List Float) (lists : EntryLists) where
  -- so it is wherever answers, run, matrix and lists are the machine's
  pub property : (q : Progress) → q ≡ embed x true (machine_run (machine_of x true) calls M lists) → EntriesProperty x calls M lists q
  unfolding machine_along run_at
  property q same =
      let m = machine_of x true in
      let ok : Accepted x l = accepted x l (ready_is e).none in
      let r = reading m calls M lists in
      let answers = (machine_run m calls M lists).answers in
      let ws : List Touching = lent_to (taken calls answers) in
      let only : taken calls answers ≡ map adds_entries ws = rw r.answers (taken_entries m refl calls (fresh m M lists)) in
      let many : length ws ≡ acceptances answers = sym (length-map ws adds_entries) ∙ ap length (sym only) ∙ r.count in
      let most = (machine_between x l n e true calls M lists).to in
      let written : (machine_run m calls M lists).lists ≡ entries_of m (take (length ws) (touching_part x.mesh)) ws lists =
      r.lists ∙ ap (λ (cs : List Call). pairs_from (write_pair m) (distant_pairs x.mesh) cs lists) only
      ∙ entries_written_holds ok lists ws (omega (arith, many, most, r.position, touching_long ok)) in
      let enough : 0 < length ws → lists_sized m lists ≡ true =
      λ some. some_sized m refl calls M lists answers _ (λ k h. r.each k (omega (arith, r.answered))) (omega (arith, many)) in
      rw same
      (record {
        machine = refl;
        answered = r.answered;
        position = r.position;
        within = most;
        matrix = r.matrix ∙ ap (λ (cs : List Call). pairs_from (add_pair m) (distant_pairs x.mesh) cs M) only ∙ entries_keep m ws _ M;
        written = rw (← many) written;
        called = many;
        all = λ end.
            let whole : length ws ≡ length (touching_part x.mesh) = omega (arith, many, end, r.position, touching_long ok) in
            written ∙ entries_all ok lists ws (enough (omega (arith, whole, some_touching ok))) whole;
        looked = λ k h c. r.each k h ∙ ap (answer_at m _ M lists) c ∙ look_answer m _ M lists;
        each = r.each;
      })

  pub entries_property : EntriesProperty x calls M lists (call_all (plan_in x (plan_lists x l)) calls (begin_entries n) M lists)
  entries_property = property _ (machine_beside x l n e true calls M lists)
