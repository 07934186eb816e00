-- The proofs to `specs/SparseProperty.antt`. Assumes nothing.
use Rattle.std.specs.Prelude.{ℕ, ◌*◌, ◌≡◌, Float}
use Rattle.std.proofs.Common.{arith, ◌∙◌}
use Rattle.std.proofs.Math.Bool.{true}
use Rattle.std.proofs.Math.Path.{ap}
use mathlib.Core.List.{List}
use Rattle.std.proofs.Math.ListN.{length}
use Rattle.lent_numbers.specs.Lent.{Touching}
use Rattle.cell_pairs.specs.WorkList.{touching_part}
use Rattle.plans.specs.declared.PlanNumbers.{PlanNumbers}
use Rattle.plans.specs.Planning.{ready, Planning, Lists, plan, plan_lists, plan_numbers}
use Rattle.plans.specs.Accepted.{Accepted, accepted, ready_is}
use Rattle.runs.specs.Runs.{EntryLists, begin_entries}
use Rattle.runs.specs.Calls.{Call, Progress, call_all}
use Rattle.runs.specs.Machine.{machine_along}
use Rattle.runs.specs.Listed.{plan_in}
use Rattle.runs.specs.Reading.{taken, lent_to}
use Rattle.runs.proofs.EntriesFacts.{touching_long}
use Rattle.runs.specs.EntriesProperty.{EntriesProperty}
use Rattle.runs.proofs.EntriesProperty.{entries_property}
use Rattle.sparse_lists.specs.Sparse.{values_at, entries_fit}
use Rattle.sparse_lists.proofs.RunFacts.{pairs_fit, pairs_held, gathers_known}
use Rattle.sparse_lists.specs.SparseProperty.{SparseProperty, touching_at}

module _ (x : Planning) (l : Lists) (n : PlanNumbers) (e : plan x l ≡ ready n) (calls : List Call) (M : List Float) (lists : EntryLists) where
  -- so it is wherever the calls have left what an entries run leaves, and p = C·C
  pub sparse_of : {q : Progress} → EntriesProperty x calls M lists q → q.run.position ≡ x.mesh.cells * x.mesh.cells → SparseProperty x n calls q
  unfolding plan_numbers machine_along
  sparse_of {q} p finished =
      let ws : List Touching = lent_to (taken calls q.answers) in
      let ok : Accepted x l = accepted x l (ready_is e).none in
      let called : length ws ≡ length (touching_part x.mesh) = omega (arith, p.called, p.position, finished, touching_long ok) in
      let fit : entries_fit q.lists n.rows n.columns ≡ true = rw (p.all finished, (ready_is e).numbers) (pairs_fit ok ws called) in
      let held : (r c : ℕ) → values_at q.lists r c ≡ touching_at x calls q r c = λ r c. ap (λ (f : EntryLists). values_at f r c) (p.all finished) ∙ pairs_held ok ws called r c in
      record {
        called = called;
        fit = fit;
        held = held;
        gathers = gathers_known q.lists (touching_at x calls q) n.rows n.columns fit held;
      }

  pub sparse_property : (let q = call_all (plan_in x (plan_lists x l)) calls (begin_entries n) M lists in
      q.run.position ≡ x.mesh.cells * x.mesh.cells → SparseProperty x n calls q)
  sparse_property = sparse_of (entries_property x l n e calls M lists)
