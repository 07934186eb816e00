-- The like of the third property for an entries run: for every planning that is accepted, any three starting lists and every list of calls. Assumes nothing.
use Rattle.std.specs.Prelude.{ℕ, ◌+◌, ◌*◌, ◌<◌, ◌≤◌, ◌≡◌, cond, get_or, take, eqb, Float}
use Rattle.std.proofs.Math.Bool.{true}
use mathlib.Core.List.{List, flat_map}
use Rattle.std.proofs.Math.ListN.{length}
use Rattle.cell_pairs.specs.Records.{rec}
use Rattle.cell_pairs.specs.WorkList.{touching_part, distant_pairs}
use Rattle.plans.specs.Planning.{Planning, work_records}
use Rattle.runs.specs.Runs.{EntryLists, entry_lists, found, refused}
use Rattle.runs.specs.Calls.{Call, looks, Progress}
use Rattle.runs.specs.Machine.{machine_of, machine_run}
use Rattle.runs.specs.Beside.{embed}
use Rattle.runs.specs.Reading.{acceptances, taken, lent_to, answer_at, record_rows, record_columns, record_values, entries_of}

pub record EntriesProperty (x : Planning) (calls : List Call) (M : List Float) (lists : EntryLists) (q : Progress) : Type 0 where
  -- every answer, the run, every number of the matrix and of the entry lists are those of the machine of the mesh
  pub machine : q ≡ embed x true (machine_run (machine_of x true) calls M lists)
  -- each call has one answer; the position is N and the number of acceptances among them, and at most C·C
  pub answered : length q.answers ≡ length calls
  pub position : q.run.position ≡ distant_pairs x.mesh + acceptances q.answers
  pub within : q.run.position ≤ x.mesh.cells * x.mesh.cells
  -- the matrix stays
  pub matrix : q.matrix ≡ M
  -- the lists hold, from their front on, row, column and value of the local entries of the first touching records in work order, as many as there are
  -- acceptances, those of record k from what accepted call k was lent; what stands behind them stays
  pub written : q.lists ≡ entries_of (machine_of x true) (take (acceptances q.answers) (touching_part x.mesh)) (lent_to (taken calls q.answers)) lists
  -- an accepted call is an entries call
  pub called : length (lent_to (taken calls q.answers)) ≡ acceptances q.answers
  -- all together: where p = C·C, the lists are the entries of the touching records
  pub all : q.run.position ≡ x.mesh.cells * x.mesh.cells
      → (let m = machine_of x true in
      q.lists
      ≡ entry_lists (flat_map (record_rows m) (touching_part x.mesh)) (flat_map (record_columns m) (touching_part x.mesh))
      (record_values m (touching_part x.mesh) (lent_to (taken calls q.answers))))
  -- each look answers the record at the position that the acceptances before it give, or 20 where that is C·C
  pub looked : (k : ℕ) → k < length calls → get_or calls k looks ≡ looks
      → (let p = distant_pairs x.mesh + acceptances (take k q.answers) in
      get_or q.answers k (refused 0) ≡ cond (eqb p (x.mesh.cells * x.mesh.cells)) (refused 20) (found (get_or (work_records x) p (rec 0 0 0))))
  -- each call is answered there by the first of its checks that turns it down, or by acceptance
  pub each : (k : ℕ) → k < length calls
      → get_or q.answers k (refused 0)
      ≡ answer_at (machine_of x true) (distant_pairs x.mesh + acceptances (take k q.answers)) M lists (get_or calls k looks)
