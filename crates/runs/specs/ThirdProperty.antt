-- The third property, for every planning that is accepted, every starting matrix and every list of calls: of the contracts of the calls, folded over the
-- list from a fresh dense run on the plan that planning leaves. Assumes nothing.
use Rattle.std.specs.Prelude.{ℕ, ◌*◌, ◌<◌, ◌≤◌, ◌≡◌, cond, take, eqb, Float}
use Rattle.std.proofs.Math.Bool.{false}
use mathlib.Core.List.{List}
use Rattle.std.proofs.Math.ListN.{length, get_or}
use Rattle.std.specs.Float.{nan}
use Rattle.lists.specs.Total.{count}
use Rattle.cell_pairs.specs.Records.{rec}
use Rattle.cell_pairs.specs.WorkRecords.{of_pair}
use Rattle.plans.specs.Planning.{Planning, work_records}
use Rattle.runs.specs.Runs.{EntryLists, found, refused}
use Rattle.runs.specs.Calls.{Call, looks, Progress}
use Rattle.runs.specs.Machine.{machine_of, machine_run}
use Rattle.runs.specs.Beside.{embed}
use Rattle.runs.specs.Reading.{acceptances, taken, plus_all, entries_from, answer_at}

pub record ThirdProperty (x : Planning) (calls : List Call) (M : List Float) (lists : EntryLists) (q : Progress) : Type 0 where
  -- every answer, the run, every number of the matrix and of the entry lists are those of the machine of the mesh
  pub machine : q ≡ embed x false (machine_run (machine_of x false) calls M lists)
  -- each call has one answer; the position p is the number of acceptances among them, and at most C·C
  pub answered : length q.answers ≡ length calls
  pub position : q.run.position ≡ acceptances q.answers
  pub within : q.run.position ≤ x.mesh.cells * x.mesh.cells
  -- each entry of the matrix is its starting number plus, in work order, the local entries of just the first p pairs: those of pair k from what accepted
  -- add k was lent
  pub size : length q.matrix ≡ length M
  pub entries : (at : ℕ) → at < length M
      → get_or q.matrix at nan ≡ plus_all (entries_from (machine_of x false) 0 (taken calls q.answers) at) (get_or M at nan)
  -- as many adds were taken as p says, so the pairs that entered are those of the first p records: no ordered pair of cells has entered twice, and where
  -- p = C·C each has entered once
  pub all_taken : length (taken calls q.answers) ≡ q.run.position
  pub never_twice : (i j : ℕ) → i < x.mesh.cells → j < x.mesh.cells → count (of_pair i j) (take q.run.position (work_records x)) ≤ 1
  pub each_once : q.run.position ≡ x.mesh.cells * x.mesh.cells → (i j : ℕ) → i < x.mesh.cells → j < x.mesh.cells
      → count (of_pair i j) (take q.run.position (work_records x)) ≡ 1
  -- each look answers the record at the number of acceptances before it, or 20 where that number is C·C
  pub looked : (k : ℕ) → k < length calls → get_or calls k looks ≡ looks
      → (let p = acceptances (take k q.answers) in
      get_or q.answers k (refused 0) ≡ cond (eqb p (x.mesh.cells * x.mesh.cells)) (refused 20) (found (get_or (work_records x) p (rec 0 0 0))))
  -- each call, an add among them, is answered there by the first of its checks that turns it down, or by acceptance
  pub each : (k : ℕ) → k < length calls
      → get_or q.answers k (refused 0) ≡ answer_at (machine_of x false) (acceptances (take k q.answers)) M lists (get_or calls k looks)
