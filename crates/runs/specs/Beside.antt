-- The program beside the machine: on any list of calls, along any list of records that is as `Along` asks, begun from planning's numbers, the program's
-- answers, position, matrix and entry lists are the machine's. Assumes nothing.
use Prim.Native.Nat.{ℕ, ◌*◌, ◌≤◌, ◌<◌}
use Rattle.std.proofs.Math.Path.{◌≡◌}
use Rattle.std.specs.Prelude.{Bool, drop}
use Rattle.std.proofs.Math.Bool.{true, not}
use mathlib.Core.List.{List}
use Rattle.std.proofs.Math.ListN.{length, get_or}
use Rattle.dof_numbering.specs.Numbering.{dof_list}
use Rattle.cell_pairs.specs.Patterns.{touch}
use Rattle.cell_pairs.specs.declared.WorkRecord.{WorkRecord}
use Rattle.cell_pairs.specs.Records.{rec, flat}
use Rattle.cell_pairs.specs.WorkList.{distant_pairs}
use Rattle.cell_pairs.specs.Blocks.{blocks_of, Blocked}
use Rattle.plans.specs.Planning.{Planning, plan_numbers, test_space, trial_space}
use Rattle.runs.specs.Runs.{Run, Plan, is_touching, is_distant}
use Rattle.runs.specs.Calls.{Progress}
use Rattle.runs.specs.Machine.{State}

-- C·C
abbrev pub pair_count : Planning → ℕ
pair_count x = x.mesh.cells * x.mesh.cells

-- What the theorem asks of a list of records: there are C·C, of cells of the mesh, a pattern says whether its cells share a vertex, and those from N on come
-- block after block of the pattern table
pub record Along (x : Planning) (W : List WorkRecord) : Type 0 where
  pub long : length W ≡ pair_count x
  pub test : (p : ℕ) → p < pair_count x → (get_or W p (rec 0 0 0)).test < x.mesh.cells
  pub trial : (p : ℕ) → p < pair_count x → (get_or W p (rec 0 0 0)).trial < x.mesh.cells
  pub distant : (p : ℕ) → p < pair_count x
      → is_distant (get_or W p (rec 0 0 0)).pattern ≡ not (touch x.mesh (get_or W p (rec 0 0 0)).test (get_or W p (rec 0 0 0)).trial)
  pub touching : (p : ℕ) → p < pair_count x
      → is_touching (get_or W p (rec 0 0 0)).pattern ≡ touch x.mesh (get_or W p (rec 0 0 0)).test (get_or W p (rec 0 0 0)).trial
  pub blocked : Blocked x.mesh (blocks_of x.mesh) (drop (distant_pairs x.mesh) W)

-- the plan along the list, and a run of either kind begun from planning's numbers
unfoldable pub plan_along : Planning → List WorkRecord → Plan
plan_along x W =
    let C = x.mesh.cells in
    record { kinds = x.mesh.kinds; test_dofs = dof_list (test_space x) C; trial_dofs = dof_list (trial_space x) C; work = flat W }

unfoldable pub run_at : Planning → Bool → ℕ → Run
run_at x entries p = record { numbers = plan_numbers x; entries = entries; position = p }

-- the program where the machine stands
abbrev pub embed : Planning → Bool → State → Progress
embed x entries s = record { run = run_at x entries s.position; matrix = s.matrix; lists = s.lists; answers = s.answers }

-- p is at most C·C, and in an entries run from N on
pub record Between (x : Planning) (entries : Bool) (p : ℕ) : Type 0 where
  pub from : entries ≡ true → distant_pairs x.mesh ≤ p
  pub to : p ≤ pair_count x
