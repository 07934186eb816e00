-- What `replay` hands back and leaves: the position, the matrix, the entry lists and the answers of the machine of the mesh; nothing is played where planning
-- refuses. Assumes nothing.
use Rattle.std.specs.Prelude.{◌≡◌, ℕ, zero, suc, Bool, List, Float, Result, Ok, Err}
use Rattle.refusals.specs.declared.Refusal.{Refusal}
use Rattle.refusals.specs.Numbers.{number_of}
use Rattle.lent_numbers.specs.Forms.{touching_of, distant_of}
use Rattle.plans.specs.Planning.{Planning, Lists, plan_refusal, unless_refused}
use Rattle.runs.specs.Runs.{Run, EntryLists}
use Rattle.runs.specs.Calls.{Call, looks, adds_distant, adds_touching, adds_entries}
use Rattle.runs.specs.Machine.{State, machine_of, machine_run}
use Rattle.runs.specs.Beside.{run_at}
use Rattle.boundary_assemblers.specs.declared.Run.{Run as TheRun}
use Rattle.boundary_assemblers.specs.Forms.{run_of}
use Rattle.replay.specs.declared.Call.{Call as LentCall}
use Rattle.replay.specs.declared.Call.TheVariants.{Look, AddDistant, AddTouching, AddEntries}
use Rattle.scatter.specs.Lent.{SameLists}
use Rattle.replay.specs.declared.Calls.{Calls}
use Rattle.replay.specs.declared.Written.{Written}
use Rattle.replay.specs.Encoding.{calls_of, call_count, put_answers}

-- What it answers: the run after the last call, or planning's refusal
pub data Outcome : Type 0 where
  played : Run → Outcome
  refused : ℕ → Outcome

abbrev pub outcome_of : Result TheRun Refusal → Outcome
outcome_of (Ok r) = played (run_of r)
outcome_of (Err n) = refused (number_of n)

-- a call, by what it is lent
abbrev pub call_lent : LentCall → Call
call_lent Look = looks
call_lent (AddDistant a) = adds_distant (distant_of a)
call_lent (AddTouching a) = adds_touching (touching_of a)
call_lent (AddEntries a) = adds_entries (touching_of a)

-- the calls that are played, where the answers have room for them
abbrev pub calls_lent : Calls → List ℕ → List Call
calls_lent calls answers = calls_of calls.numbers.now calls.pool.now (call_count calls.numbers.now answers)

-- what is written is lent as it was
pub record SameWritten (old new : Written) : Type 0 where
  pub matrix : new.matrix.ghost_name ≡ old.matrix.ghost_name
  pub entries : SameLists old.entries new.entries
  pub answers : new.answers.ghost_name ≡ old.answers.ghost_name

-- 0 is no refusal
abbrev pub outcome : ℕ → Run → Outcome
outcome zero r = played r
outcome (suc n) r = refused (suc n)

-- of a run of either kind
module _ (x : Planning) (l : Lists) (entries : Bool) (calls : List Call) (M : List Float) (lists : EntryLists) where
  abbrev pub ended : State
  ended = machine_run (machine_of x entries) calls M lists

  -- the run at the machine's position, or planning's refusal
  unfoldable pub replayed : Outcome
  replayed = outcome (plan_refusal x l) (run_at x entries ended.position)

  -- the machine's matrix, entry lists and answers
  unfoldable pub replayed_matrix : List Float
  replayed_matrix = unless_refused (plan_refusal x l) ended.matrix M

  unfoldable pub replayed_lists : EntryLists
  replayed_lists = unless_refused (plan_refusal x l) ended.lists lists

  unfoldable pub replayed_answers : List ℕ → List ℕ
  replayed_answers before = unless_refused (plan_refusal x l) (put_answers ended.answers before) before
