-- What the program's structs and answers stand for: of each answer the paper's, and the run that is handed back. Assumes nothing.
use Rattle.std.specs.Prelude.{ℕ, List, get_or, take, drop, Result, Ok, Err, ⊤}
use Rattle.refusals.specs.declared.Refusal.{Refusal}
use Rattle.refusals.specs.Numbers.{number_of}
use Rattle.grid.specs.Cells.{before}
use Rattle.function.specs.declared.Elements.{Elements}
use Rattle.function.specs.Elements.{cell_dim}
use Rattle.cell_pairs.specs.declared.WorkRecord.{WorkRecord}
use Rattle.plans.specs.declared.Plan.{Plan as LentPlan}
use Rattle.runs.specs.Runs as Runs
use Rattle.runs.specs.Runs.{Plan, Answer, Reply, plan_of, entry_lists, found, accepted, record_of}
use Rattle.boundary_assemblers.specs.declared.Run.{Run}
use Rattle.scatter.specs.declared.EntryLists.{EntryLists}
use Rattle.boundary_assemblers.specs.declared.Cell.{Cell}
use Rattle.boundary_assemblers.specs.declared.Pair.{Pair}

abbrev pub run_of : Run → Runs.Run
run_of r = record { numbers = r.numbers; entries = r.entries; position = r.position }

abbrev pub plan_lent : LentPlan → Plan
plan_lent p = plan_of p.kinds.now p.test_dofs.now p.trial_dofs.now p.work.now

abbrev pub entries_lent : EntryLists → Runs.EntryLists
entries_lent l = entry_lists l.rows.now l.columns.now l.values.now

-- an answer, of which `accepts` says what a call that is not turned down answers
abbrev pub answer_of : {A : Type 0} → (A → Answer) → Result A Refusal → Answer
answer_of accepts (Ok a) = accepts a
answer_of accepts (Err n) = Runs.refused (number_of n)

-- what look answers, with the run that it hands back
abbrev pub looked_of : Run × Result WorkRecord Refusal → Reply
looked_of g = record { run = run_of g.0; answer = answer_of found g.1 }

-- what an add or the entries call answers, with the run that it hands back
abbrev pub added_of : Run × Result ⊤ Refusal → Reply
added_of g = record { run = run_of g.0; answer = answer_of (λ _. accepted) g.1 }

-- a cell of one side, by the kind list and the elements
abbrev pub cell_at : List ℕ → Elements → ℕ → Cell
cell_at ks es i = record { kind = get_or ks i 0; start = before (cell_dim es) ks i; dim = cell_dim es (get_or ks i 0) }

-- its DOFs, in the DOF list of that side
abbrev pub dofs_at : List ℕ → Cell → List ℕ
dofs_at dofs c = take c.dim (drop c.start dofs)

-- record p, and its two cells
abbrev pub pair_at : Runs.Run → Plan → Pair
pair_at r l =
    record {
      item = record_of r l;
      test = cell_at l.kinds r.numbers.test (record_of r l).test;
      trial = cell_at l.kinds r.numbers.trial (record_of r l).trial;
    }
