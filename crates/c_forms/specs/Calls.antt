-- A list of calls as a host makes it through C: each call gets the run last handed back and the plan as planning left it, each add the same matrix, each
-- entries call the same three lists. What each call does is what its contract in C says. Assumes nothing.
use Rattle.std.specs.Prelude.{ℕ, zero, suc, List, [], ◌∷◌, ◌++◌, Float}
use Rattle.lists.specs.Fold.{over}
use Rattle.cell_pairs.specs.Records.{rec}
use Rattle.runs.specs.Runs.{Plan, EntryLists, look, add_distant, add_touching, add_entries, distant_matrix, touching_matrix, entries_written, Answer, found, accepted, refused}
use Rattle.runs.specs.Calls.{Call, looks, adds_distant, adds_touching, adds_entries}
use Rattle.c_forms.specs.declared.CRecord.{CRecord}
use Rattle.c_forms.specs.declared.CRun.{CRun}
use Rattle.c_forms.specs.declared.CLooked.{CLooked}
use Rattle.c_forms.specs.declared.CAdded.{CAdded}
use Rattle.c_forms.specs.Forms.{run_of, c_looked, c_added}

-- ---- what a host reads in an answer: `refusal` is 0 where the call is accepted

abbrev record_or : ℕ → CRecord → Answer
record_or zero e = found (rec e.pattern e.test_cell e.trial_cell)
record_or (suc n) e = refused (suc n)

abbrev pub looked_by : CLooked → Answer
looked_by x = record_or x.refusal x.«record»

abbrev accepted_or : ℕ → Answer
accepted_or zero = accepted
accepted_or (suc n) = refused (suc n)

abbrev pub added_by : CAdded → Answer
added_by x = accepted_or x.refusal

-- ---- a run

-- The run last handed back, the matrix, the entry lists, and the answers so far
pub record CProgress : Type 0 where
  pub run : CRun
  pub matrix : List Float
  pub lists : EntryLists
  pub answers : List Answer

-- one call
unfoldable pub c_call : Plan → Call → CProgress → CProgress
c_call l looks s =
    let x = c_looked s.run (look (run_of s.run) l) in
    record { run = x.run; matrix = s.matrix; lists = s.lists; answers = s.answers ++ (looked_by x ∷ []) }
c_call l (adds_distant a) s =
    let x = c_added s.run (add_distant (run_of s.run) l s.matrix a) in
    record { run = x.run; matrix = distant_matrix (run_of s.run) l s.matrix a; lists = s.lists; answers = s.answers ++ (added_by x ∷ []) }
c_call l (adds_touching a) s =
    let x = c_added s.run (add_touching (run_of s.run) l s.matrix a) in
    record { run = x.run; matrix = touching_matrix (run_of s.run) l s.matrix a; lists = s.lists; answers = s.answers ++ (added_by x ∷ []) }
c_call l (adds_entries a) s =
    let x = c_added s.run (add_entries (run_of s.run) l s.lists a) in
    record { run = x.run; matrix = s.matrix; lists = entries_written (run_of s.run) l s.lists a; answers = s.answers ++ (added_by x ∷ []) }

-- a list of calls, the first one first, from a run, a matrix and three lists
unfoldable pub c_call_all : Plan → List Call → CRun → List Float → EntryLists → CProgress
c_call_all l calls c M e = over (c_call l) calls (record { run = c; matrix = M; lists = e; answers = [] })
