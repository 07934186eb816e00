-- A list of calls as the program takes it: each call gets the run last handed back and the plan as planning left it, each add the same matrix, each entries
-- call the same three lists. What each call does is what its contract says (`Runs`). Assumes nothing.
use Rattle.std.specs.Prelude.{List, [], ◌∷◌, ◌++◌, Float}
use Rattle.lists.specs.Fold.{over}
use Rattle.lent_numbers.specs.Lent.{Touching, Distant}
use Rattle.runs.specs.Runs.{Run, Plan, EntryLists, Answer, Reply, look, add_distant, add_touching, add_entries, distant_matrix, touching_matrix, entries_written}

-- A call, with its arguments other than run, plan, matrix and entry lists
pub data Call : Type 0 where
  looks : Call
  adds_distant : Distant → Call
  adds_touching : Touching → Call
  adds_entries : Touching → Call

-- The run last handed back, the matrix, the entry lists, and the answers so far
pub record Progress : Type 0 where
  pub run : Run
  pub matrix : List Float
  pub lists : EntryLists
  pub answers : List Answer

module _ (l : Plan) where
  -- what a call hands back
  unfoldable pub reply_to : Call → Progress → Reply
  reply_to looks s = look s.run l
  reply_to (adds_distant a) s = add_distant s.run l s.matrix a
  reply_to (adds_touching a) s = add_touching s.run l s.matrix a
  reply_to (adds_entries a) s = add_entries s.run l s.lists a

  -- the matrix after it: a look and an entries call are not lent it
  unfoldable pub matrix_after : Call → Progress → List Float
  matrix_after looks s = s.matrix
  matrix_after (adds_distant a) s = distant_matrix s.run l s.matrix a
  matrix_after (adds_touching a) s = touching_matrix s.run l s.matrix a
  matrix_after (adds_entries a) s = s.matrix

  -- the entry lists after it: the entries call alone is lent them
  unfoldable pub lists_after : Call → Progress → EntryLists
  lists_after looks s = s.lists
  lists_after (adds_distant a) s = s.lists
  lists_after (adds_touching a) s = s.lists
  lists_after (adds_entries a) s = entries_written s.run l s.lists a

  -- one call
  unfoldable pub call : Call → Progress → Progress
  call c s = record { run = (reply_to c s).run; matrix = matrix_after c s; lists = lists_after c s; answers = s.answers ++ ((reply_to c s).answer ∷ []) }

  -- a list of calls, the first one first, from a run, a matrix and three lists
  unfoldable pub call_all : List Call → Run → List Float → EntryLists → Progress
  call_all calls r M e = over call calls (record { run = r; matrix = M; lists = e; answers = [] })
