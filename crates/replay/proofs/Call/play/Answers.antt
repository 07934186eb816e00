-- `replay::Call::play` meets its contract: each arm makes that call. Assumes nothing.
use Rattle.std.proofs.Common.{refl}
use Rattle.runs.specs.Calls.{reply_to, matrix_after, lists_after}
use Rattle.boundary_assemblers.specs.Forms.{added_of, looked_of}
use Rattle.replay.specs.Laws.{answered}
use Rattle.replay.proofs.Call.play.Goals as goal

pub returns-in-Look-clause-answered : goal.returns-in-Look-clause-answered
unfolding reply_to matrix_after lists_after
returns-in-Look-clause-answered c =
    rw c.in-Look.is (answered _ _ _ (looked_of c.look-answer.result) c.look-answer.ensures refl refl c.looked.ensures)

pub returns-in-AddDistant-clause-answered : goal.returns-in-AddDistant-clause-answered
unfolding reply_to matrix_after lists_after
returns-in-AddDistant-clause-answered c =
    rw c.in-AddDistant.is
    (answered _ _ _ (added_of c.add_distant-answer.result) c.add_distant-answer.ensures.result_value c.add_distant-answer.ensures.matrix_after refl c.added.ensures)

pub returns-in-AddTouching-clause-answered : goal.returns-in-AddTouching-clause-answered
unfolding reply_to matrix_after lists_after
returns-in-AddTouching-clause-answered c =
    rw c.in-AddTouching.is
    (answered _ _ _ (added_of c.add_touching-answer.result) c.add_touching-answer.ensures.result_value c.add_touching-answer.ensures.matrix_after refl c.added-in-AddTouching.ensures)

pub returns-in-AddEntries-clause-answered : goal.returns-in-AddEntries-clause-answered
unfolding reply_to matrix_after lists_after
returns-in-AddEntries-clause-answered c =
    rw c.in-AddEntries.is
    (answered _ _ _ (added_of c.add_entries-answer.result) c.add_entries-answer.ensures.result_value refl c.add_entries-answer.ensures.values_after c.added-in-AddEntries.ensures)
