-- `distant_pairs::write_batch` meets its contract. The invariant of its loop: the records of the trial cells so far are written. Assumes nothing.
use lib.ListN.{length}
use Rattle.lists.specs.Writes.{Each}
use Rattle.cell_pairs.specs.RecordsFacts.{records}
use Rattle.distant_pairs.specs.Distant.{distant_row}
use Rattle.distant_pairs.proofs.write_batch.Given as goal

abbrev pub invariant-loop-trial : goal.invariant-loop-trial
invariant-loop-trial l = Each records (λ j. distant_row l.rows.none l.rows.rows.now l.tests j) l.trials l.initial.work l.work l.at l.next (length l.trials) l.trial-index
