-- `distant_pairs::write_colours` meets its contract. The invariants of its loops: the records of the batches so far are written. Assumes nothing.
use lib.ListN.{length}
use Rattle.grid.specs.Rows.{share}
use Rattle.lists.specs.Range.{batch}
use mathlib.Core.List.{flat_map}
use Rattle.cell_pairs.specs.RecordsFacts.{records}
use Rattle.cell_pairs.specs.WorkList.{batches, distant_batch}
use Rattle.distant_pairs.proofs.Batches.{Batched}
use Rattle.distant_pairs.proofs.write_colours.Given as goal

abbrev pub invariant-loop-test_part : goal.invariant-loop-test_part
invariant-loop-test_part l =
    Batched records (λ tests. flat_map (λ d. distant_batch (share l.rows.none l.rows.rows.now) tests (batch l.batch d l.trials)) (batches l.batch l.trials)) l.batch l.tests l.test_part-iterator.rest.now l.test_part-iterator.size l.initial.work l.work l.at l.next (length l.yielded)

abbrev pub invariant-loop-trial_part : goal.invariant-loop-trial_part
invariant-loop-trial_part l =
    Batched records (λ trials. distant_batch (share l.rows.none l.rows.rows.now) l.test_part trials) l.batch l.trials l.trial_part-iterator.rest.now l.trial_part-iterator.size l.initial.work l.work l.initial.next l.next (length l.yielded)
