-- `distant_pairs::write_row` meets its contract. The invariant of its loop: the records of the test cells so far are written. Assumes nothing.
use lib.ListN.{length}
use Rattle.grid.specs.Rows.{share}
use Rattle.lists.specs.Writes.{Each}
use Rattle.cell_pairs.specs.RecordsFacts.{records}
use Rattle.cell_pairs.specs.WorkList.{distant_pair}
use Rattle.distant_pairs.proofs.write_row.Given as goal

abbrev pub invariant-loop-test : goal.invariant-loop-test
invariant-loop-test l = Each records (λ i. distant_pair (share l.rows.none l.rows.rows.now) i l.trial) l.tests l.initial.work l.work l.at l.next (length l.tests) l.test-index
