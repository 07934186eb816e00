-- `distant_pairs::write_distant` meets its contract. The invariants of its loops: the records of the kinds so far are written. Assumes nothing.
use Rattle.lists.specs.Writes.{Turns}
use Rattle.cell_pairs.specs.RecordsFacts.{records}
use Rattle.distant_pairs.specs.Distant.{distant_kind, distant_tests}
use Rattle.distant_pairs.proofs.write_distant.Given as goal

abbrev pub invariant-loop-n : goal.invariant-loop-n
invariant-loop-n l =
    Turns records (λ n'. distant_kind l.rows.none l.rows.rows.now l.batch l.tests.order.now l.tests.ends.now l.trials.order.now l.trials.ends.now n') 2 l.initial.work l.work 0 l.next l.n

abbrev pub invariant-loop-k : goal.invariant-loop-k
invariant-loop-k l =
    Turns records (λ k'. distant_tests l.rows.none l.rows.rows.now l.batch l.tests.order.now l.tests.ends.now l.trials.order.now l.trials.ends.now l.n k') 2 l.initial.work l.work l.initial.next l.next l.k
