-- `distant_pairs::write_kinds` meets its contract. The invariants of its loops: the records of the colours so far are written. Assumes nothing.
use Prim.Native.Nat.{◌+◌, ◌*◌}
use Rattle.grid.specs.Rows.{share}
use Rattle.lists.specs.Writes.{Turns}
use Rattle.cell_pairs.specs.RecordsFacts.{records}
use Rattle.cell_pairs.specs.WorkList.{distant_colours}
use Rattle.cells_by_key.specs.Groups.{part}
use Rattle.distant_pairs.specs.Distant.{half, distant_rest}
use Rattle.distant_pairs.proofs.write_kinds.Given as goal

abbrev pub invariant-loop-c : goal.invariant-loop-c
invariant-loop-c l =
    Turns records (λ c'. distant_rest l.rows.none l.rows.rows.now l.batch (part l.tests.groups.order.now l.tests.groups.ends.now (l.tests.half * half l.tests.groups.ends.now + c')) l.trials.groups.order.now l.trials.groups.ends.now l.trials.half) (half l.tests.groups.ends.now) l.initial.work l.work l.at l.next l.c

abbrev pub invariant-loop-d : goal.invariant-loop-d
invariant-loop-d l =
    Turns records (λ d'. distant_colours (share l.rows.none l.rows.rows.now) l.batch l.test_cells (part l.trials.groups.order.now l.trials.groups.ends.now (l.trials.half * half l.trials.groups.ends.now + d'))) (half l.trials.groups.ends.now) l.initial.work l.work l.initial.next l.next l.d
