-- `scatter::LocalMatrix::write_columns` meets its contract. The invariant of its loop: the columns below j are written. Assumes nothing.
use lib.ListN.{length}
use Rattle.lists.specs.Writes.{Blocks}
use Rattle.scatter.specs.AddingFacts.{column_of}
use Rattle.scatter.proofs.LocalMatrix.write_columns.Given as goal

abbrev pub invariant-loop-j : goal.invariant-loop-j
invariant-loop-j l =
    Blocks (column_of l.self.test_dofs.now l.self.trial_dofs.now) (length l.self.test_dofs.now) (length l.self.trial_dofs.now) l.initial.columns l.columns l.at l.j
