-- `scatter::LocalMatrix::write_values` meets its contract. The invariant of its loop: the columns below j are written. Assumes nothing.
use lib.ListN.{length}
use Rattle.lists.specs.Writes.{Blocks}
use Rattle.scatter.specs.AddingFacts.{values_of}
use Rattle.scatter.proofs.LocalMatrix.write_values.Given as goal

abbrev pub invariant-loop-j : goal.invariant-loop-j
invariant-loop-j l =
    Blocks (values_of l.self.entries.now (length l.self.test_dofs.now)) (length l.self.test_dofs.now) (length l.self.trial_dofs.now) l.initial.values l.values l.at l.j
