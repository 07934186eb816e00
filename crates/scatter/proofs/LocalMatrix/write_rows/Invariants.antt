-- `scatter::LocalMatrix::write_rows` meets its contract. The invariant of its loop: the columns below j are written. Assumes nothing.
use lib.ListN.{length}
use Rattle.lists.specs.Writes.{Blocks}
use Rattle.scatter.proofs.LocalMatrix.write_rows.Given as goal

abbrev pub invariant-loop-j : goal.invariant-loop-j
invariant-loop-j l = Blocks (λ _. l.self.test_dofs.now) (length l.self.test_dofs.now) (length l.self.trial_dofs.now) l.initial.rows l.rows l.at l.j
