-- `scatter::LocalMatrix::add_to` meets its contract. The invariant of its loop: the matrix is the fold over the trial basis passed, and as long as it was.
-- Assumes nothing.
use lib.ListN.{length}
use Rattle.lists.specs.Fold.{Folded}
use Rattle.scatter.specs.Entries.{entry_at, add_trial}
use Rattle.scatter.proofs.LocalMatrix.add_to.Given as goal

abbrev pub invariant-loop-j : goal.invariant-loop-j
invariant-loop-j l =
    Folded (add_trial (entry_at l.entries (length l.test_dofs)) l.rows l.test_dofs l.trial_dofs) (length l.trial_dofs) l.initial.matrix l.matrix l.j
