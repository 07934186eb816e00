-- `scatter::add_column` meets its contract: the invariant is that the matrix is the fold over the test basis passed, and as long as it was.
-- Assumes nothing.
use Prim.Native.Nat.{ℕ}
use lib.ListN.{length}
use Rattle.lists.specs.Fold.{Folded}
use Rattle.numbers.specs.Floats.{◌!◌}
use Rattle.scatter.specs.Entries.{add_row}
use Rattle.scatter.proofs.add_column.Given as goal

abbrev pub invariant-loop-row : goal.invariant-loop-row
invariant-loop-row l =
    Folded (add_row (λ (i : ℕ). l.entries ! i) l.base l.test_dofs) (length l.test_dofs) l.initial.matrix l.matrix (length l.yielded)
