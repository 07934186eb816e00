-- `scatter::write_test_dofs` meets its contract. The invariant of its loop: the first i DOFs are written. Assumes nothing.
use lib.ListN.{length, get_or}
use Rattle.lists.specs.Writes.{Stores}
use Rattle.scatter.proofs.write_test_dofs.Given as goal

abbrev pub invariant-loop-i : goal.invariant-loop-i
invariant-loop-i l = Stores (λ i. get_or l.test_dofs i 0) (length l.initial.rows) l.initial.rows l.rows 0 l.i
