-- `scatter::write_column` meets its contract. The invariant of its loop: the first i entries of the column are written. Assumes nothing.
use lib.ListN.{length}
use Rattle.lists.specs.Writes.{Stores}
use Rattle.scatter.specs.Entries.{entry_at}
use Rattle.scatter.proofs.write_column.Given as goal

abbrev pub invariant-loop-i : goal.invariant-loop-i
invariant-loop-i l = Stores (λ i. entry_at l.entries (length l.initial.values) i l.j) (length l.initial.values) l.initial.values l.values 0 l.i
