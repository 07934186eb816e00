-- `dof_numbering::write_numbers` meets its contract. The invariant: the first i numbers are stored (`sets`); a turn is `numbers_step`. Assumes nothing.
use Prim.Native.Nat.{◌≤◌}
use mathlib.Core.Path.{◌≡◌}
use lib.ListN.{length}
use lib.Seq.{sets}
use Rattle.dof_numbering.specs.Numbering.{up_from}
use Rattle.dof_numbering.proofs.write_numbers.Given as goal

abbrev pub invariant-loop-i : goal.invariant-loop-i
invariant-loop-i l = (l.i ≤ l.m) × (length l.dofs ≡ length l.initial.dofs) × (l.dofs ≡ sets l.initial.dofs l.at (up_from l.n l.i))
