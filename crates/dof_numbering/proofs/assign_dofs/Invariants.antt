-- `dof_numbering::assign_dofs` meets its contract. The invariant is `Numbered`; a turn is `cell_gives`, and the end `numbered_ends`. Assumes nothing.
use lib.ListN.{length}
use Rattle.function.specs.Lent.{space_lent}
use Rattle.dof_numbering.specs.DofWalk.{state, Kept}
use Rattle.dof_numbering.proofs.WholeWalk.{Numbered}
use Rattle.dof_numbering.proofs.assign_dofs.Given as goal

abbrev pub invariant-loop-i : goal.invariant-loop-i
invariant-loop-i l =
    Kept l.initial.walk l.walk × Numbered (space_lent l.mesh l.elements) (length l.mesh.kinds.now) l.initial.walk.dofs.now l.initial.walk.owners.now l.i l.first (state l.walk)
