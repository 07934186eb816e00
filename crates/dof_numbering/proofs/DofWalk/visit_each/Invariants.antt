-- `dof_numbering::DofWalk::visit_each` meets its contract. The invariant is `Visiting`. Assumes nothing.
use Rattle.dof_numbering.specs.DofWalk.{dimension_number, state, Kept}
use Rattle.dof_numbering.proofs.Walk.{Visiting}
use Rattle.dof_numbering.proofs.DofWalk.visit_each.Given as goal

abbrev pub invariant-loop-x : goal.invariant-loop-x
invariant-loop-x l = Kept l.fn.self l.self × Visiting (state l.fn.self) (dimension_number l.dimension) l.m l.entities l.x-index (state l.self)
