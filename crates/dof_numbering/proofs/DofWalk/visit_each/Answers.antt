-- See Invariants.antt. Assumes nothing.
use native.Mathlib.Omega.{arith}
use Rattle.dof_numbering.proofs.Walk.{visiting_none, visiting_turn}
use borrow.Author.Rules.{rules}
use Rattle.dof_numbering.proofs.DofWalk.visit_each.Goals as goal

pub loop-x-init : goal.loop-x-init
loop-x-init c = (search rules, visiting_none _ _ _ _ c.requires.room)

pub loop-x-preserved : goal.loop-x-preserved
loop-x-preserved c = (search rules, visiting_turn _ _ _ _ _ _ (omega arith) c.loop-x.invariant.1 _ c.visit.ensures.walked)
