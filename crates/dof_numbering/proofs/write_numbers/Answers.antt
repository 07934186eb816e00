-- See Invariants.antt. Assumes nothing.
use mathlib.Core.Path.{refl}
use lib.ListN.{length-set}
use Rattle.dof_numbering.specs.Numbering.{up_from}
use Rattle.dof_numbering.proofs.Walk.{numbers_step}
use borrow.Author.Rules.{rules}
use Rattle.dof_numbering.proofs.write_numbers.Goals as goal

pub loop-i-init : goal.loop-i-init
unfolding up_from
loop-i-init c = (search rules, search rules, refl)

pub loop-i-preserved : goal.loop-i-preserved
loop-i-preserved c =
    (search rules, simp length-set c.loop-i.invariant.1, numbers_step _ _ _ _ _ _ c.loop-i.invariant.2 c.wide.ensures)
