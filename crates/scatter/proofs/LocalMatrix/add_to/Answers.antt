-- See Invariants.antt. Assumes nothing.
use mathlib.Core.Path.{◌∙◌}
use Rattle.lists.specs.Fold.{folded_start, folded_done}
use Rattle.scatter.specs.AddingFacts.{column_entries, trial_turn, trial_all}
use Rattle.scatter.proofs.LocalMatrix.add_to.Goals as goal

pub loop-j-init : goal.loop-j-init
loop-j-init c = folded_start _ _ _

pub loop-j-preserved : goal.loop-j-preserved
loop-j-preserved c =
    trial_turn _ _ _ _ c.loop-j.invariant c.loop-j-test.true c.wide.ensures c.add_column.auto.matrix (c.add_column.ensures ∙ column_entries _ _ _ _ _)

pub returns : goal.returns
returns c = folded_done c.loop-j.invariant c.loop-j-test.false ∙ trial_all _ _ _ _ _
