-- See Invariants.antt. Assumes nothing.
use mathlib.Core.Path.{refl, ◌∙◌}
use native.Mathlib.Omega.{arith}
use Rattle.std.proofs.lemmas.List.{length-map}
use Rattle.std.proofs.lemmas.List.Edits.{length-between}
use Rattle.lists.specs.Writes.{blocks_start, blocks_room}
use Rattle.scatter.specs.AddingFacts.{block_turn, column_filled, columns_done}
use Rattle.scatter.proofs.LocalMatrix.write_columns.Goals as goal

pub loop-j-init : goal.loop-j-init
loop-j-init c = blocks_start _ _ _ _ _

pub loop-j-preserved : goal.loop-j-preserved
loop-j-preserved c =
    block_turn c.loop-j.invariant (λ _. length-map _ _) c.loop-j-test.true c.requires
    (c.fill.ensures.after (λ y e. e) ∙ column_filled _ c.args.self.trial_dofs.now c.loop-j.j refl (length-between c.loop-j.columns _ _ (blocks_room c.loop-j.invariant c.loop-j-test.true c.requires) ∙ omega arith))
    (omega arith)

pub returns : goal.returns
returns c = columns_done _ _ c.loop-j.invariant c.loop-j-test.false
