-- See Invariants.antt. Assumes nothing.
use mathlib.Core.Path.{ap, ◌∙◌}
use native.Mathlib.Omega.{arith}
use Rattle.std.proofs.lemmas.List.Edits.{length-between}
use Rattle.lists.specs.Writes.{blocks_start, blocks_room}
use Rattle.scatter.specs.AddingFacts.{block_turn, values_of, length_values_of, values_done}
use Rattle.scatter.proofs.LocalMatrix.write_values.Goals as goal

pub loop-j-init : goal.loop-j-init
loop-j-init c = blocks_start _ _ _ _ _

pub loop-j-preserved : goal.loop-j-preserved
loop-j-preserved c =
    block_turn c.loop-j.invariant (length_values_of _ _) c.loop-j-test.true c.requires.room
    (c.write_column.ensures ∙ ap (λ m. values_of c.args.self.entries.now m c.loop-j.j) (length-between c.loop-j.values _ _ (blocks_room c.loop-j.invariant c.loop-j-test.true c.requires.room) ∙ omega arith))
    (omega arith)

pub returns : goal.returns
returns c = values_done _ c.loop-j.invariant c.loop-j-test.false
