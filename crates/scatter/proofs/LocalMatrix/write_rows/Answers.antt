-- See Invariants.antt. Assumes nothing.
use mathlib.Core.Path.{refl}
use native.Mathlib.Omega.{arith}
use Rattle.lists.specs.Writes.{blocks_start}
use Rattle.scatter.specs.AddingFacts.{block_turn, rows_done}
use Rattle.scatter.proofs.LocalMatrix.write_rows.Goals as goal

pub loop-j-init : goal.loop-j-init
loop-j-init c = blocks_start _ _ _ _ _

pub loop-j-preserved : goal.loop-j-preserved
loop-j-preserved c = block_turn c.loop-j.invariant (λ _. refl) c.loop-j-test.true c.requires c.write_test_dofs.ensures (omega arith)

pub returns : goal.returns
returns c = rows_done _ _ c.loop-j.invariant c.loop-j-test.false
