-- See Invariants.antt. Assumes nothing.
use mathlib.Core.Path.{refl}
use native.Mathlib.Omega.{arith}
use Rattle.lists.specs.Writes.{stores_start}
use Rattle.scatter.specs.AddingFacts.{copied_turn, copied_done}
use Rattle.scatter.proofs.write_test_dofs.Goals as goal

pub loop-i-init : goal.loop-i-init
loop-i-init c = stores_start _ _ _ 0

pub loop-i-preserved : goal.loop-i-preserved
loop-i-preserved c = copied_turn _ c.loop-i.invariant (omega (arith, c.loop-i-test.true, c.loop-i.invariant.same)) refl

pub returns : goal.returns
returns c = copied_done _ c.loop-i.invariant c.requires (omega (arith, c.loop-i-test.false, c.loop-i.invariant.same))
