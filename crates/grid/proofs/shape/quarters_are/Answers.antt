-- See Invariants.antt. Assumes nothing.
use native.Mathlib.Omega.{arith}
use mathlib.Core.Path.{◌≡◌, sym, ◌∙◌}
use Rattle.lists.specs.Bounded.{all_none}
use Rattle.grid.specs.KindsFacts.{quarters_more, quarters_all}
use Rattle.grid.proofs.shape.quarters_are.Goals as goal

pub loop-i-init : goal.loop-i-init
loop-i-init c = sym (all_none _)

pub loop-i-preserved : goal.loop-i-preserved
loop-i-preserved c = quarters_more _ _ _ c.loop-i.invariant

pub returns : goal.returns
returns c = let e : c.loop-i.i ≡ c.args.n = omega arith in rw e at c.loop-i.invariant ∙ quarters_all _ _
