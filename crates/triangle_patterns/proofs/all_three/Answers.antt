-- `triangle_patterns::all_three` meets its contract: each return has the test that led there. Assumes nothing.
use mathlib.Core.Path.{refl}
use native.Mathlib.Omega.{arith}
use Rattle.lists.specs.Bool.{◌and◌}
use Rattle.triangle_patterns.proofs.all_three.Goals as goal

pub returns-then-a-b : goal.returns-then-a-b
unfolding ◌and◌
returns-then-a-b c = simp c.if-a-b.true (refl, omega arith)

pub returns-else-a-b : goal.returns-else-a-b
unfolding ◌and◌
returns-else-a-b c = simp c.if-a-b.false
