-- `lent_numbers::jdets_above_0` meets its contract. Assumes nothing.
use Rattle.std.proofs.Common.{rules, refl}
use borrow.Author.Tests.{tests}
use Rattle.std.proofs.lemmas.Iterator.{cases_from_all, YieldsList-from_range, serves_from_Range}
use mathlib.Core.Bool.{true, false}
use mathlib.Core.Path.{◌≡◌}
use Prim.Native.Nat.{◌*◌}
use lib.Ieee as Ieee
use native.Mathlib.Omega.{arith}
use Rattle.lists.specs.Items.{all_numbers}
use Rattle.numbers.specs.Floats.{0·0, ◌!◌}
use Rattle.lent_numbers.specs.Lent.{jdets_above0}
use Rattle.lent_numbers.proofs.jdets_above_0.Goals as goal

pub all-requires-clause-callable : goal.all-requires-clause-callable
all-requires-clause-callable c = serves_from_Range (λ x q k. search rules) (λ x k l. search rules)

pub returns : goal.returns
unfolding jdets_above0
returns c =
    let points = c.args.points in
    let test = λ (p : _). Ieee.lt 0·0 (c.args.s.now ! (10 * p)) in
    all_numbers points test _
    (cases_from_all _ _ _ (λ p. test p ≡ true) (λ p. test p ≡ false) c.all.ensures.ran (YieldsList-from_range 0 points points refl (omega arith)) (λ x q k. search (rules, tests)) (λ x q k. search (rules, tests)))
