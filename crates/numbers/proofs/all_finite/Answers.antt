-- `numbers::all_finite` meets its contract: what `all` answers, in our word. Assumes nothing.
use mathlib.Core.Bool.{true, false}
use mathlib.Core.Path.{◌≡◌}
use Rattle.std.proofs.lemmas.Iterator.{cases_from_all, YieldsList-from_slice}
use Rattle.std.specs.Float.{nan}
use Rattle.lists.specs.Items.{all_items}
use Rattle.numbers.specs.Floats.{finite, all_finite}
use borrow.Author.Rules.{rules}
use borrow.Author.Tests.{tests}
use Rattle.numbers.proofs.all_finite.Goals as goal

pub returns : goal.returns
unfolding all_finite
returns c =
    let xs = c.args.s.now in
    all_items nan finite xs _ (cases_from_all _ _ _ (λ x. finite x ≡ true) (λ x. finite x ≡ false) c.all.ensures.ran (YieldsList-from_slice xs cc) (λ x q k. search (rules, tests)) (λ x q k. search (rules, tests)))
