-- `numbers::all_below` meets its contract: what `all` answers, in our word. Assumes nothing.
use mathlib.Core.Bool.{true, false}
use mathlib.Core.Path.{◌≡◌}
use lib.Dec.{ltb}
use Rattle.std.proofs.lemmas.Iterator.{cases_from_all, YieldsList-from_slice}
use Rattle.lists.specs.Items.{all_items}
use Rattle.numbers.specs.Ranges.{all_below}
use borrow.Author.Rules.{rules}
use borrow.Author.Tests.{tests}
use Rattle.numbers.proofs.all_below.Goals as goal

pub returns : goal.returns
unfolding all_below
returns c =
    let xs = c.args.list.now in
    let n = c.args.bound in
    all_items 0 (λ x. ltb x n) xs _ (cases_from_all _ _ _ (λ x. ltb x n ≡ true) (λ x. ltb x n ≡ false) c.all.ensures.ran (YieldsList-from_slice xs cc) (λ x q k. search (rules, tests)) (λ x q k. search (rules, tests)))
