-- `grid::shape::rest_are` meets its contract: what `all` answers, in our word. Assumes nothing.
use mathlib.Core.Bool.{true, false}
use mathlib.Core.Path.{◌≡◌}
use lib.Dec.{eqb}
use Rattle.std.proofs.lemmas.Iterator.{cases_from_all, YieldsList-from_slice}
use Rattle.lists.specs.Items.{all_items}
use borrow.Author.Rules.{rules}
use borrow.Author.Tests.{tests}
use Rattle.grid.proofs.shape.rest_are.Goals as goal

pub returns : goal.returns
returns c =
    let xs = c.args.kinds.now in
    let n = c.args.kind in
    all_items 0 (λ x. eqb x n) xs _ (cases_from_all _ _ _ (λ x. eqb x n ≡ true) (λ x. eqb x n ≡ false) c.all.ensures.ran (YieldsList-from_slice xs cc) (λ x q k. search (rules, tests)) (λ x q k. search (rules, tests)))
