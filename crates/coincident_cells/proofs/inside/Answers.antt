-- `coincident_cells::inside` meets its contract: each vertex is looked for among the others. Assumes nothing.
use Rattle.std.proofs.Common.{rules, ◌∙◌}
use borrow.Author.Tests.{tests}
use lib.Dec.{eqb}
use Rattle.std.specs.List.{list_any}
use Rattle.std.proofs.lemmas.Iterator.{cases_from_all, YieldsList-from_slice}
use mathlib.Core.Bool.{true, false}
use mathlib.Core.Path.{◌≡◌}
use Rattle.lists.specs.Bounded.{all_ext}
use Rattle.lists.specs.Items.{all_items}
use Rattle.coincident_cells.specs.DifferFacts.{is_has}
use Rattle.coincident_cells.proofs.inside.Goals as goal

pub returns : goal.returns
returns c =
    let others = c.args.other.now in
    let test = λ (x : _). list_any (λ y. eqb y x) others in
    all_items 0 test c.args.cell.now _
    (cases_from_all _ _ _ (λ x. test x ≡ true) (λ x. test x ≡ false) c.all.ensures.ran (YieldsList-from_slice c.args.cell.now c.iter.ensures.rest) (λ x q k. search (rules, tests)) (λ x q k. search (rules, tests)))
    ∙ all_ext _ _ _ (λ p l. is_has others _)
