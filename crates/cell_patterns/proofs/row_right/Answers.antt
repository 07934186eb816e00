-- `cell_patterns::row_right` meets its contract. Assumes nothing.
use Rattle.std.proofs.Common.{rules}
use borrow.Author.Tests.{tests}
use Rattle.std.proofs.lemmas.Iterator.{cases_from_all, YieldsList-from_slice}
use Rattle.std.proofs.lemmas.Iterator.Adapters.{serves_from_places}
use mathlib.Core.Bool.{true, false}
use mathlib.Core.Path.{◌≡◌}
use Prim.Native.Nat.{◌+◌, ◌*◌, ◌≤◌}
use lib.ListN.{length}
use Rattle.lists.specs.Items.{all_items}
use Rattle.cells_by_key.specs.GroupsFacts.{cells_item}
use Rattle.cell_patterns.specs.Flat.{pair_right}
use Rattle.cell_patterns.specs.PatternFacts.{row_right}
use Rattle.cell_patterns.proofs.row_right.Goals as goal

pub all-requires-clause-callable : goal.all-requires-clause-callable
all-requires-clause-callable c =
    serves_from_places (YieldsList-from_slice c.args.cells.now c.iter.ensures.rest) (λ x q k. search rules)
    (λ x k l e. let h : 4 * x.now + 4 ≤ length c.args.rows.rows.now = cells_item c.requires.cells x.now k l e in search rules)

pub returns : goal.returns
unfolding row_right
returns c =
    let test = λ (j : _). pair_right c.args.rows.none c.args.rows.rows.now c.args.i j in
    all_items 0 test c.args.cells.now _
    (cases_from_all _ _ _ (λ j. test j ≡ true) (λ j. test j ≡ false) c.all.ensures.ran (YieldsList-from_slice c.args.cells.now c.iter.ensures.rest) (λ x q k. search (rules, tests)) (λ x q k. search (rules, tests)))
