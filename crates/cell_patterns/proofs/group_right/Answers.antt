-- `cell_patterns::group_right` meets its contract. Assumes nothing.
use Rattle.std.proofs.Common.{rules}
use borrow.Author.Tests.{tests}
use Rattle.std.proofs.lemmas.Iterator.{cases_from_all, YieldsList-from_slice}
use Rattle.std.proofs.lemmas.Iterator.Adapters.{serves_from_places}
use mathlib.Core.Bool.{true, false}
use mathlib.Core.Path.{◌≡◌}
use Prim.Native.Nat.{◌+◌, ◌*◌, ◌≤◌}
use lib.ListN.{length, get_or}
use Rattle.lists.specs.Bounded.{all}
use Rattle.lists.specs.Items.{all_items}
use Rattle.cells_by_key.specs.GroupsFacts.{cells_item}
use Rattle.cell_patterns.specs.PatternFacts.{row_right, group_right}
use Rattle.cell_patterns.proofs.group_right.Goals as goal
use Rattle.cell_patterns.proofs.group_right.Goals.{After-all}

pub all-requires-clause-callable : goal.all-requires-clause-callable
all-requires-clause-callable c =
    serves_from_places (YieldsList-from_slice c.args.cells.now c.iter.ensures.rest) (λ x q k. search rules)
    (λ x k l e. let h : 4 * x.now + 4 ≤ length c.args.rows.rows.now = cells_item c.requires.cells x.now k l e in search rules)

-- as the walk answers
walked : (c : After-all) → let a = c.args in c.all.result ≡ all (length a.cells.now) (λ k. row_right a.rows.none a.rows.rows.now a.cells.now (get_or a.cells.now k 0))
walked c =
    let cells = c.args.cells.now in
    let test = λ (i : _). row_right c.args.rows.none c.args.rows.rows.now cells i in
    all_items 0 test cells _
    (cases_from_all _ _ _ (λ i. test i ≡ true) (λ i. test i ≡ false) c.all.ensures.ran (YieldsList-from_slice cells c.iter.ensures.rest) (λ x q k. search (rules, tests)) (λ x q k. search (rules, tests)))

pub returns : goal.returns
unfolding group_right row_right
returns c = walked (goal.at.returns c).After-all
