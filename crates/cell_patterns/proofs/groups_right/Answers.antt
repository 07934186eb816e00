-- `cell_patterns::groups_right` meets its contract. Assumes nothing.
use Rattle.std.proofs.Common.{rules}
use borrow.Author.Tests.{tests}
use Rattle.std.proofs.lemmas.Iterator.{cases_from_all, YieldsList-from_range, serves_from_Range}
use mathlib.Core.Bool.{true, false}
use mathlib.Core.Path.{◌≡◌}
use Prim.Native.Nat.{◌<◌}
use native.Mathlib.Omega.{arith}
use lib.ListN.{length}
use Rattle.lists.specs.Items.{all_numbers}
use Rattle.cells_by_key.specs.Groups.{part}
use Rattle.cell_patterns.specs.PatternFacts.{group_right}
use Rattle.cell_patterns.proofs.groups_right.Goals as goal

pub all-requires-clause-callable : goal.all-requires-clause-callable
all-requires-clause-callable c =
    serves_from_Range (λ x q k. search rules)
    (λ x k l.
    let h : x < length c.args.groups.ends.now = omega (arith, l, c.wide.ensures, c.requires.none_in_bounds) in
    let rise = c.requires.cut.rise x h in
    let within = c.requires.cut.within x h in
    let cells = c.requires.cut.cells x h in
    search rules)

pub returns : goal.returns
returns c =
    let test = λ (v : _). group_right c.args.rows.none c.args.rows.rows.now (part c.args.groups.order.now c.args.groups.ends.now v) in
    all_numbers c.args.rows.none test _
    (cases_from_all _ _ _ (λ v. test v ≡ true) (λ v. test v ≡ false) c.all.ensures.ran (YieldsList-from_range 0 c.args.rows.none c.args.rows.none (rw c.wide.ensures) (omega arith)) (λ x q k. search (rules, tests)) (λ x q k. search (rules, tests)))
