-- `coincident_cells::cells_differ` meets its contract. Assumes nothing.
use Rattle.std.proofs.Common.{rules, refl}
use borrow.Author.Tests.{tests}
use Rattle.std.proofs.lemmas.Iterator.{cases_from_all, YieldsList-from_range, serves_from_Range}
use mathlib.Core.Bool.{true, false}
use mathlib.Core.Path.{◌≡◌}
use Prim.Native.Nat.{◌/◌}
use lib.ListN.{length}
use native.Mathlib.Omega.{arith}
use Rattle.lists.specs.Items.{all_numbers}
use Rattle.coincident_cells.specs.Differ.{differ_in, differs_in}
use Rattle.coincident_cells.proofs.cells_differ.Goals as goal

pub all-requires-clause-callable : goal.all-requires-clause-callable
all-requires-clause-callable c = serves_from_Range (λ x q k. search rules) (λ x k l. search rules)

pub returns : goal.returns
unfolding differ_in
returns c =
    let rows = c.args.rows.rows.now in
    let test = λ (i : _). differs_in c.args.rows.none rows i in
    all_numbers (length rows / 4) test _
    (cases_from_all _ _ _ (λ i. test i ≡ true) (λ i. test i ≡ false) c.all.ensures.ran (YieldsList-from_range 0 (length rows / 4) (length rows / 4) refl (omega arith)) (λ x q k. search (rules, tests)) (λ x q k. search (rules, tests)))
