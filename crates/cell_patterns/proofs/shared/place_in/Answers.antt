-- `cell_patterns::shared::place_in` meets its contract: the first vertex that is x. Assumes nothing.
use Rattle.std.proofs.Common.{rules}
use borrow.Author.Tests.{tests}
use Rattle.std.proofs.lemmas.Iterator.{IsFirst-from_position, YieldsList-from_slice}
use lib.Dec.{eqb}
use mathlib.Core.Bool.{true, false}
use mathlib.Core.Path.{◌≡◌}
use Rattle.cell_patterns.specs.SharedFacts.{place_told}
use Rattle.cell_patterns.proofs.shared.place_in.Goals as goal

pub returns : goal.returns
returns c =
    place_told c.args.cell.now c.args.x _
    (IsFirst-from_position _ _ _ (λ y. eqb y c.args.x ≡ true) (λ y. eqb y c.args.x ≡ false) c.position.ensures.ran (YieldsList-from_slice c.args.cell.now c.iter.ensures.rest) (λ x q k. search (rules, tests)) (λ x q k. search (rules, tests)))
