-- `cell_patterns::shared::cells_right` meets its contract: the list of shared vertices is empty, or they have a pattern. Assumes nothing.
use mathlib.Core.Path.{sym}
use lib.ListN.{take}
use native.Mathlib.Omega.{arith}
use Rattle.cell_patterns.specs.SharedFacts.{right_by}
use Rattle.cell_patterns.proofs.shared.cells_right.Goals as goal

pub invariant_of-meeting : goal.invariant_of-meeting
invariant_of-meeting c = record { le_n = (c.requires.0, c.requires.1, c.requires.2, c.requires.3, omega (arith, c.matches_of-shared.ensures.1, c.matches_of-shared.ensures.2)); small = c.matches_of-shared.ensures.3 }

pub returns : goal.returns
returns c =
    let e = c.matches_of-shared.ensures in
    rw c.is_some.ensures (right_by c.args.test.now c.args.trial.now (take c.matches_of-shared.result.count c.matches_of-shared.result.list) _ (sym e.2) e.0 _ c.pattern_number.ensures)
