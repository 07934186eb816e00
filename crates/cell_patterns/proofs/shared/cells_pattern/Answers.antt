-- `cell_patterns::shared::cells_pattern` meets its contract. Assumes nothing.
use native.Mathlib.Omega.{arith}
use mathlib.Core.Path.{subst}
use mathlib.Core.List.{List}
use lib.ListN.{length}
use Rattle.cell_pairs.specs.Records.{IsPattern}
use Rattle.cell_pairs.specs.Matches.{Match}
use Rattle.cell_pairs.specs.Table.{pattern, number_of}
use Rattle.cell_patterns.proofs.shared.cells_pattern.Goals as goal

pub invariant_of-meeting : goal.invariant_of-meeting
invariant_of-meeting c = record { le_n = (c.requires.0, c.requires.1, c.requires.2, c.requires.3, omega (arith, c.matches_of-shared.ensures.1, c.matches_of-shared.ensures.2)); small = c.matches_of-shared.ensures.3 }

pub returns : goal.returns
returns c =
    let a = c.args in
    subst (λ (ms : List Match). IsPattern c.pattern_number.result (number_of (pattern (length a.test.now) (length a.trial.now) ms))) c.matches_of-shared.ensures.0 c.pattern_number.ensures
