-- `cell_patterns::smallest_shared` meets its contract. The invariant: it has the lowest of the numbers passed. Assumes nothing.
use Rattle.std.specs.Prelude.{◌≡◌}
use Rattle.cell_patterns.specs.PatternFacts.{lowest_of}
use Rattle.cell_patterns.proofs.smallest_shared.Given as goal

abbrev pub invariant-loop-x : goal.invariant-loop-x
invariant-loop-x l = l.smallest ≡ lowest_of l.rows.rows.now l.top l.i l.j l.x-index
