-- `cell_patterns::shared::matches_of` meets its contract. The invariant of its loop: it has the shared vertices of the trial places below q. Assumes nothing.
use Rattle.cell_patterns.specs.SharedFacts.{Gathered}
use Rattle.cell_patterns.proofs.shared.matches_of.Given as goal

abbrev pub invariant-loop-q : goal.invariant-loop-q
invariant-loop-q l = Gathered l.test l.trial l.shared.count l.shared.list l.q
