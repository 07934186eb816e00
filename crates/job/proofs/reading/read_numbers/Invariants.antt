-- The first i numbers are read.
use Rattle.job.specs.JobFacts.{Filled}
use Rattle.job.proofs.reading.read_numbers.Given as goal

abbrev pub invariant-loop-i : goal.invariant-loop-i
invariant-loop-i l = Filled l.bytes l.at l.initial.list l.list l.i
