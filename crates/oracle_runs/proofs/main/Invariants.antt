-- No more cases differ than were replayed.
use Rattle.std.proofs.Common.{◌<◌}
use Rattle.oracle_runs.proofs.main.Given as goal

abbrev pub invariant-loop-number : goal.invariant-loop-number
invariant-loop-number l = l.differ < l.number-counter
