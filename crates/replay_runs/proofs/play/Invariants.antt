-- No more cases differ than were played.
use Rattle.std.proofs.Common.{◌≤◌}
use Rattle.replay_runs.proofs.play.Given as goal

abbrev pub invariant-loop : goal.invariant-loop
invariant-loop l = l.differ ≤ l.counter
