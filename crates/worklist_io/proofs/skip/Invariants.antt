-- No more bytes came than asked.
use Rattle.std.proofs.Common.{◌-◌, ◌≤◌}
use Rattle.worklist_io.proofs.skip.Given as goal

abbrev pub invariant-loop-count : goal.invariant-loop-count
invariant-loop-count g l = l.count ≤ l.n

abbrev pub decreases-loop-count : goal.decreases-loop-count
decreases-loop-count g l = l.n - l.count
