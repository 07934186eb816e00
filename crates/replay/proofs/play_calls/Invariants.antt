-- `replay::play_calls` meets its contract: the invariant is the contract itself, of the calls passed; `going_more` takes it over one call. Assumes nothing.
use Prim.Native.Nat.{◌≤◌}
use mathlib.Core.Path.{◌≡◌}
use lib.ListN.{length}
use Rattle.replay.specs.Encoding.{calls_of}
use Rattle.replay.specs.Laws.{standing, Going}
use Rattle.replay.specs.Replay.{SameWritten}
use Rattle.boundary_assemblers.specs.Forms.{run_of, plan_lent, entries_lent}
use Rattle.replay.proofs.play_calls.Given as goal

abbrev pub invariant-loop-k : goal.invariant-loop-k
invariant-loop-k l =
    (l.k ≤ l.k-end) × (length l.written.answers.now ≡ length l.fn.written.answers.now) × SameWritten l.fn.written l.written
    × Going (plan_lent l.plan) (calls_of l.calls.numbers.now l.calls.pool.now l.k) (standing (run_of l.initial.run) l.fn.written.matrix.now (entries_lent l.fn.written.entries)) l.fn.written.answers.now
    (run_of l.run) l.written.matrix.now (entries_lent l.written.entries) l.written.answers.now
