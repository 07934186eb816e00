-- What stands at the piece's front is what the reader has given.
use Rattle.std.proofs.Common.{length, take, ◌-◌, ◌≤◌}
use Rattle.std.specs.Io.KnownBytes.{Consumes}
use Rattle.full_reads.specs.Sources.{HasNotFailed, bytes_left}
use Rattle.full_reads.proofs.Source.read_full.Given as goal

abbrev pub invariant-loop-done : goal.invariant-loop-done
invariant-loop-done g l =
    record {
      within : l.done ≤ length l.piece;
      bytes : Consumes (bytes_left g.R.Read.remaining l.initial.self) (bytes_left g.R.Read.remaining l.self) (take l.done l.piece);
      failed : HasNotFailed l.self → HasNotFailed l.initial.self;
    }

abbrev pub decreases-loop-done : goal.decreases-loop-done
decreases-loop-done g l = length l.initial.piece - l.done
