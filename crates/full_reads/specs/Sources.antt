-- What a clause reads of a `Source`. Assumes nothing.
use Rattle.std.specs.Prelude.{ℕ, List, IsNone, Option}
use Rattle.full_reads.specs.declared.Source.{Source}

-- no read has failed
abbrev pub HasNotFailed : {R : Type 0} → Source R → Type 0
HasNotFailed s = IsNone s.failed

-- the bytes that the reader has left, where they are known
abbrev pub bytes_left : {R : Type 0} → (R → Option (List ℕ)) → Source R → Option (List ℕ)
bytes_left remaining s = remaining s.reader
