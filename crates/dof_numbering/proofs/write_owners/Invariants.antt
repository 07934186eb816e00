-- `dof_numbering::write_owners` meets its contract. The invariant: the first `place` records are stored (`sets`); a turn is `owners_pasted`. Assumes nothing.
use Prim.Native.Nat.{◌≤◌}
use mathlib.Core.Path.{◌≡◌}
use lib.ListN.{length}
use lib.Seq.{sets}
use Rattle.dof_numbering.specs.Numbering.{owners_on}
use Rattle.dof_numbering.specs.DofWalk.{dimension_number}
use Rattle.dof_numbering.proofs.write_owners.Given as goal

abbrev pub invariant-loop-place : goal.invariant-loop-place
invariant-loop-place l = (l.place ≤ l.m) × (length l.owners ≡ length l.initial.owners) × (l.owners ≡ sets l.initial.owners l.at (owners_on (dimension_number l.dimension) l.x l.place))
