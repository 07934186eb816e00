-- `cell_patterns::shared::Meeting::code` meets its contract. The invariant of its loop: it has the code of the vertices so far. Assumes nothing.
use mathlib.Core.Path.{◌≡◌}
use Prim.Native.Nat.{◌+◌, ◌*◌}
use lib.ListN.{take}
use Rattle.pattern_table.specs.Numbers.{code_on}
use Rattle.cell_patterns.specs.Shared.{matches_in}
use Rattle.cell_patterns.proofs.shared.Meeting.code.Given as goal

abbrev pub invariant-loop-s : goal.invariant-loop-s
invariant-loop-s l = l.code ≡ code_on (10 * l.self.n + l.self.k) (matches_in (take l.s-index l.self.shared.now))
