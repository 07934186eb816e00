-- `distant_pairs::Half::has_cells` meets its contract. Assumes nothing.
use native.Mathlib.Omega.{arith}
use lib.ListN.{length}
use Rattle.distant_pairs.specs.Distant.{has_cells}
use Rattle.distant_pairs.proofs.Facts.{kind_first}
use Rattle.distant_pairs.proofs.Half.has_cells.Goals as goal

pub overflow_mul-first : goal.overflow_mul-first
overflow_mul-first c = omega (arith, kind_first c.args.self.half (length c.args.self.groups.ends.now) c.args.self.half_bound)

pub start-requires : goal.start-requires
start-requires c = omega (arith, kind_first c.args.self.half (length c.args.self.groups.ends.now) c.args.self.half_bound)

pub overflow_add-first : goal.overflow_add-first
overflow_add-first c = omega (arith, kind_first c.args.self.half (length c.args.self.groups.ends.now) c.args.self.half_bound)

pub start-requires-2 : goal.start-requires-2
start-requires-2 c = omega (arith, kind_first c.args.self.half (length c.args.self.groups.ends.now) c.args.self.half_bound)

pub returns : goal.returns
unfolding has_cells
returns c = rw (c.start.ensures, c.start-2.ensures)
