-- `coincident_cells::differs` meets its contract: the cells at one of the cell's vertices are all that can have its vertices. Assumes nothing.
use Prim.Native.Nat.{◌+◌, ◌*◌, ◌≤◌}
use native.Mathlib.Omega.{arith}
use lib.ListN.{length}
use Rattle.coincident_cells.specs.DifferFacts.{entity_rise, vertex_bounds, vertex_cells, alone_at}
use Rattle.coincident_cells.proofs.differs.Goals as goal
use Rattle.coincident_cells.proofs.differs.Goals.{Start}

row : (c : Start) → 4 * c.args.i + 4 ≤ length c.args.rows.rows.now
row c = omega (arith, c.requires.rows_len, c.requires.i_in_bounds)

pub rarest-requires : goal.rarest-requires
rarest-requires c = record { i_in_bounds = row (goal.at.rarest-requires c).Start; by_index = c.requires.by_entity.below.below; rise = entity_rise c.requires.by_entity }

pub group-requires : goal.group-requires
group-requires c =
    let b = vertex_bounds c.requires.by_entity (row (goal.at.group-requires c).Start) c.rarest.ensures in
    record { v_in_bounds = b.0; v_bound = b.1 }

pub alone-requires : goal.alone-requires
alone-requires c =
    let r = row (goal.at.alone-requires c).Start in
    record { cells = rw c.group.ensures (vertex_cells c.requires.by_entity r c.rarest.ensures _ c.requires.rows_len); i_in_bounds = r }

pub returns : goal.returns
returns c = alone_at c.requires.by_entity (row (goal.at.returns c).Start) c.rarest.ensures c.args.rows.none _ c.requires.rows_len c.requires.i_in_bounds (rw c.group.ensures at c.alone.ensures)
