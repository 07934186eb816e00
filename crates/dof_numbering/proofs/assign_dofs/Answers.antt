-- See Invariants.antt. Assumes nothing.
use native.Mathlib.Omega.{arith}
use mathlib.Core.Path.{refl}
use Rattle.dof_numbering.proofs.WholeWalk.{numbered_none, vertices_reach, edges_reach, cell_asks, cell_gives, numbered_ends}
use borrow.Author.Rules.{rules}
use Rattle.dof_numbering.proofs.assign_dofs.Goals as goal

pub loop-i-init : goal.loop-i-init
loop-i-init c = (search rules, numbered_none _ _ c.requires.sized _ _ c.requires.dofs_len.0 c.requires.dofs_len.1)

pub overflow_add-end : goal.overflow_add-end
overflow_add-end c =
    omega (arith, vertices_reach _ _ c.requires.sized _ _ _ _ _ c.loop-i-test.true c.loop-i.invariant.1 _ c.corners_of.ensures.0)

pub offset_bounds-mesh-first : goal.offset_bounds-mesh-first
offset_bounds-mesh-first c =
    omega (arith, vertices_reach _ _ c.requires.sized _ _ _ _ _ c.loop-i-test.true c.loop-i.invariant.1 _ c.corners_of.ensures.0)

pub slice_bounds-visit_cell-end : goal.slice_bounds-visit_cell-end
slice_bounds-visit_cell-end c =
    vertices_reach _ _ c.requires.sized _ _ _ _ _ c.loop-i-test.true c.loop-i.invariant.1 _ c.corners_of.ensures.0

pub offset_bounds-mesh-first-in-loop-i : goal.offset_bounds-mesh-first-in-loop-i
offset_bounds-mesh-first-in-loop-i c =
    omega (arith, edges_reach _ _ c.requires.sized _ _ _ _ _ c.loop-i-test.true c.loop-i.invariant.1 _ c.corners_of.ensures.0)

pub slice_bounds-visit_cell-end-in-loop-i : goal.slice_bounds-visit_cell-end-in-loop-i
slice_bounds-visit_cell-end-in-loop-i c =
    edges_reach _ _ c.requires.sized _ _ _ _ _ c.loop-i-test.true c.loop-i.invariant.1 _ c.corners_of.ensures.0

pub visit_cell-requires : goal.visit_cell-requires
visit_cell-requires c =
    let asks = cell_asks _ _ c.requires.sized _ _ _ _ _ c.loop-i-test.true c.loop-i.invariant.1 _ c.corners_of.ensures.0 _ _ refl refl _ c.of.ensures in
    record { cell_lt_most_cells = asks.0; room = asks.1 }

pub loop-i-preserved : goal.loop-i-preserved
loop-i-preserved c =
    (search rules, cell_gives _ _ c.requires.sized _ _ _ _ _ c.loop-i-test.true c.loop-i.invariant.1 _ c.corners_of.ensures.0 _ _ refl refl _ c.of.ensures _ c.visit_cell.ensures.walked)

pub returns : goal.returns
returns c =
    let ends = numbered_ends _ _ c.requires.sized _ _ _ _ _ c.requires.dofs_len.0 c.requires.dofs_len.1 (omega arith) c.loop-i.invariant.1 in
    (ends.0, search rules, search rules)
