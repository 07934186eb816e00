-- See Invariants.antt. Assumes nothing.
use native.Mathlib.Omega.{arith}
use Rattle.grid.specs.CellsFacts.{begins_inside, shaped_few}
use Rattle.grid.specs.RowsFacts.{rowed_none, rowed_more, rowed_all}
use borrow.Author.Rules.{rules}
use Rattle.grid.proofs.shape.write_rows.Goals as goal

pub loop-i-init : goal.loop-i-init
loop-i-init c = rowed_none _ _ _ _

pub end_of-end-requires : goal.end_of-end-requires
end_of-end-requires c = omega (arith, begins_inside c.requires.0 c.loop-i.invariant.begins (search rules), shaped_few c.requires.0)

pub offset_bounds-list-at : goal.offset_bounds-list-at
offset_bounds-list-at c = omega (arith, begins_inside c.requires.0 c.loop-i.invariant.begins (search rules), shaped_few c.requires.0)

pub slice_bounds-write_row-end : goal.slice_bounds-write_row-end
slice_bounds-write_row-end c = omega (arith, c.end_of-end.ensures, begins_inside c.requires.0 c.loop-i.invariant.begins (search rules), shaped_few c.requires.0)

pub loop-i-preserved : goal.loop-i-preserved
loop-i-preserved c =
    rowed_more c.requires.0 c.loop-i.invariant (search rules) c.end_of-end.ensures c.write_row.ensures

pub returns : goal.returns
returns c = rowed_all c.requires.0 c.loop-i.invariant (search rules) c.requires.1
