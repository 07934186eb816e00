-- See Invariants.antt. Assumes nothing.
use native.Mathlib.Omega.{arith}
use mathlib.Core.Path.{refl}
use Rattle.grid.specs.CellsFacts.{begins_inside, begins_length, shaped_few}
use Rattle.grid.specs.EdgeRule.{keyed_none, keyed_more, keyed_all, begins_below}
use borrow.Author.Rules.{rules}
use Rattle.grid.proofs.edge_rule.write_keys.Goals as goal

pub loop-kind-init : goal.loop-kind-init
loop-kind-init c = keyed_none _ _ _

pub end_of-end-requires : goal.end_of-end-requires
end_of-end-requires c = omega (arith, begins_inside c.requires.shaped.0 c.loop-kind.invariant.begins (search rules), shaped_few c.requires.shaped.0)

pub offset_bounds-vertices-at : goal.offset_bounds-vertices-at
offset_bounds-vertices-at c = omega (arith, begins_inside c.requires.shaped.0 c.loop-kind.invariant.begins (search rules), shaped_few c.requires.shaped.0)

pub slice_bounds-write_cell_keys-end : goal.slice_bounds-write_cell_keys-end
slice_bounds-write_cell_keys-end c = omega (arith, c.end_of-end.ensures, begins_inside c.requires.shaped.0 c.loop-kind.invariant.begins (search rules))

pub write_cell_keys-requires-clause-most_vertices_value : goal.write_cell_keys-requires-clause-most_vertices_value
write_cell_keys-requires-clause-most_vertices_value c =
    let s = c.requires.shaped.0 in
    let w = c.loop-kind.invariant in
    (begins_below w.begins c.end_of-end.ensures _ _ c.requires.shaped.1, omega (arith, begins_length s w.begins (search rules) c.end_of-end.ensures, begins_inside s w.begins (search rules), w.long, c.requires.keys_len))

pub loop-kind-preserved : goal.loop-kind-preserved
loop-kind-preserved c = keyed_more c.requires.shaped.0 c.loop-kind.invariant (search rules) c.end_of-end.ensures refl c.write_cell_keys.ensures

pub returns : goal.returns
returns c = keyed_all c.requires.shaped.0 c.loop-kind.invariant (search rules) c.requires.keys_len
