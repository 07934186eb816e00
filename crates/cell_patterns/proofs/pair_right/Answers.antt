-- `cell_patterns::pair_right` meets its contract: two triangles, or cells of any kinds. Assumes nothing.
use mathlib.Core.Path.{ap₂, ◌∙◌}
use Rattle.triangle_patterns.specs.Triangles.{cells_right}
use Rattle.cell_patterns.specs.PatternFacts.{cell_few, both_apart, both_other, both_have}
use Rattle.cell_patterns.proofs.pair_right.Goals as goal

pub triangles_right-requires : goal.triangles_right-requires
triangles_right-requires c =
    let distinct = both_apart c.args.rows.none c.args.rows.rows.now c.args.i c.args.j c.both_triangles.ensures c.if-both_triangles.true (c.requires.apart.apart _ c.requires.i_in_bounds.0) (c.requires.apart.apart _ c.requires.i_in_bounds.1) in
    let other = both_other c.args.rows.none c.args.rows.rows.now c.args.i c.args.j c.both_triangles.ensures c.if-both_triangles.true c.requires.apart c.requires.i_in_bounds.1 in
    record { i_in_bounds = c.requires.i_in_bounds; i_value = distinct; by_index = other }

pub cells_right-requires : goal.cells_right-requires
cells_right-requires c = let a = cell_few c.args.rows.none c.args.rows.rows.now c.args.i in
    let b = cell_few c.args.rows.none c.args.rows.rows.now c.args.j in
    rw (c.cell.ensures, c.cell-else-both_triangles.ensures) (a.0, a.1, b.0, b.1, c.requires.apart.apart _ c.requires.i_in_bounds.0)

pub returns-then-both_triangles : goal.returns-then-both_triangles
returns-then-both_triangles c = both_have c.args.rows.none c.args.rows.rows.now c.args.i c.args.j c.both_triangles.ensures c.if-both_triangles.true cells_right c.triangles_right.ensures

pub returns-else-both_triangles : goal.returns-else-both_triangles
returns-else-both_triangles c = c.cells_right.ensures ∙ ap₂ cells_right c.cell.ensures c.cell-else-both_triangles.ensures
