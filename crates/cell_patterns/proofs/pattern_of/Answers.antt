-- `cell_patterns::pattern_of` meets its contract: two triangles, or cells of any kinds. Assumes nothing.
use mathlib.Core.Path.{refl, subst}
use Rattle.cell_pairs.specs.Records.{IsPattern}
use Rattle.cell_pairs.specs.Patterns.{cells_pattern}
use Rattle.cell_patterns.specs.PatternFacts.{cell_few, both_apart, both_have}
use Rattle.cell_patterns.proofs.pattern_of.Goals as goal

pub triangles_pattern-requires : goal.triangles_pattern-requires
triangles_pattern-requires c = record { i_in_bounds = c.requires.i_in_bounds; i_value = both_apart c.args.rows.none c.args.rows.rows.now c.args.i c.args.j c.both_triangles.ensures c.if-both_triangles.true c.requires.i_value.0 c.requires.i_value.1 }

pub cells_pattern-requires : goal.cells_pattern-requires
cells_pattern-requires c = let a = cell_few c.args.rows.none c.args.rows.rows.now c.args.i in
    let b = cell_few c.args.rows.none c.args.rows.rows.now c.args.j in
    rw (c.cell.ensures, c.cell-else-both_triangles.ensures) (a.0, a.1, b.0, b.1, c.requires.i_value.0)

pub returns-then-both_triangles : goal.returns-then-both_triangles
returns-then-both_triangles c =
    subst (IsPattern c.triangles_pattern.result) (both_have c.args.rows.none c.args.rows.rows.now c.args.i c.args.j c.both_triangles.ensures c.if-both_triangles.true cells_pattern refl) c.triangles_pattern.ensures

pub returns-else-both_triangles : goal.returns-else-both_triangles
returns-else-both_triangles c = rw (← c.cell.ensures, ← c.cell-else-both_triangles.ensures) c.cells_pattern.ensures
