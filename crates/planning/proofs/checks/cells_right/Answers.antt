-- `planning::checks::cells_right` meets its contract: the array is long enough. Assumes nothing.
use Rattle.std.proofs.Common.{ℕ, ap, sym, arith, ◌*◌, ◌∙◌}
use Rattle.grid.specs.Mesh.{most_cells}
use Rattle.grid.specs.Facts.{vertices_shaped}
use Rattle.cells_by_key.specs.GroupsFacts.{scratch}
use Rattle.planning.specs.Facts.{rows_below_top, rows_are_padded, rows_distinct, rows_long, patterns_are}
use Rattle.planning.proofs.checks.cells_right.Goals as goal

pub write_rows-requires : goal.write_rows-requires
write_rows-requires c =
    (vertices_shaped _ c.requires, scratch _ (4 * most_cells) (omega (arith, c.wide.ensures, c.requires.few_cells)) ∙ ap (λ (n : ℕ). 4 * n) (c.wide.ensures ∙ sym c.requires.kinds_long))

pub patterns_right-requires : goal.patterns_right-requires
patterns_right-requires c =
    rw c.wide-2.ensures
    (record {
      rows_len = (rows_long c.requires c.write_rows.ensures, c.requires.few_cells, c.requires.few_vertices);
      below = rows_below_top c.requires c.write_rows.ensures;
      padded = rows_are_padded c.requires c.write_rows.ensures;
      by_index = rows_distinct c.requires c.write_rows.ensures;
    })

pub returns : goal.returns
returns c = (rw c.wide-2.ensures at c.patterns_right.ensures) ∙ patterns_are c.requires c.write_rows.ensures
