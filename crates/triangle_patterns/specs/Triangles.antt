-- Two triangles in rows of four numbers a cell, and check 7 of two cells. Assumes nothing.
use Rattle.std.specs.Prelude.{ℕ, Bool, not, List, [], ◌∷◌, ltb}
use Rattle.lists.specs.Bool.{◌or◌}
use Rattle.grid.specs.Cells.{share}
use Rattle.grid.specs.Rows.{entity}
use Rattle.cell_pairs.specs.Records.{pattern_count}
use Rattle.cell_pairs.specs.Patterns.{cells_pattern}

-- the first three numbers of row i: the vertices of a triangle
abbrev pub three : List ℕ → ℕ → List ℕ
three rows i = entity rows i 0 ∷ entity rows i 1 ∷ entity rows i 2 ∷ []

-- check 7 of a test cell and a trial cell of any kind: they share no vertex, or have a pattern
abbrev pub cells_right : List ℕ → List ℕ → Bool
cells_right xs ys = not (share xs ys) or ltb (cells_pattern xs ys) pattern_count
