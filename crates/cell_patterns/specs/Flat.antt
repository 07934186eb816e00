-- Pairs of cells as the code reads them: in rows of four numbers a cell, where the fourth of a triangle is `none`. Assumes nothing.
use Rattle.std.specs.Prelude.{ℕ, Bool, List}
use Rattle.lists.specs.Bounded.{all}
use Rattle.grid.specs.Cells.{distinct}
use Rattle.grid.specs.Rows.{cell_in}
use Rattle.cell_pairs.specs.Patterns.{cells_pattern, smallest_shared}
use Rattle.triangle_patterns.specs.Triangles.{cells_right}

-- no vertex stands twice in cell i
abbrev pub distinct_in : ℕ → List ℕ → ℕ → Bool
distinct_in none rows i = distinct (cell_in none rows i)

-- the pattern of cells i and j, and their smallest shared vertex, below top
abbrev pub pattern_in : ℕ → List ℕ → ℕ → ℕ → ℕ
pattern_in none rows i j = cells_pattern (cell_in none rows i) (cell_in none rows j)

abbrev pub smallest_in : ℕ → List ℕ → ℕ → ℕ → ℕ
smallest_in top rows i j = smallest_shared top (cell_in top rows i) (cell_in top rows j)

-- check 7 of a test cell and a trial cell, and of all pairs of C cells
abbrev pub pair_right : ℕ → List ℕ → ℕ → ℕ → Bool
pair_right none rows i j = cells_right (cell_in none rows i) (cell_in none rows j)

unfoldable pub patterns_in : ℕ → ℕ → List ℕ → Bool
patterns_in none C rows = all C (λ i. all C (λ j. pair_right none rows i j))
