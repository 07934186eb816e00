-- Cells with the same vertices, as the code reads them: in rows of four numbers a cell, where the fourth of a triangle is `none`. Assumes nothing.
use Rattle.std.specs.Prelude.{ℕ, Bool, not, List, ltb}
use Rattle.lists.specs.Bool.{◌and◌}
use Rattle.lists.specs.Bounded.{all}
use Rattle.grid.specs.Rows.{cell_in}
use Rattle.cell_pairs.specs.Patterns.{same_vertices}

-- cell i has not the same vertices as an earlier cell
abbrev pub differs_in : ℕ → List ℕ → ℕ → Bool
differs_in none rows i = all i (λ j. not (same_vertices (cell_in none rows i) (cell_in none rows j)))

-- of C cells
unfoldable pub differ_in : ℕ → ℕ → List ℕ → Bool
differ_in none C rows = all C (λ i. differs_in none rows i)

-- cell j is earlier than cell i and has the same vertices
abbrev pub earlier : ℕ → List ℕ → ℕ → ℕ → Bool
earlier none rows i j = ltb j i and same_vertices (cell_in none rows i) (cell_in none rows j)
