-- Rows: four numbers for each cell in a flat list, as code reads the vertices of the cells, or their edges. A triangle has three, and in the fourth place
-- `none`, which is the number of no vertex and of no edge. Assumes nothing.
use Rattle.std.specs.Prelude.{ℕ, ◌+◌, ◌*◌, Bool, cond, get_or, eqb}
use mathlib.Core.List.{List, [], ◌∷◌, ◌++◌, flat_map}
use Rattle.lists.specs.Range.{range, when}
use Rattle.grid.specs.Cells.{part, own, has as has_number, share as share_number}

-- the row of cell i: its numbers, and `none` where these are three
unfoldable pub row_of : ℕ → List ℕ → List ℕ → ℕ → List ℕ
row_of none ks l i = part own ks l i ++ when (eqb (get_or ks i 0) 3) (none ∷ [])

-- those of C cells, one after the other
unfoldable pub rows_of : ℕ → List ℕ → List ℕ → ℕ → List ℕ
rows_of none ks l C = flat_map (row_of none ks l) (range C)

-- number p, 0 to 3, of row i
abbrev pub entity : List ℕ → ℕ → ℕ → ℕ
entity rows i p = get_or rows (4 * i + p) 0

-- row i, and the numbers of the cell in it: the first three where the fourth is `none`
abbrev pub row : List ℕ → ℕ → List ℕ
row rows i = entity rows i 0 ∷ entity rows i 1 ∷ entity rows i 2 ∷ entity rows i 3 ∷ []

unfoldable pub cell_in : ℕ → List ℕ → ℕ → List ℕ
cell_in none rows i = cond (eqb (entity rows i 3) none) (entity rows i 0 ∷ entity rows i 1 ∷ entity rows i 2 ∷ []) (row rows i)

-- the fourth number of cell i, or where it has none its first again
unfoldable pub fourth_or_first : ℕ → List ℕ → ℕ → ℕ
fourth_or_first none rows i = cond (eqb (entity rows i 3) none) (entity rows i 0) (entity rows i 3)

-- x is one of the numbers of cell i, and cells i and j share one
abbrev pub has : ℕ → List ℕ → ℕ → ℕ → Bool
has none rows i x = has_number (cell_in none rows i) x

abbrev pub share : ℕ → List ℕ → ℕ → ℕ → Bool
share none rows i j = share_number (cell_in none rows i) (cell_in none rows j)
