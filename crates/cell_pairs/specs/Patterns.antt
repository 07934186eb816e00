-- Touching pairs (`get_pairs_if_smallest`): the pattern of two cells, by the table; their smallest shared vertex; check 7, and the test of cells with the same vertices. A cell is the list of its
-- vertices. Assumes nothing.
use Rattle.std.specs.Prelude.{ℕ, Bool, not, List, length, get_or, eqb, ltb}
use Rattle.lists.specs.Bool.{◌and◌, ◌or◌}
use Rattle.lists.specs.Bounded.{all, least}
use Rattle.grid.specs.Cells.{has, share}
use Rattle.grid.specs.Mesh.{Mesh, corners}
use Rattle.cell_pairs.specs.Records.{pattern_count}
use Rattle.cell_pairs.specs.Matches.{matches}
use Rattle.cell_pairs.specs.Table.{pattern, number_of}

-- the pattern of a test cell and a trial cell: the table's number of their kinds and of the vertices that they share
abbrev pub cells_pattern : List ℕ → List ℕ → ℕ
cells_pattern xs ys = number_of (pattern (length xs) (length ys) (matches xs ys))

-- the patterns of a cell with itself: 27 of a triangle, 148 of a quad
abbrev pub identical_pattern : ℕ → Bool
identical_pattern p = eqb p 27 or eqb p 148

-- check 7 of a test cell and a trial cell: they share no vertex, or have a pattern of the table
abbrev pub cells_right : List ℕ → List ℕ → Bool
cells_right xs ys = not (share xs ys) or ltb (cells_pattern xs ys) pattern_count

-- two cells have the same vertices, whatever their order: each vertex of one is a vertex of the other
unfoldable pub same_vertices : List ℕ → List ℕ → Bool
same_vertices xs ys = all (length xs) (λ p. has ys (get_or xs p 0)) and all (length ys) (λ q. has xs (get_or ys q 0))

-- the smallest vertex, below top, that two cells share; top where they share none
unfoldable pub smallest_shared : ℕ → List ℕ → List ℕ → ℕ
smallest_shared top xs ys = least top (λ x. has xs x and has ys x)

-- ---- of a mesh

-- cells i and j share a vertex
abbrev pub touch : Mesh → ℕ → ℕ → Bool
touch m i j = share (corners m i) (corners m j)

-- the pattern of test cell i and trial cell j, and their smallest shared vertex
abbrev pub pair_pattern : Mesh → ℕ → ℕ → ℕ
pair_pattern m i j = cells_pattern (corners m i) (corners m j)

abbrev pub pair_vertex : Mesh → ℕ → ℕ → ℕ
pair_vertex m i j = smallest_shared m.vertices (corners m i) (corners m j)

-- no cell has the same vertices as an earlier one
unfoldable pub cells_differ : Mesh → Bool
cells_differ m = all m.cells (λ i. all i (λ j. not (same_vertices (corners m i) (corners m j))))

-- 7: each pair that shares a vertex has a pattern of the table
unfoldable pub patterns_right : Mesh → Bool
patterns_right m = all m.cells (λ i. all m.cells (λ j. not (touch m i j) or ltb (pair_pattern m i j) pattern_count))
