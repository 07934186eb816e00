-- The cells by vertex: the touching pairs are looked for among these. (The cells by kind and colour, `coloured`, stand with the work list.) Assumes nothing.
use Rattle.std.specs.Prelude.{ℕ, List}
use Rattle.lists.specs.Range.{range, filter}
use Rattle.grid.specs.Cells.{has}
use Rattle.grid.specs.Mesh.{Mesh, corners}

-- the cells that have the vertex v, rising
unfoldable pub at_vertex : Mesh → ℕ → List ℕ
at_vertex m v = filter (λ i. has (corners m i) v) (range m.cells)
