-- Coincident cells: what follows on a mesh of which no two cells have the same vertices. The pattern of a cell with itself stands at (i, i) alone, C times in
-- all; and of triangles alone nothing is left for check 7. Assumes nothing.
use Prim.Native.Nat.{ℕ, ◌<◌}
use Rattle.std.specs.Prelude.{◌≡◌, true}
use Rattle.grid.specs.Cells.{distinct}
use Rattle.grid.specs.Mesh.{Mesh, corners}
use Rattle.cell_pairs.specs.Patterns.{same_vertices}

-- no vertex stands twice in a cell, and cells with the same vertices are one cell
pub record Single (m : Mesh) : Type 0 where
  pub apart : (i : ℕ) → i < m.cells → distinct (corners m i) ≡ true
  pub one : (i j : ℕ) → i < m.cells → j < m.cells → same_vertices (corners m i) (corners m j) ≡ true → i ≡ j
