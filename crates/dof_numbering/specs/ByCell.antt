-- The visits of a cell: how many there are, what each meets, and where its DOFs stand in the DOF list. Assumes nothing.
use Prim.Native.Nat.{ℕ, ◌<◌}
use Rattle.std.specs.Prelude.{◌≡◌}
use Rattle.std.proofs.Math.ListN.{length}
use Rattle.grid.specs.Cells.{before, own}
use Rattle.function.specs.Elements.{Space}
use Rattle.dof_numbering.specs.Numbering.{element_on}

-- the vertex list and the edge list of C cells are as long as the kinds say
pub record Filled (s : Space) (C : ℕ) : Type 0 where
  pub vertices_long : length s.cell_vertices ≡ before own s.kinds C
  pub edges_long : length s.cell_edges ≡ before own s.kinds C

-- all cells have the same a, and the same b; c goes by the kind
pub record Matched (s : Space) (C : ℕ) : Type 0 where
  pub vertices : (i j : ℕ) → i < C → j < C → (element_on s i).a ≡ (element_on s j).a
  pub edges : (i j : ℕ) → i < C → j < C → (element_on s i).b ≡ (element_on s j).b
