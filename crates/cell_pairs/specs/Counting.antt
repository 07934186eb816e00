-- The counting theorem: each ordered pair of cells stands on the work list exactly once; N of them are distant and come first, S are touching and
-- follow, S + N = C·C, and the touching pairs per two kinds add up to S. Assumes nothing.
use Prim.Native.Nat.{ℕ, ◌<◌}
use Rattle.std.specs.Prelude.{◌≡◌, Bool, true, get_or, eqb}
use Rattle.lists.specs.Bool.{◌and◌}
use mathlib.Core.List.{List}
use Rattle.std.proofs.Math.ListN.{length}
use Rattle.grid.specs.Mesh.{Mesh, kind, corners}
use Rattle.grid.specs.KindsFacts.{Kinded}
use Rattle.cell_pairs.specs.Records.{pattern_count}
use Rattle.cell_pairs.specs.Patterns.{touch, pair_pattern}

-- ---- what the theorem asks of mesh, batch size and colours

-- of the mesh
pub record Patterned (m : Mesh) : Type 0 where
  -- each cell has a kind, 3 or 4, and as many vertices as it says
  pub kinds : Kinded m.cells m.kinds
  pub long : (i : ℕ) → i < m.cells → length (corners m i) ≡ kind m i
  -- each vertex of a cell is below V
  pub vertices : (i p : ℕ) → p < length (corners m i) → get_or (corners m i) p 0 < m.vertices
  -- each pair that shares a vertex has a pattern of the table
  pub patterns : (i j : ℕ) → i < m.cells → j < m.cells → touch m i j ≡ true → pair_pattern m i j < pattern_count

pub record Countable (m : Mesh) (B : ℕ) (ts rs : List ℕ) : Type 0 where
  pub mesh : Patterned m
  -- a batch holds a cell
  pub batch : 0 < B
  -- each cell has a colour for the test and for the trial element
  pub test_colours : length ts ≡ m.cells
  pub trial_colours : length rs ≡ m.cells

-- two cells of kinds n and k
abbrev pub of_kinds : Mesh → ℕ → ℕ → ℕ → ℕ → Bool
of_kinds m n k i j = eqb (kind m i) n and eqb (kind m j) k
