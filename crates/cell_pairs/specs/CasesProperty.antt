-- The theorem on the 27 cases (change 2): they are all the lists of one or two shared vertices that there can be, each once, with the numbers 0 to 26,
-- and these are the formula's. Assumes nothing.
use Rattle.std.specs.Prelude.{ℕ, ◌<◌, ◌≡◌, true, ◌⊎◌, List, length}
use Rattle.lists.specs.Refusals.{refusal}
use Rattle.grid.specs.Mesh.{Mesh, corners, vertex_places, vertices_right, mesh_checks}
use Rattle.cell_pairs.specs.Matches.{Match, matches, pattern_of}
use Rattle.cell_pairs.specs.Patterns.{pair_pattern}
use Rattle.cell_pairs.specs.Cases.{cases, case_at, can_be, Triangle, shared_vertices, two_cells}

pub record CasesProperty : Type 0 where
  -- numbers 0 to 26: there are 27 cases, and the one at place k has the number k
  pub many : length cases ≡ 27
  pub numbers : (k : ℕ) → k < 27 → (case_at k).number ≡ k
  -- all: each list that there can be is the list of a case, and no case has any other
  pub all : (ms : List Match) → can_be ms ≡ true → (k : ℕ) × (k < 27) × ((case_at k).shared ≡ ms)
  pub no_other : (k : ℕ) → k < 27 → can_be (case_at k).shared ≡ true
  -- each once: no two cases have the same list
  pub once : (k l : ℕ) → k < 27 → l < 27 → (case_at k).shared ≡ (case_at l).shared → k ≡ l
  -- the number of each is the formula's
  pub formula : (k : ℕ) → k < 27 → (case_at k).number ≡ pattern_of (case_at k).shared
  -- nothing is left over: on a mesh that passes checks 1, 26 and 2, two triangles share as many vertices as their list has
  pub counted : (m : Mesh) → vertex_places m ≡ true → vertices_right m ≡ true → (i j : ℕ) → Triangle m i → Triangle m j
      → shared_vertices m i j ≡ length (matches (corners m i) (corners m j))
  -- and where they share one or two, it is a list that there can be, that of the case whose number is their pattern; which is the formula's
  pub meshes : (m : Mesh) → vertex_places m ≡ true → vertices_right m ≡ true → (i j : ℕ) → Triangle m i → Triangle m j
      → (shared_vertices m i j ≡ 1) ⊎ (shared_vertices m i j ≡ 2)
      → (can_be (matches (corners m i) (corners m j)) ≡ true)
      × (pair_pattern m i j < 27)
      × ((case_at (pair_pattern m i j)).shared ≡ matches (corners m i) (corners m j))
      × (pair_pattern m i j ≡ pattern_of (matches (corners m i) (corners m j)))
  -- no case is idle: each is the list of the two cells of a mesh that passes checks 1 to 3
  pub occurs : (k : ℕ) → k < 27
      → (refusal (mesh_checks (two_cells (case_at k).shared)) ≡ 0)
      × (matches (corners (two_cells (case_at k).shared) 0) (corners (two_cells (case_at k).shared) 1) ≡ (case_at k).shared)
