-- What a record of the work list can be. Assumes nothing.
use Rattle.std.specs.Prelude.{ℕ, ◌<◌, ◌≤◌, ◌≡◌, Bool, true, false, eqb}
use Rattle.lists.specs.Bool.{◌and◌}
use Rattle.grid.specs.Mesh.{Mesh}
use Rattle.cell_pairs.specs.declared.WorkRecord.{WorkRecord}
use Rattle.cell_pairs.specs.Records.{pattern_count, distant_pattern}
use Rattle.cell_pairs.specs.Patterns.{identical_pattern, touch, pair_pattern}
use Rattle.cell_pairs.specs.WorkList.{distant_pairs}

-- it is of test cell i and trial cell j
abbrev pub of_pair : ℕ → ℕ → WorkRecord → Bool
of_pair i j r = eqb r.test i and eqb r.trial j

-- its pattern is that of a cell with itself
abbrev pub identical : WorkRecord → Bool
identical r = identical_pattern r.pattern

-- distant: two cells of the mesh that share no vertex, and the pattern of such a pair
pub record Distant (m : Mesh) (r : WorkRecord) : Type 0 where
  pub test_cell : r.test < m.cells
  pub trial_cell : r.trial < m.cells
  pub apart : touch m r.test r.trial ≡ false
  pub marked : r.pattern ≡ distant_pattern

-- touching: two cells of the mesh that share a vertex, and their pattern, 0 to 148
pub record Touching (m : Mesh) (r : WorkRecord) : Type 0 where
  pub test_cell : r.test < m.cells
  pub trial_cell : r.trial < m.cells
  pub meet : touch m r.test r.trial ≡ true
  pub marked : r.pattern ≡ pair_pattern m r.test r.trial
  pub known : r.pattern < pattern_count

-- record k of the work list: the first N are distant, those that follow touching
pub record Right (m : Mesh) (k : ℕ) (r : WorkRecord) : Type 0 where
  pub test_cell : r.test < m.cells
  pub trial_cell : r.trial < m.cells
  pub distant : k < distant_pairs m → Distant m r
  pub touching : distant_pairs m ≤ k → Touching m r
