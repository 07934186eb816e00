-- The touching part, block after block of the pattern table: how many records each block has, which are the touching pairs per two kinds, and what these numbers say
-- of a record's place. Assumes nothing.
use Rattle.std.specs.Prelude.{ℕ, ◌+◌, ◌-◌, ◌*◌, min, cond, ◌≡◌, List, [], ◌∷◌, ◌++◌, length, ltb}
use mathlib.Core.List.{flat_map}
use Rattle.lists.specs.Range.{range, AllIn}
use Rattle.grid.specs.Mesh.{Mesh, kind}
use Rattle.cell_pairs.specs.declared.WorkRecord.{WorkRecord}
use Rattle.cell_pairs.specs.Records.{pattern_count}
use Rattle.cell_pairs.specs.WorkList.{touching_pattern, sharing_of}

-- so many touching pairs of one test kind and one trial kind
pub record Block : Type 0 where
  pub test_kind : ℕ
  pub trial_kind : ℕ
  pub pairs : ℕ

abbrev pub block : ℕ → ℕ → ℕ → Block
block n k s = record { test_kind = n; trial_kind = k; pairs = s }

-- the blocks of a mesh, in the order of the table
abbrev pub blocks_of : Mesh → List Block
blocks_of m = block 3 3 (sharing_of m 3 3) ∷ block 3 4 (sharing_of m 3 4) ∷ block 4 3 (sharing_of m 4 3) ∷ block 4 4 (sharing_of m 4 4) ∷ []

-- the block that has touching record q
unfoldable pub block_at : List Block → ℕ → Block
block_at [] q = block 0 0 0
block_at (b ∷ bs) q = cond (ltb q b.pairs) b (block_at bs (q - b.pairs))

-- the entries of the first q touching records, where one of test kind n and trial kind k has size n k of them
unfoldable pub entries_before : (ℕ → ℕ → ℕ) → List Block → ℕ → ℕ
entries_before size [] q = 0
entries_before size (b ∷ bs) q = min q b.pairs * size b.test_kind b.trial_kind + entries_before size bs (q - b.pairs)

-- ---- records that come block after block

-- a record of test kind n and trial kind k
pub record OfKinds (m : Mesh) (n k : ℕ) (r : WorkRecord) : Type 0 where
  pub test : kind m r.test ≡ n
  pub trial : kind m r.trial ≡ k

-- first those of the first block, as many as it says and of its kinds, and then those of the other blocks
unfoldable pub Blocked : Mesh → List Block → List WorkRecord → Type 0
Blocked m [] rs = rs ≡ []
Blocked m (b ∷ bs) rs =
    (xs : List WorkRecord) × (ys : List WorkRecord) × (rs ≡ xs ++ ys) × (length xs ≡ b.pairs) × AllIn (OfKinds m b.test_kind b.trial_kind) xs × Blocked m bs ys

-- how many touching records have a pattern below 28, below 64, below 100, and below 149
pub record BlockEnds (m : Mesh) : Type 0 where
  pub first : length (flat_map (touching_pattern m) (range 28)) ≡ sharing_of m 3 3
  pub second : length (flat_map (touching_pattern m) (range 64)) ≡ sharing_of m 3 3 + sharing_of m 3 4
  pub third : length (flat_map (touching_pattern m) (range 100)) ≡ sharing_of m 3 3 + sharing_of m 3 4 + sharing_of m 4 3
  pub fourth : length (flat_map (touching_pattern m) (range pattern_count)) ≡ sharing_of m 3 3 + sharing_of m 3 4 + sharing_of m 4 3 + sharing_of m 4 4
