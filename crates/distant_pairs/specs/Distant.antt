-- The distant part of the work list, level by level, over cells that are laid out by kind and colour: a list of cells, `order`, and where each group of it
-- ends, `ends`. Its first half are the groups of the triangles, colour by colour, the second half those of the quads. `Facts` says that this is `distant_part`
-- of the work list. Assumes nothing.
use Rattle.std.specs.Prelude.{◌≡◌, Bool, ℕ, ◌+◌, ◌*◌, ◌/◌, length, ltb}
use mathlib.Core.List.{List, [], ◌∷◌, flat_map}
use Rattle.lists.specs.Range.{range}
use Rattle.grid.specs.Cells.{share as share_number}
use Rattle.grid.specs.Rows.{entity, row, share, fourth_or_first}
use Rattle.cell_pairs.specs.declared.WorkRecord.{WorkRecord}
use Rattle.cell_pairs.specs.WorkList.{distant_pair, distant_colours}
use Rattle.cells_by_key.specs.Groups.{from, part}

-- a, b, c and d are the vertices of cell j: of a triangle, d is its first again
pub record Corners (none : ℕ) (rows : List ℕ) (j a b c d : ℕ) : Type 0 where
  pub first : a ≡ entity rows j 0
  pub second : b ≡ entity rows j 1
  pub third : c ≡ entity rows j 2
  pub fourth : d ≡ fourth_or_first none rows j

-- one of a, b, c and d is in the row of cell i
unfoldable pub has_one_of : List ℕ → ℕ → ℕ → ℕ → ℕ → ℕ → Bool
has_one_of rows i a b c d = share_number (row rows i) (a ∷ b ∷ c ∷ d ∷ [])

module _ (none : ℕ) (rows : List ℕ) where
  -- one trial cell against a batch of test cells
  unfoldable pub distant_row : List ℕ → ℕ → List WorkRecord
  distant_row tests j = flat_map (λ i. distant_pair (share none rows) i j) tests

-- how many groups there are of each kind
abbrev pub half : List ℕ → ℕ
half ends = length ends / 2

-- there are cells of kind 3 + k
unfoldable pub has_cells : List ℕ → ℕ → Bool
has_cells ends k = ltb (from ends (k * half ends)) (from ends (k * half ends + half ends))

module _ (none : ℕ) (rows : List ℕ) (B : ℕ) where
  -- a test colour against each trial colour of kind 3 + k
  unfoldable pub distant_rest : List ℕ → List ℕ → List ℕ → ℕ → List WorkRecord
  distant_rest tests order ends k = flat_map (λ d. distant_colours (share none rows) B tests (part order ends (k * half ends + d))) (range (half ends))

module _ (none : ℕ) (rows : List ℕ) (B : ℕ) (test_order test_ends trial_order trial_ends : List ℕ) where
  -- each test colour of kind 3 + n against the trial cells of kind 3 + k
  unfoldable pub distant_tests : ℕ → ℕ → List WorkRecord
  distant_tests n k = flat_map (λ c. distant_rest none rows B (part test_order test_ends (n * half test_ends + c)) trial_order trial_ends k) (range (half test_ends))

  -- the test cells of kind 3 + n against each trial kind
  unfoldable pub distant_kind : ℕ → List WorkRecord
  distant_kind n = flat_map (λ k. distant_tests n k) (range 2)

  -- all: each test kind
  unfoldable pub distant_parts : List WorkRecord
  distant_parts = flat_map (λ n. distant_kind n) (range 2)
