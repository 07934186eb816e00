-- The work order: distant pairs first, touching pairs follow; and how many there are of each. Assumes nothing.
use Rattle.std.specs.Prelude.{ℕ, ◌+◌, ◌-◌, ◌/◌, Bool, not, length, get_or, eqb}
use mathlib.Core.List.{List, [], ◌∷◌, ◌++◌, flat_map}
use Rattle.lists.specs.Bool.{◌and◌}
use Rattle.lists.specs.Range.{range, when, filter, batch}
use Rattle.lists.specs.Total.{total, count}
use Rattle.grid.specs.Mesh.{Mesh, kind, kinds_present}
use Rattle.function.specs.Colours.{colour_count}
use Rattle.cell_pairs.specs.declared.WorkRecord.{WorkRecord}
use Rattle.cell_pairs.specs.Records.{rec, pattern_count, distant_pattern}
use Rattle.cell_pairs.specs.Patterns.{touch, pair_pattern, pair_vertex}

-- the cells of kind n and of colour c, rising; cs are the colours of the cells
unfoldable pub coloured : Mesh → List ℕ → ℕ → ℕ → List ℕ
coloured m cs n c = filter (λ i. eqb (kind m i) n and eqb (get_or cs i 0) c) (range m.cells)

-- a batch has at most 65,535 cells
abbrev pub most_batch : ℕ
most_batch = 65535

-- the numbers of the batches that cut the cells into B: the last may be shorter
abbrev pub batches : ℕ → List ℕ → List ℕ
batches B cells = range ((length cells + (B - 1)) / B)

-- a distant pair, where `near` tells the pairs that share a vertex: these are skipped
unfoldable pub distant_pair : (ℕ → ℕ → Bool) → ℕ → ℕ → List WorkRecord
distant_pair near i j = when (not (near i j)) (rec distant_pattern i j ∷ [])

-- a pair of batches: trial cell, test cell
unfoldable pub distant_batch : (ℕ → ℕ → Bool) → List ℕ → List ℕ → List WorkRecord
distant_batch near tests trials = flat_map (λ j. flat_map (λ i. distant_pair near i j) tests) trials

-- a pair of colours: test batch, trial batch
unfoldable pub distant_colours : (ℕ → ℕ → Bool) → ℕ → List ℕ → List ℕ → List WorkRecord
distant_colours near B tests trials =
    flat_map (λ b. flat_map (λ d. distant_batch near (batch B b tests) (batch B d trials)) (batches B trials)) (batches B tests)

-- test kind n and trial kind k: test colour, trial colour. Colour numbers are common to all kinds, and each kind has its own cut into batches
unfoldable pub distant_kinds : Mesh → ℕ → List ℕ → List ℕ → ℕ → ℕ → List WorkRecord
distant_kinds m B ts rs n k =
    flat_map (λ c. flat_map (λ d. distant_colours (touch m) B (coloured m ts n c) (coloured m rs k d)) (range (colour_count rs))) (range (colour_count ts))

-- distant pairs, the outermost key first: test kind, trial kind, triangles first; test colour, trial colour, test batch, trial batch, trial cell, test
-- cell. ts and rs are the colours of the cells for the test and for the trial element
unfoldable pub distant_part : Mesh → ℕ → List ℕ → List ℕ → List WorkRecord
distant_part m B ts rs = flat_map (λ n. flat_map (λ k. distant_kinds m B ts rs n k) (kinds_present m.kinds)) (kinds_present m.kinds)

-- a touching pair, at its pattern p and at its smallest shared vertex v
unfoldable pub touching_pair : Mesh → ℕ → ℕ → ℕ → ℕ → List WorkRecord
touching_pair m p v i j =
    when (eqb (pair_vertex m i j) v and eqb (pair_pattern m i j) p) (rec p i j ∷ [])

-- the touching pairs of pattern p: vertex, test cell, trial cell, all rising
unfoldable pub touching_pattern : Mesh → ℕ → List WorkRecord
touching_pattern m p = flat_map (λ v. flat_map (λ i. flat_map (λ j. touching_pair m p v i j) (range m.cells)) (range m.cells)) (range m.vertices)

-- touching pairs: pattern (0 to 148), vertex, test cell, trial cell, all rising
unfoldable pub touching_part : Mesh → List WorkRecord
touching_part m = flat_map (touching_pattern m) (range pattern_count)

-- all: distant first, touching pairs follow
unfoldable pub work_list : Mesh → ℕ → List ℕ → List ℕ → List WorkRecord
work_list m B ts rs = distant_part m B ts rs ++ touching_part m

-- S: the ordered pairs of cells that share a vertex, a cell with itself included
unfoldable pub sharing_pairs : Mesh → ℕ
sharing_pairs m = total (λ i. count (λ j. touch m i j) (range m.cells)) (range m.cells)

-- of them, those whose test cell is of kind n and whose trial cell is of kind k
unfoldable pub sharing_of : Mesh → ℕ → ℕ → ℕ
sharing_of m n k = total (λ i. count (λ j. touch m i j and (eqb (kind m i) n and eqb (kind m j) k)) (range m.cells)) (range m.cells)

-- N: those that share none
unfoldable pub distant_pairs : Mesh → ℕ
distant_pairs m = total (λ i. count (λ j. not (touch m i j)) (range m.cells)) (range m.cells)
