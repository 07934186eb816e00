-- The theorem on the table of patterns (change 3): there are 149, in four blocks, each at the formula's number, no two with the same kinds and pairs; and the
-- first 28 are those of two triangles, with the numbers that they have. Assumes nothing.
use Rattle.std.specs.Prelude.{ℕ, ◌<◌, ◌≡◌, true, cond, List, ◌++◌, length, ltb}
use Rattle.cell_pairs.specs.Matches.{Match, pattern_of}
use Rattle.cell_pairs.specs.Cases.{case_at}
use Rattle.cell_pairs.specs.Table.{pattern, table, pattern_at, from_to, number_of, block, formula_number, of_two_triangles}

pub record TableProperty : Type 0 where
  pub many : length table ≡ 149
  -- four blocks, by the kinds of the test and of the trial cell; each lists vertices, edges, then the identical cell if the kinds agree
  pub blocks : table ≡ block 3 3 ++ block 3 4 ++ block 4 3 ++ block 4 4
  -- two triangles have 0 to 27, a triangle test with a quad trial 28 to 63, quad and triangle 64 to 99, two quads 100 to 148
  pub places : (from_to 0 27 ≡ block 3 3) × (from_to 28 63 ≡ block 3 4) × (from_to 64 99 ≡ block 4 3) × (from_to 100 148 ≡ block 4 4)
  -- the number of each is the formula's
  pub formula : (k : ℕ) → k < 149 → formula_number (pattern_at k) ≡ k
  -- each once: no two have the same kinds and pairs
  pub once : (k l : ℕ) → k < 149 → l < 149 → pattern_at k ≡ pattern_at l → k ≡ l
  -- the first 28 are of two triangles, and their numbers are those of the triangle formula
  pub triangles : (k : ℕ) → k < 28 → ((pattern_at k).test ≡ 3) × ((pattern_at k).trial ≡ 3) × (pattern_of (pattern_at k).shared ≡ k)
  -- the first 27 of them are the cases of change 2
  pub cases : (k : ℕ) → k < 27 → pattern_at k ≡ pattern 3 3 (case_at k).shared
  -- and nothing else of two triangles has a number: whatever they share, their number in the table is the triangle formula's where this is below 28, and
  -- none (149) where it is not
  pub numbers : (ms : List Match) → of_two_triangles ms ≡ true → number_of (pattern 3 3 ms) ≡ cond (ltb (pattern_of ms) 28) (pattern_of ms) 149
