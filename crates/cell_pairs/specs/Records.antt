-- A record of the work list, and how it lies in a list of numbers. Assumes nothing.
use Rattle.std.specs.Prelude.{ℕ, ◌+◌, ◌*◌, ◌<◌, ◌≡◌, Option, None, Some, List, [], ◌∷◌, get_or}
use Rattle.cell_pairs.specs.declared.WorkRecord.{WorkRecord}

-- how many patterns touching pairs have: they are the numbers below it
abbrev pub pattern_count : ℕ
pattern_count = 149

-- what a function answers for two cells whose pattern is n: the number, and None where the table has none, so n is one more than its last
abbrev pub IsPattern : Option ℕ → ℕ → Type 0
IsPattern None n = n ≡ pattern_count
IsPattern (Some p) n = (p ≡ n) × (p < pattern_count)

-- the pattern of a distant pair
abbrev pub distant_pattern : ℕ
distant_pattern = 255

-- pattern, test cell, trial cell
abbrev pub rec : ℕ → ℕ → ℕ → WorkRecord
rec p i j = record { pattern = p; test = i; trial = j }

-- the numbers that a record takes
abbrev pub width : ℕ
width = 3

-- the numbers of records, in order
unfoldable pub flat : List WorkRecord → List ℕ
flat [] = []
flat (r ∷ rs) = r.pattern ∷ r.test ∷ r.trial ∷ flat rs

-- record p of a list of numbers
unfoldable pub record_at : List ℕ → ℕ → WorkRecord
record_at work p = rec (get_or work (width * p) 0) (get_or work (width * p + 1) 0) (get_or work (width * p + 2) 0)

-- the records that a list of numbers holds
unfoldable pub records_of : List ℕ → List WorkRecord
records_of [] = []
records_of (p ∷ []) = []
records_of (p ∷ i ∷ []) = []
records_of (p ∷ i ∷ j ∷ rest) = rec p i j ∷ records_of rest
