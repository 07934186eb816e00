-- The lines of a work list given as numbers, and the word before a refusal's number. Assumes nothing.
use Rattle.std.specs.Prelude.{ℕ, ◌/◌, length}
use mathlib.Core.List.{List, [], ◌∷◌, flat_map}
use Rattle.lists.specs.Range.{range}
use Rattle.cell_pairs.specs.Records.{width, record_at}
use Rattle.worklist_text.specs.Text.{line_of}

-- `refused `
abbrev pub refused_word : List ℕ
refused_word = 114 ∷ 101 ∷ 102 ∷ 117 ∷ 115 ∷ 101 ∷ 100 ∷ 32 ∷ []

-- the lines of the records of a list of numbers
unfoldable pub lines_of : List ℕ → List ℕ
lines_of work = flat_map (λ k. line_of (record_at work k)) (range (length work / width))
