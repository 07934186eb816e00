-- The table of patterns as numbers: the code of each. Assumes nothing.
use Rattle.std.specs.Prelude.{ℕ, ◌+◌, ◌*◌, List, [], ◌∷◌, map, get_or}
use Rattle.cell_pairs.specs.Matches.{Match}
use Rattle.cell_pairs.specs.Table.{Pattern, table}

-- the digits of c, then two for each shared vertex: its test place and its trial place
unfoldable pub code_on : ℕ → List Match → ℕ
code_on c [] = c
code_on c (m ∷ ms) = code_on (100 * c + (10 * m.test + m.trial)) ms

-- the code of a pattern: the digit of the test kind, that of the trial kind, then the shared vertices
unfoldable pub code_of : Pattern → ℕ
code_of x = code_on (10 * x.test + x.trial) x.shared

unfoldable pub table_rows : List ℕ
table_rows = map code_of table

-- row r
abbrev pub code_at : ℕ → ℕ
code_at r = get_or table_rows r 0
