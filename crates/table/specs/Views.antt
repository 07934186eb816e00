-- The rows of a view of a table. Assumes nothing.
use Rattle.std.specs.Prelude.{ℕ, Float}
use Rattle.table.specs.declared.Table.{Table}
use Rattle.table.specs.Rows.{table_row}

-- row i of basis function b
abbrev pub row_of : Table → ℕ → ℕ → Float
row_of t b i = table_row t.values.now t.rows t.points t.point b i
