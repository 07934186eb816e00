-- A view of a table that reaches over its basis functions. Assumes nothing.
use Rattle.table.specs.declared.Table.{Table}
use Rattle.integrands.specs.Columns as Columns

-- its point is one of its points, and it reaches over its basis functions, at most ten
abbrev pub Covers : Table → Type 0
Covers t = Columns.Table t.rows t.points t.point t.dim t.values.now
