-- `pattern_table::table_row` meets its contract: the constant is the codes of the table, row by row, which antt computes. Assumes nothing.
use mathlib.Core.Path.{refl}
use Rattle.cell_pairs.specs.Table.{table}
use Rattle.pattern_table.specs.Numbers.{code_on, code_of, table_rows}
use Rattle.pattern_table.proofs.table_row.Goals as goal

pub returns : goal.returns
unfolding table_rows code_of code_on table
returns c = refl
