-- `cell_patterns::shared::Meeting::pattern_number` meets its contract: the row of the table where the formula points has the pattern, or none
-- has. Assumes nothing.
use mathlib.Core.Path.{sym}
use native.Mathlib.Omega.{arith}
use Rattle.cell_patterns.specs.TableRows.{shared_decimal}
use Rattle.cell_patterns.specs.FormulaFacts.{formula_at, number_here, number_other, number_past}
use Rattle.cell_patterns.proofs.shared.Meeting.pattern_number.Goals as goal

pub returns-then-table_row-code : goal.returns-then-table_row-code
returns-then-table_row-code c = (
  number_here _ (formula_at c.args.self.n c.args.self.k _ c.block_start.ensures.0 c.in_ok-r.ensures.0) c.if-r-lt-NO_PATTERN.true
      (shared_decimal _ _ c.args.self.shared.now c.args.self.le_n.0 c.args.self.le_n.1 c.args.self.le_n.3 c.args.self.small) c.table_row.ensures c.code.ensures c.if-table_row-code.true,
  c.if-r-lt-NO_PATTERN.true,
)

pub returns-else-table_row-code : goal.returns-else-table_row-code
returns-else-table_row-code c =
    sym
    (number_other _ (formula_at c.args.self.n c.args.self.k _ c.block_start.ensures.0 c.in_ok-r.ensures.0) c.if-r-lt-NO_PATTERN.true
    (shared_decimal _ _ c.args.self.shared.now c.args.self.le_n.0 c.args.self.le_n.1 c.args.self.le_n.3 c.args.self.small) c.table_row.ensures c.code.ensures c.if-table_row-code.false)

pub returns-else-r-lt-NO_PATTERN : goal.returns-else-r-lt-NO_PATTERN
returns-else-r-lt-NO_PATTERN c = sym (number_past _ (formula_at _ _ _ c.block_start.ensures.0 c.in_ok-r.ensures.0) (omega (arith, c.if-r-lt-NO_PATTERN.false)))

pub returns-in_err-r : goal.returns-in_err-r
returns-in_err-r c =
    rw c.from_residual.ensures (sym (number_past _ (formula_at _ _ _ c.block_start.ensures.0 (sym c.in_err-r.ensures)) (omega arith)))
