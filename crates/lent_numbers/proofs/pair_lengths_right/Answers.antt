-- `lent_numbers::pair_lengths_right` meets its contract: no product wraps, and the tests are the definition's. Assumes nothing.
use native.Mathlib.Omega.{arith}
use Rattle.integrands.specs.Columns.{rows_some}
use Rattle.lent_numbers.specs.Sizes.{small_kernel}
use Rattle.lent_numbers.proofs.pair_lengths_right.Goals as goal

pub lengths_right-requires : goal.lengths_right-requires
lengths_right-requires c = rw c.table_rows-rows.ensures ((rows_some c.args.local.integrand).1, c.requires.0.0, c.requires.1)

pub lengths_right-requires-2 : goal.lengths_right-requires-2
lengths_right-requires-2 c = rw c.table_rows-rows.ensures ((rows_some c.args.local.integrand).1, c.requires.0.1, c.requires.2)

pub overflow_mul-result : goal.overflow_mul-result
overflow_mul-result c = rw c.kernel_width-width.ensures (omega (arith, small_kernel c.args.local.integrand c.args.points c.requires.3))
