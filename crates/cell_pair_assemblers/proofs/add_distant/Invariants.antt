-- `cell_pair_assemblers::add_distant` meets its contract: the invariants are that the copy holds the sums of the test points passed, and of the trial
-- points passed of one more. Assumes nothing.
use Rattle.integrands.specs.Columns.{Held}
use Rattle.lent_numbers.specs.Forms.{distant_of}
use Rattle.cell_pair_assemblers.specs.Facts.{distant_rows, distant_sum}
use Rattle.cell_pair_assemblers.proofs.add_distant.Given as goal

abbrev pub invariant-loop-t : goal.invariant-loop-t
invariant-loop-t g l = Held l.fn.local.test_dim l.fn.local.trial_dim l.held (λ i j. distant_rows l.fn.local.integrand (distant_of l.lent) i j l.t)

abbrev pub invariant-loop-r : goal.invariant-loop-r
invariant-loop-r g l = Held l.fn.local.test_dim l.fn.local.trial_dim l.held (λ i j. distant_sum l.fn.local.integrand (distant_of l.lent) i j l.t l.r)
