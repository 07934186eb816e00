-- `cell_pair_assemblers::add_touching` meets its contract: the invariant is that the entries are the sums of the points passed. Assumes nothing.
use Rattle.integrands.specs.Columns.{Held}
use Rattle.lent_numbers.specs.Forms.{touching_of}
use Rattle.cell_pair_assemblers.specs.Facts.{touching_sum}
use Rattle.cell_pair_assemblers.proofs.add_touching.Given as goal

abbrev pub invariant-loop-q : goal.invariant-loop-q
invariant-loop-q g l = Held l.fn.local.test_dim l.fn.local.trial_dim l.entries (λ i j. touching_sum l.fn.local.integrand (touching_of l.lent) i j l.q)
