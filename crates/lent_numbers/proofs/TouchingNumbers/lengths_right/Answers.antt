-- `lent_numbers::TouchingNumbers::lengths_right` meets its contract: the tests are the definition's. Assumes nothing.
use Rattle.lent_numbers.specs.Forms.{touching_lengths_by_side}
use Rattle.lent_numbers.proofs.TouchingNumbers.lengths_right.Goals as goal

pub returns : goal.returns
returns c = rw (c.pair_lengths_right.ensures, c.test.ensures, c.trial.ensures) (touching_lengths_by_side c.args.local c.args.self)
