-- `lent_numbers::TouchingNumbers::numbers_right` meets its contract: the tests are the definition's. Assumes nothing.
use Rattle.lent_numbers.specs.Forms.{touching_numbers_by_side}
use Rattle.lent_numbers.proofs.TouchingNumbers.numbers_right.Goals as goal

pub returns : goal.returns
returns c f m n =
    rw (c.all_finite.ensures, c.all_finite-2.ensures, c.numbers_right.ensures, c.numbers_right-2.ensures, c.test.ensures, c.trial.ensures) (touching_numbers_by_side f m n c.args.self)
