-- `lent_numbers::DistantNumbers::numbers_right` meets its contract: the tests are the definition's. Assumes nothing.
use Rattle.lent_numbers.specs.Forms.{distant_numbers_by_side}
use Rattle.lent_numbers.proofs.DistantNumbers.numbers_right.Goals as goal

pub returns : goal.returns
returns c f m n =
    rw (c.all_finite.ensures, c.all_finite-2.ensures, c.all_finite-3.ensures, c.numbers_right.ensures, c.numbers_right-2.ensures) (distant_numbers_by_side f m n c.args.self)
