-- `lent_numbers::DistantNumbers::lengths_right` meets its contract: no product wraps, and the tests are the definition's. Assumes nothing.
use Rattle.lent_numbers.specs.Forms.{distant_lengths_by_side}
use Rattle.lent_numbers.proofs.DistantNumbers.lengths_right.Goals as goal

pub returns : goal.returns
returns c = rw c.pair_lengths_right.ensures (distant_lengths_by_side c.args.local c.args.self)
