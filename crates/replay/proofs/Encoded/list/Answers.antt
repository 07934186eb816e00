-- `replay::Encoded::list` meets its contract: it is the part between the two places. Assumes nothing.
use Rattle.replay.specs.Encoding.{list_in}
use Rattle.replay.proofs.Encoded.list.Goals as goal

pub returns : goal.returns
unfolding list_in
returns c = c.part_of.ensures
