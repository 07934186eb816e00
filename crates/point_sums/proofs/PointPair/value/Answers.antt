-- `point_sums::PointPair::value` meets its contract: the kind is the term's. Assumes nothing.
use Rattle.point_sums.proofs.PointPair.value.Goals as goal

pub returns : goal.returns
returns c = rw c.kind_of-kind.ensures at c.kind_value.ensures
