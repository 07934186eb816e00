-- `replay::looked` meets its contract: the record stands behind a 0. Assumes nothing.
use Rattle.std.proofs.Common.{refl}
use Rattle.replay.specs.Encoding.{answer_numbers}
use Rattle.replay.proofs.looked.Goals as goal

pub returns-in-Ok : goal.returns-in-Ok
unfolding answer_numbers
returns-in-Ok c = rw c.in-Ok.is refl

pub returns-in-Err : goal.returns-in-Err
returns-in-Err c = rw c.in-Err.is c.refused.ensures
