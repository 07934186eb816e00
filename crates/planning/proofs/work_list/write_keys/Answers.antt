-- See Invariants.antt. Assumes nothing.
use Rattle.planning.specs.Work.{keyed_none}
use Rattle.planning.proofs.work_list.write_keys.Goals as goal

pub loop-i-init : goal.loop-i-init
loop-i-init c = keyed_none _ _ _ _
