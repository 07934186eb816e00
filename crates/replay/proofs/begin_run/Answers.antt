-- `replay::begin_run` meets its contract. Assumes nothing.
use Rattle.replay.proofs.begin_run.Goals as goal

pub returns-then-entries : goal.returns-then-entries
returns-then-entries c = rw c.if-entries.true c.begin_entries.ensures

pub returns-else-entries : goal.returns-else-entries
returns-else-entries c = rw c.if-entries.false c.begin.ensures
