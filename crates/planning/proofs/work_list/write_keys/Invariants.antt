-- `planning::work_list::write_keys` meets its contract. The invariant: the keys of the cells passed are written. Assumes nothing.
use Rattle.planning.specs.Work.{Keyed}
use Rattle.planning.proofs.work_list.write_keys.Given as goal

abbrev pub invariant-loop-i : goal.invariant-loop-i
invariant-loop-i l = Keyed l.kinds l.side.colours.now l.side.count l.initial.keys l.keys l.i
