-- `boundary_assemblers::Run::write_entries` meets its contract: the entry lists have room. Assumes nothing.
use Rattle.boundary_assemblers.specs.EntryFacts.{has_room, written_is}
use Rattle.boundary_assemblers.proofs.Run.write_entries.Goals as goal

pub overflow_sub-self : goal.overflow_sub-self
overflow_sub-self c = c.requires.fit.from

pub entries_to-at-requires : goal.entries_to-at-requires
entries_to-at-requires c = c.requires.standing.ranges.sides

pub write-requires : goal.write-requires
write-requires c = rw (c.entries_to-at.ensures, c.local_matrix.ensures.test, c.local_matrix.ensures.trial) (record { fits = has_room c.requires.standing c.requires.fit })

pub returns-clause-written : goal.returns-clause-written
returns-clause-written c =
    written_is c.requires.standing _ c.args.entries.now
    (rw (c.entries_to-at.ensures, c.local_matrix.ensures.test, c.local_matrix.ensures.trial) at c.write.ensures.rows)
    (rw (c.entries_to-at.ensures, c.local_matrix.ensures.test, c.local_matrix.ensures.trial) at c.write.ensures.columns)
    (rw (c.entries_to-at.ensures, c.local_matrix.ensures.test, c.local_matrix.ensures.trial, c.local_matrix.ensures.entries) at c.write.ensures.values)
