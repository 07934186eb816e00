-- See Invariants.antt. Assumes nothing.
use Prim.Native.Nat.{◌+◌, ◌*◌, ◌<◌}
use lib.ListN.{length}
use Rattle.lists.specs.Writes.{turns_start, turns_room, turns_turn, turns_done}
use Rattle.distant_pairs.specs.Distant.{half, distant_tests, distant_rest}
use Rattle.distant_pairs.proofs.Facts.{kind_group}
use Rattle.distant_pairs.proofs.write_kinds.Goals as goal
use Rattle.distant_pairs.proofs.write_kinds.Goals.{In-loop-c, In-loop-d}

-- a turn's group is one of the groups
group : (c : In-loop-c) → c.args.tests.half * half c.args.tests.groups.ends.now + c.loop-c.c < length c.args.tests.groups.ends.now
group c = kind_group _ _ _ c.args.tests.half_bound c.loop-c-test.true

group_2 : (c : In-loop-d) → c.args.trials.half * half c.args.trials.groups.ends.now + c.loop-d.d < length c.args.trials.groups.ends.now
group_2 c = kind_group _ _ _ c.args.trials.half_bound c.loop-d-test.true

pub loop-c-init : goal.loop-c-init
loop-c-init c = turns_start _ _ _ _

pub loop-d-init : goal.loop-d-init
loop-d-init c = turns_start _ _ _ _

pub write_colours-next-requires-clause-cells : goal.write_colours-next-requires-clause-cells
write_colours-next-requires-clause-cells c = rw c.group-test_cells.ensures (c.requires.cut.cells _ (group (goal.at.write_colours-next-requires-clause-cells c).In-loop-c))

pub write_colours-next-requires-clause-room : goal.write_colours-next-requires-clause-room
unfolding distant_tests distant_rest
write_colours-next-requires-clause-room c =
    rw c.group-trial_cells.ensures
    (turns_room c.loop-d.invariant c.loop-d-test.true
    (rw c.group-test_cells.ensures (turns_room c.loop-c.invariant c.loop-c-test.true c.requires.room)))

pub loop-d-preserved : goal.loop-d-preserved
loop-d-preserved c = turns_turn c.loop-d.invariant c.loop-d-test.true (rw c.group-trial_cells.ensures at c.write_colours-next.ensures)

pub loop-c-preserved : goal.loop-c-preserved
unfolding distant_rest
loop-c-preserved c =
    turns_turn c.loop-c.invariant c.loop-c-test.true (rw (← c.group-test_cells.ensures) (turns_done c.loop-d.invariant c.loop-d-test.false))

pub returns : goal.returns
unfolding distant_tests
returns c = turns_done c.loop-c.invariant c.loop-c-test.false
