-- See Invariants.antt. Assumes nothing.
use Rattle.std.proofs.Common.{length-append}
use Rattle.cell_pairs.specs.WorkList.{distant_colours}
use Rattle.cells_by_key.specs.GroupsFacts.{cells_batch}
use Rattle.distant_pairs.proofs.Batches.{batched_start, batched_part, batched_room, batched_turn, batched_done}
use Rattle.distant_pairs.proofs.write_colours.Goals as goal

pub loop-test_part-init : goal.loop-test_part-init
loop-test_part-init c =
    let e = c.into_iter-test_part-iterator.ensures.into_iter_gives in
    batched_start _ _ _ (rw e c.chunks-test_part-items.ensures.rest) (rw e c.chunks-test_part-items.ensures.size)

pub loop-trial_part-init : goal.loop-trial_part-init
loop-trial_part-init c =
    let e = c.into_iter-trial_part-iterator.ensures.into_iter_gives in
    batched_start _ _ _ (rw e c.chunks-trial_part-items.ensures.rest) (rw e c.chunks-trial_part-items.ensures.size)

pub write_batch-next-requires-clause-cells : goal.write_batch-next-requires-clause-cells
write_batch-next-requires-clause-cells c =
    rw (batched_part c.loop-test_part.invariant c.requires.batch_nonzero.0 c.in-Some.test_part.now c.next.new.self.rest.now c.next.new.self.size c.in-Some.ensures.steps) (cells_batch _ _ c.requires.cells)

pub write_batch-next-requires-clause-cells_2 : goal.write_batch-next-requires-clause-cells_2
write_batch-next-requires-clause-cells_2 c =
    rw (batched_part c.loop-trial_part.invariant c.requires.batch_nonzero.0 c.in-Some-trial_part.trial_part.now c.next-in-loop-trial_part.new.self.rest.now c.next-in-loop-trial_part.new.self.size c.in-Some-trial_part.ensures.steps) (cells_batch _ _ c.requires.cells_2)

pub write_batch-next-requires-clause-room : goal.write_batch-next-requires-clause-room
unfolding distant_colours
write_batch-next-requires-clause-room c =
    let positive = c.requires.batch_nonzero.0 in
    batched_room c.loop-trial_part.invariant positive c.in-Some-trial_part.trial_part.now c.next-in-loop-trial_part.new.self.rest.now c.next-in-loop-trial_part.new.self.size c.in-Some-trial_part.ensures.steps
    (batched_room c.loop-test_part.invariant positive c.in-Some.test_part.now c.next.new.self.rest.now c.next.new.self.size c.in-Some.ensures.steps c.requires.room)

pub loop-trial_part-preserved : goal.loop-trial_part-preserved
loop-trial_part-preserved c =
    rw length-append
    (batched_turn c.loop-trial_part.invariant c.requires.batch_nonzero.0 c.in-Some-trial_part.trial_part.now c.next-in-loop-trial_part.new.self.rest.now c.next-in-loop-trial_part.new.self.size c.in-Some-trial_part.ensures.steps c.write_batch-next.ensures)

pub loop-test_part-preserved : goal.loop-test_part-preserved
loop-test_part-preserved c =
    let positive = c.requires.batch_nonzero.0 in
    rw length-append
    (batched_turn c.loop-test_part.invariant positive c.in-Some.test_part.now c.next.new.self.rest.now c.next.new.self.size c.in-Some.ensures.steps (batched_done c.loop-trial_part.invariant positive c.in-None-trial_part.ensures.steps.1.0))

pub returns : goal.returns
unfolding distant_colours
returns c = batched_done c.loop-test_part.invariant c.requires.batch_nonzero.0 c.in-None.ensures.steps.1.0
