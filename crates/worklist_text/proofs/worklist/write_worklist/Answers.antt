-- The text of the numbers that were read, or of the refusal. Assumes nothing.
use Rattle.std.proofs.Common.{arith, ◌∙◌}
use Rattle.worklist_text.specs.WorklistFacts.{numbers_text, numbers_small, refusal_line}
use Rattle.worklist_text.proofs.worklist.write_worklist.Goals as goal

pub write_numbers-requires-clause-few : goal.write_numbers-requires-clause-few
write_numbers-requires-clause-few c = numbers_small c.args.bytes.now c.in-Ok.ensures.value

pub returns-in-Ok : goal.returns-in-Ok
returns-in-Ok c =
    numbers_text c.args.bytes.now c.in-Ok.ensures.value _ _ (omega arith) (omega arith) c.in-Ok.ensures.vertex_list_after c.in-Ok.ensures.edge_list_after c.write_numbers.ensures

pub returns-in-Err : goal.returns-in-Err
returns-in-Err c = c.write_refused.ensures ∙ rw c.number.ensures (refusal_line c.args.bytes.now c.in-Err.ensures.value)
