-- `boundary_assemblers::Run::add_distant` meets its contract: it is the add of that sort. Assumes nothing.
use Rattle.runs.specs.Runs.{distant_refusal, add_distant, distant_matrix}
use Rattle.boundary_assemblers.proofs.Run.add_distant.Goals as goal

pub returns : goal.returns
unfolding add_distant distant_matrix distant_refusal
returns c = record { result_value = c.add-answer.ensures.result_value; matrix_after = c.add-answer.ensures.matrix_after; refused = c.add-answer.ensures.refused }
