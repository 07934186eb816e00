-- `boundary_assemblers::Run::add_touching` meets its contract: it is the add of that sort. Assumes nothing.
use Rattle.runs.specs.Runs.{touching_refusal, add_touching, touching_matrix}
use Rattle.boundary_assemblers.proofs.Run.add_touching.Goals as goal

pub returns : goal.returns
unfolding add_touching touching_matrix touching_refusal
returns c = record { result_value = c.add-answer.ensures.result_value; matrix_after = c.add-answer.ensures.matrix_after; refused = c.add-answer.ensures.refused }
