-- `boundary_assemblers::Run::record` meets its contract: a refusal is answered as such; where there is none, the checks hand record p on. Assumes nothing.
use Rattle.std.proofs.Common.{sym}
use Rattle.std.proofs.lemmas.Result.{err_from_is_err_and}
use Rattle.runs.specs.Runs.{look_refusal, look}
use Rattle.boundary_assemblers.specs.RunFacts.{reply_refused}
use Rattle.boundary_assemblers.proofs.Run.record.Goals as goal

pub returns-in_err-pair : goal.returns-in_err-pair
unfolding look look_refusal
returns-in_err-pair c =
    let p = err_from_is_err_and c.from_residual.result c.from_residual.ensures.1 in
    rw (p.1, p.2) (reply_refused _ c.in_err-pair.ensures.refusal _ _ _)

pub returns : goal.returns
unfolding look look_refusal
returns c = rw (sym c.in_ok-pair.ensures.refusal, c.in_ok-pair.ensures.pair)
