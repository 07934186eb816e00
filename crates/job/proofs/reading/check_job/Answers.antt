-- The first 7 bytes turn the job down, or the number of bytes and the limit decide. Assumes nothing.
use mathlib.Core.Path.{◌∙◌}
use Rattle.std.proofs.lemmas.Result.{err_from_is_err_and}
use Rattle.job.proofs.HeadFacts.{job_wrong, job_size}
use Rattle.job.proofs.reading.check_job.Goals as goal

pub returns-in_err-cells : goal.returns-in_err-cells
returns-in_err-cells c =
    let p = err_from_is_err_and c.from_residual.result c.from_residual.ensures.1 in
    rw (p.1, p.2) (job_wrong c.args.bytes.now c.args.limit c.in_err-cells.ensures)

pub returns : goal.returns
returns c = c.check_cells.ensures ∙ job_size c.args.bytes.now c.args.limit c.in_ok-cells.ensures
