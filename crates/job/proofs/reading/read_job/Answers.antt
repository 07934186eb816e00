-- A refusal writes nothing; where there is none, the numbers and the lists are those of the job. Assumes nothing.
use native.Mathlib.Omega.{arith}
use mathlib.Core.Path.{sym, ap}
use Rattle.std.proofs.lemmas.Result.{err_from_is_err_and}
use Rattle.job.specs.declared.JobNumbers.{JobNumbers}
use Rattle.job.specs.Answers.{number_nonzero}
use Rattle.job.specs.JobFacts.{passed_long, read_refused, read_whole}
use Rattle.job.proofs.reading.read_job.Goals as goal

pub returns-in_err-check_job : goal.returns-in_err-check_job
returns-in_err-check_job c =
    let p = err_from_is_err_and c.from_residual.result c.from_residual.ensures.1 in
    let r = read_refused _ _ c.in_err-check_job.ensures (number_nonzero _) {vs = c.args.vertex_list.now} {es = c.args.edge_list.now} in
    rw (p.1, p.2) (record { value = r.0; vertex_list_after = r.1.0; edge_list_after = r.1.1 })

pub numbers_of-numbers-requires : goal.numbers_of-numbers-requires
numbers_of-numbers-requires c = (passed_long _ _ (sym c.in_ok-check_job.ensures)).fields

pub read_front-requires : goal.read_front-requires
read_front-requires c =
    let cells = ap (λ (n : JobNumbers). n.cells) c.numbers_of-numbers.ensures.0 in
    let long = (passed_long _ _ (sym c.in_ok-check_job.ensures)).long in
    omega (arith, cells, long)

pub read_front-requires-2 : goal.read_front-requires-2
read_front-requires-2 c =
    let cells = ap (λ (n : JobNumbers). n.cells) c.numbers_of-numbers.ensures.0 in
    let long = (passed_long _ _ (sym c.in_ok-check_job.ensures)).long in
    omega (arith, cells, long)

pub returns : goal.returns
returns c =
    let r =
    read_whole _ _ (sym c.in_ok-check_job.ensures) c.numbers_of-numbers.ensures.0 (ap (λ (n : JobNumbers). n.cells) c.numbers_of-numbers.ensures.0)
    c.args.vertex_list.now c.args.edge_list.now c.read_front.ensures c.read_front-2.ensures in
    record { value = r.0; vertex_list_after = r.1.0; edge_list_after = r.1.1 }
