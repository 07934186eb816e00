-- `replay::replay` meets its contract: where planning refuses nothing is played; else what the calls leave is the machine's, by the third
-- property. Assumes nothing.
use Rattle.std.proofs.Common.{rules, sym}
use Rattle.std.proofs.lemmas.Result.{err_from_is_err_and}
use Rattle.replay.specs.Laws.{finished_refused, finished_begun}
use Rattle.replay.proofs.replay.Goals as goal

pub returns-in_err-numbers : goal.returns-in_err-numbers
returns-in_err-numbers c =
    let p = err_from_is_err_and c.from_residual.result c.from_residual.ensures.1 in
    let done = finished_refused _ _ _ _ _ _ _ _ (sym c.in_err-numbers.ensures.value) in
    record {
      result_value = rw (p.1, p.2) done.answer;
      matrix_after = done.matrix;
      values_after = done.lists;
      answers_after = done.answers;
      work_after = search rules;
      same_lists = search rules;
      same_written = search rules;
    }

pub returns : goal.returns
returns c =
    let w = c.plan-2.ensures in
    let going = rw (w.kinds, w.test_dofs, w.trial_dofs, w.work) at c.play_calls.ensures.going in
    let done = finished_begun _ _ _ _ _ _ _ _ _ _ _ _ _ _ _ (sym c.in_ok-numbers.ensures.value) c.plan.ensures.written c.begin_run-run.ensures going in
    record {
      result_value = done.answer;
      matrix_after = done.matrix;
      values_after = done.lists;
      answers_after = done.answers;
      work_after = search rules;
      same_lists = search rules;
      same_written = search rules;
    }
