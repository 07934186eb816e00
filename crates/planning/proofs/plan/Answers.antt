-- `planning::plan` meets its contract: a refusal writes nothing; where there is none, the lists are written and the numbers handed back. Assumes nothing.
use Rattle.std.proofs.Common.{sym}
use Rattle.std.proofs.lemmas.Result.{err_from_is_err_and}
use Rattle.refusals.specs.Numbers.{number_nonzero}
use Rattle.plans.specs.Accepted.{accepted}
use Rattle.planning.specs.Plan.{plan_refused, plan_ready}
use Rattle.planning.proofs.plan.Goals as goal

pub returns-in_err-plan_checked-clause-value : goal.returns-in_err-plan_checked-clause-value
returns-in_err-plan_checked-clause-value c =
    let p = err_from_is_err_and c.from_residual.result c.from_residual.ensures.1 in
    rw (p.1, p.2) (plan_refused _ _ _ c.in_err-plan_checked.ensures (number_nonzero _)).0

pub returns-in_err-plan_checked-clause-written : goal.returns-in_err-plan_checked-clause-written
returns-in_err-plan_checked-clause-written c = (plan_refused _ _ _ c.in_err-plan_checked.ensures (number_nonzero _)).1

pub write_plan-requires : goal.write_plan-requires
write_plan-requires c = accepted _ _ (sym c.in_ok-plan_checked.ensures)

pub returns-clause-value : goal.returns-clause-value
returns-clause-value c = (plan_ready _ _ c.in_ok-plan_checked.ensures c.write_plan.ensures.value c.write_plan.ensures.written).0

pub returns-clause-written : goal.returns-clause-written
returns-clause-written c = (plan_ready _ _ c.in_ok-plan_checked.ensures c.write_plan.ensures.value c.write_plan.ensures.written).1
