-- `planning::write_plan` meets its contract: what each call asks follows from the checks that passed. Assumes nothing.
use Rattle.plans.specs.Accepted.{test_fits, trial_fits, mesh_fine}
use Rattle.planning.specs.Plan.{lens, sized, colourable, work_ready, kind_counts, numbers_are, lists_are}
use Rattle.planning.proofs.write_plan.Goals as goal

pub write_side-test-requires : goal.write_side-test-requires
write_side-test-requires c =
    let n = lens c.requires in
    record { sized = sized c.requires _ (test_fits c.requires); cells = (mesh_fine c.requires).kinds_long; places = (n.test_dofs, n.test_owners); colourable = colourable c.requires _ n.test_colours }

pub write_side-trial-requires : goal.write_side-trial-requires
write_side-trial-requires c =
    let n = lens c.requires in
    record { sized = sized c.requires _ (trial_fits c.requires); cells = (mesh_fine c.requires).kinds_long; places = (n.trial_dofs, n.trial_owners); colourable = colourable c.requires _ n.trial_colours }

pub write_work-written-requires : goal.write_work-written-requires
write_work-written-requires c = work_ready c.requires _ c.wide.ensures c.write_side-test.ensures c.write_side-trial.ensures (lens c.requires).work

pub count_kind-requires : goal.count_kind-requires
count_kind-requires c = (kind_counts c.requires).0

pub count_kind-requires-2 : goal.count_kind-requires-2
count_kind-requires-2 c = (kind_counts c.requires).0

pub returns-clause-value : goal.returns-clause-value
returns-clause-value c = numbers_are c.requires c.write_work-written.ensures c.count_kind.ensures c.count_kind-2.ensures c.write_side-test.ensures.dof_total c.write_side-trial.ensures.dof_total

pub returns-clause-written : goal.returns-clause-written
returns-clause-written c = lists_are c.requires c.write_work-written.ensures c.wide.ensures c.write_side-test.ensures c.write_side-trial.ensures
