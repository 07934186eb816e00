-- The lists that planning is lent and what it answers, as the code has them. Assumes nothing.
use Rattle.std.specs.Prelude.{◌≡◌, Result, Ok, Err}
use Rattle.refusals.specs.declared.Refusal.{Refusal}
use Rattle.refusals.specs.Numbers.{number_of}
use Rattle.plans.specs.declared.PlanNumbers.{PlanNumbers}
use Rattle.plans.specs.declared.PlanLists.{PlanLists}
use Rattle.plans.specs.Planning.{Lists, lists_of, Planned, ready, refused}

abbrev pub lists_lent : PlanLists → Lists
lists_lent l = lists_of l.test_dofs.now l.trial_dofs.now l.test_colours.now l.trial_colours.now l.test_owners.now l.trial_owners.now l.work.now

-- the lists are lent as they were: what is written stands in the lender's own
pub record SameLists (old new : PlanLists) : Type 0 where
  pub test_dofs : new.test_dofs.ghost_name ≡ old.test_dofs.ghost_name
  pub trial_dofs : new.trial_dofs.ghost_name ≡ old.trial_dofs.ghost_name
  pub test_colours : new.test_colours.ghost_name ≡ old.test_colours.ghost_name
  pub trial_colours : new.trial_colours.ghost_name ≡ old.trial_colours.ghost_name
  pub test_owners : new.test_owners.ghost_name ≡ old.test_owners.ghost_name
  pub trial_owners : new.trial_owners.ghost_name ≡ old.trial_owners.ghost_name
  pub work : new.work.ghost_name ≡ old.work.ghost_name

abbrev pub planned_of : Result PlanNumbers Refusal → Planned
planned_of (Ok n) = ready n
planned_of (Err n) = refused (number_of n)
