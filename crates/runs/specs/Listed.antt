-- The work list of planning is one that the program can be set beside the machine along; so it is from what planning answers and leaves. Assumes nothing.
use Rattle.plans.specs.Planning.{Planning, Lists}
use Rattle.runs.specs.Runs.{Plan, plan_of}

-- the plan that planning leaves: the kind list that it was given, and three of the lists
abbrev pub plan_in : Planning → Lists → Plan
plan_in x l = plan_of x.mesh.kinds l.test_dofs l.trial_dofs l.work
