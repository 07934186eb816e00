-- `boundary_assemblers::Run::plan_right` meets its contract: the counts of the kinds give the places of all cells. Assumes nothing.
use Rattle.lists.specs.Bool.{◌and◌, every}
use Rattle.runs.specs.Runs.{plan_right}
use Rattle.boundary_assemblers.specs.RunFacts.{few_kinds, places_are}
use Rattle.std.proofs.Common.{◌∙◌}
use Rattle.boundary_assemblers.proofs.Run.plan_right.Goals as goal

pub places-test_places-requires : goal.places-test_places-requires
places-test_places-requires c = few_kinds c.requires

pub places-trial_places-requires : goal.places-trial_places-requires
places-trial_places-requires c = few_kinds c.requires

pub returns : goal.returns
unfolding plan_right every ◌and◌
returns c =
    simp (c.places-test_places.ensures ∙ places_are c.requires c.args.self.now.numbers.test, c.places-trial_places.ensures ∙ places_are c.requires c.args.self.now.numbers.trial, c.wide-2.ensures, c.wide.ensures, c.pair_count.ensures)
