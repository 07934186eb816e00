-- See Invariants.antt. Assumes nothing.
use mathlib.Core.Path.{◌∙◌}
use Rattle.std.specs.Float.{nan}
use Rattle.std.proofs.lemmas.Slice.Zip.{zip_turn}
use Rattle.std.proofs.lemmas.List.{length_push}
use Rattle.lists.specs.Fold.{folded_start}
use Rattle.scatter.specs.Adding.{add_at}
use Rattle.scatter.specs.AddingFacts.{row_turn}
use Rattle.scatter.proofs.add_column.Goals as goal

pub loop-row-init : goal.loop-row-init
loop-row-init c = folded_start _ _ _

pub loop-row-preserved : goal.loop-row-preserved
unfolding add_at
loop-row-preserved c =
    let t = zip_turn c.args.test_dofs.now c.args.entries.now c.loop-row.yielded _ _ c.next.new.self _ (cc) (cc) c.loop-row.yielded_by _ c.in-Some.is c.next.ensures.steps in
    rw (length_push c.loop-row.yielded _) (row_turn _ _ _ c.loop-row.invariant t.0 (c.wide.ensures ∙ t.2 0) (t.3 nan))
