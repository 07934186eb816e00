-- See Invariants.antt. Assumes nothing.
use native.Mathlib.Omega.{arith}
use mathlib.Core.Path.{sym, ap, ◌∙◌}
use Rattle.lists.specs.Bounded.{all_none, all_more, all_fails}
use Rattle.grid.specs.Cells.{distinct}
use Rattle.grid.specs.CellsFacts.{begins_first, begins_next, begins_inside, begins_part, shaped_few}
use borrow.Author.Rules.{rules}
use Rattle.grid.proofs.checks.all_distinct.Goals as goal

pub loop-kind-init : goal.loop-kind-init
loop-kind-init c = (begins_first _, all_none _)

pub end_of-end-requires : goal.end_of-end-requires
end_of-end-requires c = omega (arith, begins_inside c.requires c.loop-kind.invariant.0 (search rules), shaped_few c.requires)

pub offset_bounds-vertices-at : goal.offset_bounds-vertices-at
offset_bounds-vertices-at c = omega (arith, begins_inside c.requires c.loop-kind.invariant.0 (search rules), shaped_few c.requires)

pub slice_bounds-is_distinct-end : goal.slice_bounds-is_distinct-end
slice_bounds-is_distinct-end c = omega (arith, c.end_of-end.ensures, begins_inside c.requires c.loop-kind.invariant.0 (search rules))

pub loop-kind-preserved : goal.loop-kind-preserved
loop-kind-preserved c = (begins_next c.loop-kind.invariant.0 (search rules) c.end_of-end.ensures, all_more _ _ c.loop-kind.invariant.1 (ap distinct (sym (begins_part c.requires c.loop-kind.invariant.0 (search rules) c.end_of-end.ensures)) ∙ sym c.is_distinct.ensures ∙ c.if-not-is_distinct.false))

pub returns-then-not-is_distinct : goal.returns-then-not-is_distinct
returns-then-not-is_distinct c = sym (all_fails _ _ c.loop-kind.kind-index (search rules) (ap distinct (sym (begins_part c.requires c.loop-kind.invariant.0 (search rules) c.end_of-end.ensures)) ∙ sym c.is_distinct.ensures ∙ c.if-not-is_distinct.true))
