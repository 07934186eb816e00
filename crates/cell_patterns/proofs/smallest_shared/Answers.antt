-- See Invariants.antt. Assumes nothing.
use native.Mathlib.Omega.{arith}
use mathlib.Core.Path.{ap, refl}
use lib.ListN.{length}
use Rattle.grid.specs.RowsFacts.{cut_row}
use Rattle.cell_patterns.specs.PatternFacts.{lowest_of, lowest_met, lowest_passed, lowest_all}
use Rattle.cell_patterns.proofs.smallest_shared.Goals as goal
use Rattle.cell_patterns.proofs.smallest_shared.Goals.{then-has_entity, else-has_entity}

pub loop-x-init : goal.loop-x-init
unfolding lowest_of
loop-x-init c = refl

pub loop-x-preserved : goal.loop-x-preserved
loop-x-preserved c =
    let a = c.args in
    let row_is = cut_row a.rows.none a.rows.rows.now a.i c.requires.0 in
    elim c.if-has_entity.branch [
      | then-has_entity w ↦ rw w.smallest-is (lowest_met a.rows.rows.now a.top a.i a.j row_is c.loop-x.x-index c.loop-x-test.true c.has_entity.ensures c.loop-x.invariant w.if-has_entity.true w.wide.ensures w.min-smallest.ensures)
      | else-has_entity w ↦ rw w.smallest-is (lowest_passed a.rows.rows.now a.top a.i a.j row_is c.loop-x.x-index c.loop-x-test.true c.has_entity.ensures c.loop-x.invariant w.if-has_entity.false)
    ]

pub returns : goal.returns
returns c =
    let a = c.args in
    let long = ap length (cut_row a.rows.none a.rows.rows.now a.i c.requires.0) in
    lowest_all a.rows.rows.now a.top a.i a.j (omega (arith, long, c.loop-x-test.false, c.loop-x.auto.x-index-end)) c.loop-x.invariant
