-- See Invariants.antt. Assumes nothing.
use Rattle.std.proofs.Common.{◌≡◌, ◌+◌, ◌*◌, ◌<◌, refl, rules}
use native.Mathlib.Omega.{arith}
use Rattle.lists.specs.Maps.{mapped_turn}
use Rattle.integrands.specs.Columns.{hundred_place, added_turn}
use Rattle.point_sums.proofs.add_values.Goals as goal

pub loop-i-preserved : goal.loop-i-preserved
loop-i-preserved g c =
    let place : c.loop-i.i + c.args.pair.test.table.dim * c.loop-j.j < 100 = hundred_place c.args.pair.test.table.dim c.loop-i.i c.loop-j.j c.requires.sizes.1 c.loop-i-test.true (omega (arith, c.loop-j-test.true, c.requires.sizes.2)) in
    record {
      size = search rules;
      mapped = λ h e. mapped_turn (c.loop-i.invariant.mapped h e) (omega arith) (omega (arith, place, c.loop-i.invariant.size)) (rw (e _ _ c.loop-i-test.true c.value.ensures) refl);
    }

pub loop-j-preserved : goal.loop-j-preserved
loop-j-preserved g c =
    let end : c.loop-i.i ≡ c.args.pair.test.table.dim = omega (arith, c.loop-i-test.false) in
    record {
      size = c.loop-i.invariant.size;
      added = λ u e. added_turn (c.loop-j.invariant.added u e)
          (rw end at c.loop-i.invariant.mapped (λ i. u i c.loop-j.j) (λ i x l p. e i c.loop-j.j c.brings-t.result x l c.loop-j-test.true c.brings-t.ensures p))
          (λ i x l. refl);
    }

pub returns : goal.returns
returns g c u e =
    let end : c.loop-j.j ≡ c.args.pair.trial.table.dim = omega (arith, c.loop-j-test.false) in
    rw end at c.loop-j.invariant.added u e
