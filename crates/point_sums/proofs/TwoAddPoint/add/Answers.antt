-- `point_sums::Two` adds its two terms, of any kind. Assumes nothing.
use Rattle.std.proofs.Common.{ap, arith}
use Rattle.integrands.specs.Columns.{first_reads, second_reads, first_rows, second_rows}
use Rattle.integrands.specs.ValueFacts.{two_terms, second_is_read, curls_rows}
use Rattle.point_sums.specs.Facts.{added_as}
use Rattle.point_sums.specs.Weights.{weighed}
use Rattle.point_sums.proofs.TwoAddPoint.add.Goals as goal

pub value-x-requires : goal.value-x-requires
value-x-requires c = first_reads c.args.self.now.integrand c.requires.2.right c.requires.2.kernel

pub value-y-requires : goal.value-y-requires
value-y-requires c =
    let f = c.args.self.now.integrand in
    second_reads f c.requires.2.right c.requires.2.kernel (second_is_read f c.requires.1)

pub add_two-requires-clause-reads : goal.add_two-requires-clause-reads
add_two-requires-clause-reads c =
    let f = c.args.self.now.integrand in
    let rows = curls_rows c.value-x.ensures (first_rows f) in
    let more = curls_rows c.value-y.ensures (second_rows f (second_is_read f c.requires.1)) in (
      (c.requires.0, c.requires.2.test, c.requires.2.trial),
      λ h. (omega (arith, c.requires.2.test_rows, rows h), omega (arith, c.requires.2.trial_rows, rows h)),
      λ h. (omega (arith, c.requires.2.test_rows, more h), omega (arith, c.requires.2.trial_rows, more h)),
    )

pub returns : goal.returns
returns c = added_as c.add_two.ensures (λ i j. ap (weighed c.args.pair.weight) (two_terms c.args.self.now.integrand _ _ _ _ _ c.requires.1))
