-- `point_sums::Outers` adds its two terms: neither kind is 3. Assumes nothing.
use Rattle.std.proofs.Common.{◌∙◌, ap, ap₂}
use Rattle.numbers.specs.Floats.{◌⊕◌}
use Rattle.integrands.specs.Columns.{first_reads, second_reads}
use Rattle.integrands.specs.ValueFacts.{two_terms, term_outer, second_is_read}
use Rattle.point_sums.specs.Facts.{added_as, first_other, second_other}
use Rattle.point_sums.specs.Weights.{weighed}
use Rattle.point_sums.proofs.OutersAddPoint.add.Goals as goal

pub value-x-requires : goal.value-x-requires
value-x-requires c = first_reads c.args.self.now.integrand c.requires.2.right c.requires.2.kernel

pub value-y-requires : goal.value-y-requires
value-y-requires c =
    let f = c.args.self.now.integrand in
    second_reads f c.requires.2.right c.requires.2.kernel (second_is_read f c.requires.1.0)

pub returns : goal.returns
returns c =
    let f = c.args.self.now.integrand in
    let pair = c.args.pair in
    let sums = rw (c.factor.ensures, c.factor-2.ensures) at c.add_outers.ensures in
    added_as sums (λ i j. ap (weighed pair.weight)
    (ap₂ ◌⊕◌
    (term_outer f.first _ _ _ pair.test.geometry pair.trial.geometry (first_other f c.requires.1.1) c.value-x.ensures)
    (term_outer f.second _ _ _ pair.test.geometry pair.trial.geometry (second_other f (second_is_read f c.requires.1.0) c.requires.1.1) c.value-y.ensures)
    ∙ two_terms f _ _ _ _ _ c.requires.1.0))
