-- `point_sums::Outer` adds its one term: the kind is not 3. Assumes nothing.
use Rattle.std.proofs.Common.{◌∙◌, ap}
use Rattle.integrands.specs.Columns.{first_reads}
use Rattle.integrands.specs.ValueFacts.{one_term, term_outer}
use Rattle.point_sums.specs.Facts.{added_as, first_other}
use Rattle.point_sums.specs.Weights.{weighed}
use Rattle.point_sums.proofs.OuterAddPoint.add.Goals as goal

pub value-x-requires : goal.value-x-requires
value-x-requires g c =
    let f = c.args.self.now.integrand in
    rw (c.term-first.ensures, c.kind_of.ensures, c.requires.1.1) (first_reads f c.requires.2.right c.requires.2.kernel)

pub returns : goal.returns
returns g c =
    let f = c.args.self.now.integrand in
    let pair = c.args.pair in
    let at = rw (c.term-first.ensures, c.kind_of.ensures, c.requires.1.1) at c.value-x.ensures in
    let sums = rw (c.factor.ensures, c.term-first.ensures, c.kind_of.ensures, c.requires.1.1) at c.add_outer.ensures in
    added_as sums (λ i j. ap (weighed pair.weight) (term_outer f.first _ _ _ pair.test.geometry pair.trial.geometry (first_other f c.requires.1.2) at ∙ one_term f _ _ _ _ _ c.requires.1.0))
