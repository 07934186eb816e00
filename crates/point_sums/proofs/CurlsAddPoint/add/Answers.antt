-- `point_sums::Curls` adds its one term: the kind is 3. Assumes nothing.
use Rattle.std.proofs.Common.{ap, ◌∙◌}
use Rattle.integrands.specs.Columns.{first_reads}
use Rattle.integrands.specs.TermFacts.{one_curls}
use Rattle.integrands.specs.ValueFacts.{one_term, term_curls, value_curls}
use Rattle.point_sums.specs.Facts.{added_as}
use Rattle.point_sums.specs.Weights.{weighed}
use Rattle.point_sums.proofs.CurlsAddPoint.add.Goals as goal

pub value-x-requires : goal.value-x-requires
value-x-requires g c =
    let f = c.args.self.now.integrand in
    rw (c.term-first.ensures, c.kind_of.ensures, c.requires.1.1) (first_reads f c.requires.2.right c.requires.2.kernel)

pub returns : goal.returns
returns g c =
    let f = c.args.self.now.integrand in
    let at = rw (c.term-first.ensures, c.kind_of.ensures, c.requires.1.1) at c.value-x.ensures in
    let curls = value_curls (one_curls f c.requires.1.0 c.requires.1.2) at in
    let sums = rw (c.factor-c.ensures, c.term-first.ensures, c.kind_of.ensures, c.requires.1.1) at c.add_turned.ensures in
    added_as sums (λ i j. ap (weighed c.args.pair.weight) (term_curls _ _ _ _ _ _ curls ∙ one_term f _ _ _ _ _ c.requires.1.0))
