-- `integrands::integrand_right` meets its contract: the second term's test is joined where it is read. Assumes nothing.
use borrow.Author.Tests.{eq-eqb, ne_eqb}
use Rattle.integrands.specs.TermFacts.{one_right, two_right}
use Rattle.integrands.proofs.integrand_right.Goals as goal

pub returns-then-f-eq1 : goal.returns-then-f-eq1
returns-then-f-eq1 c = one_right _ _ c.term_right.ensures (eq-eqb _ _ c.if-f-eq1.true)

pub returns : goal.returns
returns c = two_right _ _ _ c.term_right.ensures c.term_right-2.ensures (ne_eqb _ _ c.if-f-eq1.false)
