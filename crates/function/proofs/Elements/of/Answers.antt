-- `function::Elements::of` meets its contract. Assumes nothing.
use borrow.Author.Tests.{eq-eqb, ne_eqb}
use Rattle.function.specs.Elements.{element_of}
use Rattle.function.proofs.Elements.of.Goals as goal

pub returns-then-kind-eq3 : goal.returns-then-kind-eq3
unfolding element_of
returns-then-kind-eq3 c = rw (eq-eqb _ _ c.if-kind-eq3.true)

pub returns-else-kind-eq3 : goal.returns-else-kind-eq3
unfolding element_of
returns-else-kind-eq3 c = rw (ne_eqb _ _ c.if-kind-eq3.false)
