-- `integrands::evaluate` meets its contract: in each arm the value is that constructor, at which `from_parts` computes. Assumes nothing.
use Rattle.integrands.specs.Parts.{from_parts}
use Rattle.integrands.proofs.evaluate.Goals as goal

pub returns-in-Outer : goal.returns-in-Outer
unfolding from_parts
returns-in-Outer c = rw c.in-Outer.is c.factored.ensures

pub returns-in-Curls : goal.returns-in-Curls
unfolding from_parts
returns-in-Curls c = rw c.in-Curls.is c.factored-in-Curls.ensures
