-- `integrands::factored` meets its contract: in each arm the term is that constructor, at which `factored` computes. Assumes nothing.
use Rattle.integrands.specs.Parts.{factored}
use Rattle.integrands.proofs.factored.Goals as goal

pub returns-in-Bare : goal.returns-in-Bare
unfolding factored
returns-in-Bare c = rw c.in-Bare.is

pub returns-in-Scaled : goal.returns-in-Scaled
unfolding factored
returns-in-Scaled c = rw c.in-Scaled.is
