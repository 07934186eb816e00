-- `integrands::term_right` meets its contract: in each arm the term is that constructor, at which `term_right` computes. Assumes nothing.
use Rattle.lists.specs.Bool.{◌and◌}
use Rattle.integrands.specs.Terms.{term_right}
use Rattle.integrands.proofs.term_right.Goals as goal

pub returns-in-Bare : goal.returns-in-Bare
unfolding term_right
returns-in-Bare c = rw c.in-Bare.is

pub returns-in-Scaled : goal.returns-in-Scaled
unfolding term_right ◌and◌
returns-in-Scaled c = rw (c.in-Scaled.is, c.is_finite.ensures)
