-- What the local matrix of a pair needs, and what holds it. Assumes nothing.
use Rattle.std.specs.Prelude.{List, Float, replicate, ◌≡◌}
use Rattle.numbers.specs.Floats.{0·0}
use Rattle.integrands.specs.Columns.{Held}
use Rattle.lent_numbers.specs.declared.LocalForm.{LocalForm}
use Rattle.lent_numbers.specs.declared.TouchingNumbers.{TouchingNumbers}
use Rattle.lent_numbers.specs.declared.DistantNumbers.{DistantNumbers}
use Rattle.lent_numbers.specs.Forms.{touching_of, distant_of}
use Rattle.lent_numbers.specs.Lent.{TouchingFits, DistantFits}
use Rattle.lent_numbers.specs.Entries.{touching_entry, distant_entry}

abbrev pub FitsTouching : LocalForm → TouchingNumbers → Type 0
FitsTouching l a = TouchingFits l.integrand l.test_dim l.trial_dim (touching_of a)

abbrev pub FitsDistant : LocalForm → DistantNumbers → Type 0
FitsDistant l a = DistantFits l.integrand l.test_dim l.trial_dim (distant_of a)

-- what a pair is lent, and entries that are 0
abbrev pub StartsTouching : LocalForm → TouchingNumbers → List Float → Type 0
StartsTouching l a entries = FitsTouching l a × (entries ≡ replicate 100 0·0)

abbrev pub StartsDistant : LocalForm → DistantNumbers → List Float → Type 0
StartsDistant l a entries = FitsDistant l a × (entries ≡ replicate 100 0·0)

-- the entries of the local matrix stand in the list
abbrev pub HoldsTouching : LocalForm → TouchingNumbers → List Float → Type 0
HoldsTouching l a entries = Held l.test_dim l.trial_dim entries (touching_entry l.integrand (touching_of a))

abbrev pub HoldsDistant : LocalForm → DistantNumbers → List Float → Type 0
HoldsDistant l a entries = Held l.test_dim l.trial_dim entries (distant_entry l.integrand (distant_of a))
