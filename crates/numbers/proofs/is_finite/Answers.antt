-- `numbers::is_finite` meets its contract. Assumes nothing.
use mathlib.Core.Path.{◌≡◌, refl, ◌∙◌}
use lib.Ieee.{Float, nan, inf, fin}
use Rattle.std.specs.Float.{float_is_finite}
use Rattle.numbers.specs.Floats.{finite}
use Rattle.numbers.proofs.is_finite.Goals as goal

finite_is : (x : Float) → float_is_finite x ≡ finite x
unfolding finite float_is_finite
finite_is nan = refl
finite_is (inf s) = refl
finite_is (fin s m e) = refl

pub returns : goal.returns
returns c = c.is_finite.ensures.value ∙ finite_is _
