-- A point value in parts, as the code works it out: what belongs to the point, and what each basis function brings. x are the table rows of one.
-- Assumes nothing.
use Rattle.std.specs.Prelude.{ℕ, Bool, true, false, ◌≡◌, eqb, Float}
use Rattle.numbers.specs.Floats.{0·0, ◌⊕◌, ◌⊗◌, ◌⊘◌}
use Rattle.integrands.specs.declared.Geometry.{Geometry}
use Rattle.integrands.specs.declared.KindValue.{KindValue}
use Rattle.integrands.specs.declared.KindValue.TheVariants.{Outer, Curls}
use Rattle.integrands.specs.declared.Part.{Part}
use Rattle.integrands.specs.declared.Term.{Term}
use Rattle.integrands.specs.declared.Term.TheVariants.{Bare, Scaled}
use Rattle.integrands.specs.Values.{curl, curl_curl, kind_value}

abbrev pub has_curls : KindValue → Bool
has_curls (Outer c) = false
has_curls (Curls c) = true

abbrev pub factor_of : KindValue → Float
factor_of (Outer c) = c
factor_of (Curls c) = c

-- what it stands for, of basis functions with the rows t and r: c·t·r, or the curls with c before them
unfoldable pub value_of : KindValue → (ℕ → Float) → (ℕ → Float) → Geometry → Geometry → Float
value_of (Outer c) t r test trial = c ⊗ t 0 ⊗ r 0
value_of (Curls c) t r test trial = curl_curl (λ (d : ℕ). c) t r test trial

-- v is the value of the kind at a point, whatever the basis functions; the kind with curls is 3
pub record ValueOfKind (kind : ℕ) (k : ℕ → Float) (test trial : Geometry) (v : KindValue) : Type 0 where
  pub curls : has_curls v ≡ eqb kind 3
  pub value : (t r : ℕ → Float) → value_of v t r test trial ≡ kind_value kind k t r test trial

-- a factor, where there is one
unfoldable pub factored : Term → Float → Float
factored (Bare kind) x = x
factored (Scaled factor kind) x = factor ⊗ x

-- the three curls of a basis function
abbrev pub curls : Geometry → (ℕ → Float) → Part
curls g x = record { x0 = curl g.j3 g.j0 x; x1 = curl g.j4 g.j1 x; x2 = curl g.j5 g.j2 x }

-- one number
abbrev pub alone : Float → Part
alone x = record { x0 = x; x1 = 0·0; x2 = 0·0 }

-- what a basis function brings: its three curls; else row 0, which has c before it on the test side
abbrev pub test_part : KindValue → Geometry → (ℕ → Float) → Part
test_part (Outer c) g x = alone (c ⊗ x 0)
test_part (Curls c) g x = curls g x

abbrev pub trial_part : KindValue → Geometry → (ℕ → Float) → Part
trial_part (Outer c) g x = alone (x 0)
trial_part (Curls c) g x = curls g x

-- the value from these, with the two jdets
unfoldable pub from_parts : KindValue → Part → Part → Float → Float → Float
from_parts (Outer c) a b s r = a.x0 ⊗ b.x0
from_parts (Curls c) a b s r = c ⊗ (a.x0 ⊗ b.x0 ⊕ a.x1 ⊗ b.x1 ⊕ a.x2 ⊗ b.x2) ⊘ s ⊘ r
