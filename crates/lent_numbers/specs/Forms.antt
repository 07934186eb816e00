-- What the structs that a pair is lent stand for, and checks 10 and 11 side by side. Assumes nothing.
use Rattle.std.specs.Prelude.{ℕ, ◌*◌, ◌≤◌, Bool, true, false, not, ◌&&◌, ◌≡◌, refl, List, [], ◌∷◌, length, eqb, Float}
use native.Mathlib.Omega.{arith}
use Rattle.lists.specs.Bool.{◌and◌, every, turned, passed}
use Rattle.function.specs.Elements.{most_dim}
use Rattle.numbers.specs.Floats.{all_finite}
use Rattle.integrands.specs.declared.Integrand.{Integrand}
use Rattle.integrands.specs.declared.Point.{Point}
use Rattle.integrands.specs.Values.{geometry_at}
use Rattle.integrands.specs.Terms.{kernel_width, table_rows}
use Rattle.lent_numbers.specs.declared.LocalForm.{LocalForm}
use Rattle.lent_numbers.specs.declared.Side.{Side}
use Rattle.lent_numbers.specs.declared.TouchingNumbers.{TouchingNumbers}
use Rattle.lent_numbers.specs.declared.DistantNumbers.{DistantNumbers}
use Rattle.lent_numbers.specs.Lent.{Touching, touching, Distant, distant, jdets_above0, touching_lengths, touching_numbers, distant_lengths, distant_numbers}

abbrev pub touching_of : TouchingNumbers → Touching
touching_of a = touching a.points a.weights.now a.test_table.now a.trial_table.now a.kernel.now a.test_geometry.now a.trial_geometry.now

abbrev pub distant_of : DistantNumbers → Distant
distant_of a =
    distant a.test.points a.trial.points a.test.weights.now a.trial.weights.now a.test.table.now a.trial.table.now a.kernel.now a.test.geometry.now a.trial.geometry.now

-- the two sides of a touching pair
abbrev pub test_of : TouchingNumbers → Side
test_of a = record { points = a.points; weights = a.weights; table = a.test_table; geometry = a.test_geometry }

abbrev pub trial_of : TouchingNumbers → Side
trial_of a = record { points = a.points; weights = a.weights; table = a.trial_table; geometry = a.trial_geometry }

-- point p of a side, with D table rows and n basis functions
abbrev pub point_of : ℕ → ℕ → Side → ℕ → Point
point_of D n s p = record { geometry = geometry_at s.geometry.now p; table = record { values = s.table; rows = D; points = s.points; dim = n; point = p } }

-- of a local matrix: at most ten basis functions of each
abbrev pub Few : LocalForm → Type 0
Few l = (l.test_dim ≤ most_dim) × (l.trial_dim ≤ most_dim)

-- of a side: ten numbers of geometry for each point
abbrev pub HasGeometry : Side → Type 0
HasGeometry s = 10 * s.points ≤ length s.geometry.now

-- of a side with D table rows and n basis functions
abbrev pub side_lengths : ℕ → ℕ → Side → Bool
side_lengths D n s = (eqb (length s.weights.now) s.points && eqb (length s.table.now) (D * (s.points * n))) && eqb (length s.geometry.now) (10 * s.points)

-- of a pair, with so many points of kernel values
abbrev pub pair_lengths : LocalForm → Side → Side → List Float → ℕ → Bool
pair_lengths l test trial kernel points =
    (side_lengths (table_rows l.integrand) l.test_dim test && side_lengths (table_rows l.integrand) l.trial_dim trial) && eqb (length kernel) (kernel_width l.integrand * points)

abbrev pub side_numbers : Side → Bool
side_numbers s = (all_finite s.table.now && all_finite s.geometry.now) && jdets_above0 s.geometry.now s.points

-- ---- the checks of the two sides are those of the definitions

six_tests : (w t r k g h : Bool) → ((((w && t) && g) && ((w && r) && h)) && k) ≡ every (w ∷ t ∷ r ∷ k ∷ g ∷ h ∷ [])
unfolding every ◌and◌
six_tests w t r k g h = grind arith

pub touching_lengths_by_side : (l : LocalForm) (a : TouchingNumbers)
    → pair_lengths l (test_of a) (trial_of a) a.kernel.now a.points ≡ touching_lengths l.integrand l.test_dim l.trial_dim (touching_of a)
unfolding touching_lengths
touching_lengths_by_side l a = six_tests _ _ _ _ _ _

seven_tests : (w v t r k g h : Bool) → ((((w && t) && g) && ((v && r) && h)) && k) ≡ every (w ∷ v ∷ t ∷ r ∷ k ∷ g ∷ h ∷ [])
unfolding every ◌and◌
seven_tests w v t r k g h = grind arith

pub distant_lengths_by_side : (l : LocalForm) (a : DistantNumbers)
    → pair_lengths l a.test a.trial a.kernel.now (a.test.points * a.trial.points) ≡ distant_lengths l.integrand l.test_dim l.trial_dim (distant_of a)
unfolding distant_lengths
distant_lengths_by_side l a = seven_tests _ _ _ _ _ _ _

eight_tests : (w t r k g h x y : Bool) → (((w && k) && ((t && g) && x)) && ((r && h) && y)) ≡ every (w ∷ t ∷ r ∷ k ∷ g ∷ h ∷ x ∷ y ∷ [])
unfolding every ◌and◌
eight_tests w t r k g h x y = grind arith

pub touching_numbers_by_side : (f : Integrand) (m n : ℕ) (a : TouchingNumbers)
    → (((all_finite a.weights.now && all_finite a.kernel.now) && side_numbers (test_of a)) && side_numbers (trial_of a)) ≡ touching_numbers f m n (touching_of a)
unfolding touching_numbers
touching_numbers_by_side f m n a = eight_tests _ _ _ _ _ _ _ _

nine_tests : (w v t r k g h x y : Bool) → ((((w && v) && k) && ((t && g) && x)) && ((r && h) && y)) ≡ every (w ∷ v ∷ t ∷ r ∷ k ∷ g ∷ h ∷ x ∷ y ∷ [])
unfolding every ◌and◌
nine_tests w v t r k g h x y = grind arith

pub distant_numbers_by_side : (f : Integrand) (m n : ℕ) (a : DistantNumbers)
    → ((((all_finite a.test.weights.now && all_finite a.trial.weights.now) && all_finite a.kernel.now) && side_numbers a.test) && side_numbers a.trial) ≡ distant_numbers f m n (distant_of a)
unfolding distant_numbers
distant_numbers_by_side f m n a = nine_tests _ _ _ _ _ _ _ _ _

-- ---- two tests in one

pub counts_turned : {a b x y : Bool} → a ≡ x → b ≡ y → not (a && b) ≡ true → x and y ≡ false
unfolding ◌and◌
counts_turned p q e = turned (rw (p, q) refl) e

pub counts_passed : {a b x y : Bool} → a ≡ x → b ≡ y → not (a && b) ≡ false → x and y ≡ true
unfolding ◌and◌
counts_passed p q e = passed (rw (p, q) refl) e
