-- What an add or the entries call is lent beside run, plan and what it writes, checks 9 to 11 of it, and what the work needs of it. Assumes nothing.
use Rattle.std.specs.Prelude.{ℕ, ◌*◌, ◌≤◌, Bool, true, ◌≡◌, List, [], ◌∷◌, length, eqb, Float}
use Rattle.std.specs.Float.Ieee as Ieee
use Rattle.lists.specs.Bool.{◌and◌, every}
use Rattle.lists.specs.Bounded.{all}
use Rattle.lists.specs.Refusals.{Check, check}
use Rattle.numbers.specs.Ranges.{within}
use Rattle.function.specs.Elements.{most_dim}
use Rattle.integrands.specs.declared.Integrand.{Integrand}
use Rattle.numbers.specs.Floats.{0·0, ◌!◌, all_finite}
use Rattle.integrands.specs.Terms.{integrand_right, kernel_width, table_rows}

-- a touching pair: one list of points for both cells
pub record Touching : Type 0 where
  pub points : ℕ
  pub weights : List Float
  pub test_table : List Float
  pub trial_table : List Float
  pub kernel : List Float
  pub test_geometry : List Float
  pub trial_geometry : List Float

abbrev pub touching : ℕ → List Float → List Float → List Float → List Float → List Float → List Float → Touching
touching points weights test_table trial_table kernel test_geometry trial_geometry =
    record { points = points; weights = weights; test_table = test_table; trial_table = trial_table; kernel = kernel; test_geometry = test_geometry; trial_geometry = trial_geometry }

-- a distant pair: test points and trial points
pub record Distant : Type 0 where
  pub test_points : ℕ
  pub trial_points : ℕ
  pub test_weights : List Float
  pub trial_weights : List Float
  pub test_table : List Float
  pub trial_table : List Float
  pub kernel : List Float
  pub test_geometry : List Float
  pub trial_geometry : List Float

abbrev pub distant : ℕ → ℕ → List Float → List Float → List Float → List Float → List Float → List Float → List Float → Distant
distant test_points trial_points test_weights trial_weights test_table trial_table kernel test_geometry trial_geometry =
    record { test_points = test_points; trial_points = trial_points; test_weights = test_weights; trial_weights = trial_weights; test_table = test_table; trial_table = trial_table; kernel = kernel; test_geometry = test_geometry; trial_geometry = trial_geometry }

-- point counts are 1 to 2,048 touching, and 1 to 64 each distant
abbrev pub most_touching_points : ℕ
most_touching_points = 2048

abbrev pub most_distant_points : ℕ
most_distant_points = 64

-- the most pairs of points of a distant pair: 64·64
abbrev pub most_point_pairs : ℕ
most_point_pairs = 4096

-- the jdet of each of n points, which stands at 10p, is above 0
unfoldable pub jdets_above0 : List Float → ℕ → Bool
jdets_above0 s n = all n (λ p. Ieee.lt 0·0 (s ! (10 * p)))

-- for an integrand, test dimension m and trial dimension n
module _ (f : Integrand) (m n : ℕ) where
  -- 9, touching: the point count is in its range
  unfoldable pub touching_count : Touching → Bool
  touching_count a = within 1 most_touching_points a.points

  -- 10: each length is the one that its counts give
  unfoldable pub touching_lengths : Touching → Bool
  touching_lengths a =
      every (eqb (length a.weights) a.points
      ∷ eqb (length a.test_table) (table_rows f * (a.points * m))
      ∷ eqb (length a.trial_table) (table_rows f * (a.points * n))
      ∷ eqb (length a.kernel) (kernel_width f * a.points)
      ∷ eqb (length a.test_geometry) (10 * a.points)
      ∷ eqb (length a.trial_geometry) (10 * a.points)
      ∷ [])

  -- 11: each of those numbers is finite, and each jdet is above 0
  unfoldable pub touching_numbers : Touching → Bool
  touching_numbers a =
      every (all_finite a.weights
      ∷ all_finite a.test_table
      ∷ all_finite a.trial_table
      ∷ all_finite a.kernel
      ∷ all_finite a.test_geometry
      ∷ all_finite a.trial_geometry
      ∷ jdets_above0 a.test_geometry a.points
      ∷ jdets_above0 a.trial_geometry a.points
      ∷ [])

  abbrev pub touching_checks : Touching → List Check
  touching_checks a = check 9 (touching_count a) ∷ check 10 (touching_lengths a) ∷ check 11 (touching_numbers a) ∷ []

  -- 9 to 11, distant
  unfoldable pub distant_counts : Distant → Bool
  distant_counts a = within 1 most_distant_points a.test_points and within 1 most_distant_points a.trial_points

  unfoldable pub distant_lengths : Distant → Bool
  distant_lengths a =
      every (eqb (length a.test_weights) a.test_points
      ∷ eqb (length a.trial_weights) a.trial_points
      ∷ eqb (length a.test_table) (table_rows f * (a.test_points * m))
      ∷ eqb (length a.trial_table) (table_rows f * (a.trial_points * n))
      ∷ eqb (length a.kernel) (kernel_width f * (a.test_points * a.trial_points))
      ∷ eqb (length a.test_geometry) (10 * a.test_points)
      ∷ eqb (length a.trial_geometry) (10 * a.trial_points)
      ∷ [])

  unfoldable pub distant_numbers : Distant → Bool
  distant_numbers a =
      every (all_finite a.test_weights
      ∷ all_finite a.trial_weights
      ∷ all_finite a.test_table
      ∷ all_finite a.trial_table
      ∷ all_finite a.kernel
      ∷ all_finite a.test_geometry
      ∷ all_finite a.trial_geometry
      ∷ jdets_above0 a.test_geometry a.test_points
      ∷ jdets_above0 a.trial_geometry a.trial_points
      ∷ [])

  abbrev pub distant_checks : Distant → List Check
  distant_checks a = check 9 (distant_counts a) ∷ check 10 (distant_lengths a) ∷ check 11 (distant_numbers a) ∷ []

-- what the work needs: an integrand that passes check 6, at most ten basis functions, point counts not above their range, and the lengths of check 10
pub record TouchingFits (f : Integrand) (m n : ℕ) (a : Touching) : Type 0 where
  pub right : integrand_right f ≡ true
  pub test_few : m ≤ most_dim
  pub trial_few : n ≤ most_dim
  pub count : a.points ≤ most_touching_points
  pub lengths : touching_lengths f m n a ≡ true

pub record DistantFits (f : Integrand) (m n : ℕ) (a : Distant) : Type 0 where
  pub right : integrand_right f ≡ true
  pub test_few : m ≤ most_dim
  pub trial_few : n ≤ most_dim
  pub test_count : a.test_points ≤ most_distant_points
  pub trial_count : a.trial_points ≤ most_distant_points
  pub lengths : distant_lengths f m n a ≡ true
