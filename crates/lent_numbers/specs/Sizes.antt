-- What the checks that passed say of the lengths, and that none of them wraps. Assumes nothing.
use Rattle.std.specs.Prelude.{ℕ, ◌*◌, ◌≤◌, true, ◌≡◌, refl, length}
use Rattle.std.proofs.Common.{mul-le-mul_left, mul-le-mul_right, arith, eqb-true}
use Rattle.lists.specs.Bool.{◌and◌, every_at, and_left, and_right}
use Rattle.lists.specs.Refusals.{refusal, refusal_at}
use Rattle.numbers.specs.Ranges.{within, within_high}
use Rattle.function.specs.Elements.{most_dim}
use Rattle.integrands.specs.declared.Integrand.{Integrand}
use Rattle.integrands.specs.Terms.{integrand_right, kernel_width, table_rows}
use Rattle.integrands.specs.Columns.{rows_some, width_some}
use Rattle.lent_numbers.specs.Lent.{most_touching_points, most_distant_points, most_point_pairs, Touching, Distant, TouchingFits, DistantFits, touching_count, touching_lengths, touching_checks, distant_counts, distant_lengths, distant_checks}

-- the lengths, as equations
pub record TouchingSizes (f : Integrand) (m n : ℕ) (a : Touching) : Type 0 where
  pub weights : length a.weights ≡ a.points
  pub test_table : length a.test_table ≡ table_rows f * (a.points * m)
  pub trial_table : length a.trial_table ≡ table_rows f * (a.points * n)
  pub kernel : length a.kernel ≡ kernel_width f * a.points
  pub test_geometry : length a.test_geometry ≡ 10 * a.points
  pub trial_geometry : length a.trial_geometry ≡ 10 * a.points

pub record DistantSizes (f : Integrand) (m n : ℕ) (a : Distant) : Type 0 where
  pub test_weights : length a.test_weights ≡ a.test_points
  pub trial_weights : length a.trial_weights ≡ a.trial_points
  pub test_table : length a.test_table ≡ table_rows f * (a.test_points * m)
  pub trial_table : length a.trial_table ≡ table_rows f * (a.trial_points * n)
  pub kernel : length a.kernel ≡ kernel_width f * (a.test_points * a.trial_points)
  pub test_geometry : length a.test_geometry ≡ 10 * a.test_points
  pub trial_geometry : length a.trial_geometry ≡ 10 * a.trial_points

pub touching_sizes : (f : Integrand) (m n : ℕ) (a : Touching) → touching_lengths f m n a ≡ true → TouchingSizes f m n a
unfolding touching_lengths
touching_sizes f m n a e =
    record {
      weights = eqb-true _ _ (every_at _ e 0);
      test_table = eqb-true _ _ (every_at _ e 1);
      trial_table = eqb-true _ _ (every_at _ e 2);
      kernel = eqb-true _ _ (every_at _ e 3);
      test_geometry = eqb-true _ _ (every_at _ e 4);
      trial_geometry = eqb-true _ _ (every_at _ e 5);
    }

pub distant_sizes : (f : Integrand) (m n : ℕ) (a : Distant) → distant_lengths f m n a ≡ true → DistantSizes f m n a
unfolding distant_lengths
distant_sizes f m n a e =
    record {
      test_weights = eqb-true _ _ (every_at _ e 0);
      trial_weights = eqb-true _ _ (every_at _ e 1);
      test_table = eqb-true _ _ (every_at _ e 2);
      trial_table = eqb-true _ _ (every_at _ e 3);
      kernel = eqb-true _ _ (every_at _ e 4);
      test_geometry = eqb-true _ _ (every_at _ e 5);
      trial_geometry = eqb-true _ _ (every_at _ e 6);
    }

-- ---- no length of check 10 wraps

product_le : (a b A B : ℕ) → a ≤ A → b ≤ B → a * b ≤ A * B
product_le a b A B ha hb = omega (arith, mul-le-mul_left a hb, mul-le-mul_right B ha)

pub small_table : (f : Integrand) (P m : ℕ) → P ≤ most_touching_points → m ≤ most_dim → (P * m ≤ 20480) × (table_rows f * (P * m) ≤ 61440)
small_table f P m hp hm =
    let inner : P * m ≤ 20480 = product_le P m most_touching_points most_dim hp hm in
    (inner, product_le (table_rows f) (P * m) 3 20480 (rows_some f).1 inner)

pub small_kernel : (f : Integrand) (n : ℕ) → n ≤ most_point_pairs → kernel_width f * n ≤ 4 * most_point_pairs
small_kernel f n h = product_le (kernel_width f) n 4 most_point_pairs (width_some f).1 h

pub small_pairs : (T R : ℕ) → T ≤ most_distant_points → R ≤ most_distant_points → T * R ≤ most_point_pairs
small_pairs T R ht hr = product_le T R most_distant_points most_distant_points ht hr

-- ---- a local matrix may be worked out where the checks pass

pub touching_fits : (f : Integrand) (m n : ℕ) (a : Touching) → integrand_right f ≡ true → m ≤ most_dim → n ≤ most_dim → refusal (touching_checks f m n a) ≡ 0 → TouchingFits f m n a
unfolding touching_count
touching_fits f m n a right hm hn e =
    record { right = right; test_few = hm; trial_few = hn; count = within_high _ _ _ (refusal_at _ e refl 0); lengths = refusal_at _ e refl 1 }

pub few_points : (x y : ℕ) → within 1 most_distant_points x and within 1 most_distant_points y ≡ true → (x ≤ most_distant_points) × (y ≤ most_distant_points)
few_points x y e = (within_high _ _ _ (and_left _ _ e), within_high _ _ _ (and_right _ _ e))

pub distant_fits : (f : Integrand) (m n : ℕ) (a : Distant) → integrand_right f ≡ true → m ≤ most_dim → n ≤ most_dim → refusal (distant_checks f m n a) ≡ 0 → DistantFits f m n a
unfolding distant_counts
distant_fits f m n a right hm hn e =
    let few = few_points _ _ (refusal_at _ e refl 0) in
    record { right = right; test_few = hm; trial_few = hn; test_count = few.0; trial_count = few.1; lengths = refusal_at _ e refl 1 }
