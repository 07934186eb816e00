-- The entries of the local matrix of a pair. Each starts at 0, and each summand is added by one rounded sum. Assumes nothing.
use Rattle.std.specs.Prelude.{ℕ, ◌+◌, ◌*◌, Float}
use Rattle.lists.specs.Fold.{upto}
use Rattle.table.specs.Rows.{table_row}
use Rattle.integrands.specs.declared.Integrand.{Integrand}
use Rattle.numbers.specs.Floats.{0·0, ◌⊕◌, ◌⊗◌, ◌!◌}
use Rattle.integrands.specs.Terms.{kernel_width, table_rows}
use Rattle.integrands.specs.Values.{geometry_at, point_value}
use Rattle.lent_numbers.specs.Lent.{Touching, Distant}

module _ (f : Integrand) where
  -- the value at point q, for test basis i and trial basis j. Kernel value d stands at d + K·q
  unfoldable pub touching_value : Touching → ℕ → ℕ → ℕ → Float
  touching_value a i j q =
      point_value f
      (λ d. a.kernel ! (d + kernel_width f * q))
      (table_row a.test_table (table_rows f) a.points q i)
      (table_row a.trial_table (table_rows f) a.points q j)
      (geometry_at a.test_geometry q)
      (geometry_at a.trial_geometry q)

  -- value·(weight·(test jdet·trial jdet))
  unfoldable pub touching_summand : Touching → ℕ → ℕ → ℕ → Float
  touching_summand a i j q =
      touching_value a i j q ⊗ (a.weights ! q ⊗ ((geometry_at a.test_geometry q).jdet ⊗ (geometry_at a.trial_geometry q).jdet))

  -- touching: per point
  unfoldable pub touching_entry : Touching → ℕ → ℕ → Float
  touching_entry a i j = upto (λ (q : ℕ) (sum : Float). sum ⊕ touching_summand a i j q) a.points 0·0

  -- the value at test point t and trial point r. Kernel value d stands at d + K(t + T·r)
  unfoldable pub distant_value : Distant → ℕ → ℕ → ℕ → ℕ → Float
  distant_value a i j t r =
      point_value f
      (λ d. a.kernel ! (d + kernel_width f * (t + a.test_points * r)))
      (table_row a.test_table (table_rows f) a.test_points t i)
      (table_row a.trial_table (table_rows f) a.trial_points r j)
      (geometry_at a.test_geometry t)
      (geometry_at a.trial_geometry r)

  -- value·(trial weight·trial jdet)·(test weight·test jdet)
  unfoldable pub distant_summand : Distant → ℕ → ℕ → ℕ → ℕ → Float
  distant_summand a i j t r =
      distant_value a i j t r
      ⊗ (a.trial_weights ! r ⊗ (geometry_at a.trial_geometry r).jdet)
      ⊗ (a.test_weights ! t ⊗ (geometry_at a.test_geometry t).jdet)

  -- distant: per test point, then per trial point
  unfoldable pub distant_entry : Distant → ℕ → ℕ → Float
  distant_entry a i j =
      upto
      (λ (t : ℕ) (sum : Float). upto (λ (r : ℕ) (s : Float). s ⊕ distant_summand a i j t r) a.trial_points sum)
      a.test_points
      0·0
