-- Laws on what is lent: what a point reads, and the sums of the points passed. Assumes nothing.
use Rattle.std.specs.Prelude.{ℕ, ◌+◌, ◌*◌, ◌<◌, ◌≤◌, ◌≡◌, length, replicate, Float}
use Rattle.std.proofs.Common.{arith, ◌∙◌, ap}
use Rattle.std.proofs.Math.Path.{refl, sym}
use Rattle.std.proofs.lemmas.List.{length-replicate, get_or-replicate}
use Rattle.std.specs.Float.{nan}
use Rattle.lists.specs.Fold.{upto, upto_none, upto_more}
use Rattle.lists.specs.Places.{in_row, in_rectangle}
use Rattle.numbers.specs.Floats.{0·0, 1·0, ◌⊕◌, ◌⊗◌, ◌!◌}
use Rattle.numbers.specs.One.{product_one}
use Rattle.function.specs.Elements.{most_dim}
use Rattle.table.specs.Rows.{table_row}
use Rattle.integrands.specs.declared.Integrand.{Integrand}
use Rattle.integrands.specs.declared.Geometry.{Geometry}
use Rattle.integrands.specs.Terms.{kernel_width, table_rows}
use Rattle.integrands.specs.Values.{geometry_at, point_value}
use Rattle.integrands.specs.Columns.{Held, Table, rows_some, hundred_place}
use Rattle.lent_numbers.specs.Lent.{most_point_pairs, Touching, Distant, TouchingFits, DistantFits}
use Rattle.lent_numbers.specs.Sizes.{touching_sizes, distant_sizes, small_pairs}
use Rattle.lent_numbers.specs.Entries.{touching_value, touching_summand, touching_entry, distant_value, distant_summand, distant_entry}

-- ---- what a point reads

pub touching_test_table : {f : Integrand} {m n : ℕ} {a : Touching} → TouchingFits f m n a → (q : ℕ) → q < a.points → Table (table_rows f) a.points q m a.test_table
touching_test_table {f} {m} {n} {a} h q l =
    let s = touching_sizes f m n a h.lengths in
    record { point = l; rows = (rows_some f).0; few = h.test_few; reach = omega (arith, s.test_table) }

pub touching_trial_table : {f : Integrand} {m n : ℕ} {a : Touching} → TouchingFits f m n a → (q : ℕ) → q < a.points → Table (table_rows f) a.points q n a.trial_table
touching_trial_table {f} {m} {n} {a} h q l =
    let s = touching_sizes f m n a h.lengths in
    record { point = l; rows = (rows_some f).0; few = h.trial_few; reach = omega (arith, s.trial_table) }

pub touching_kernel : {f : Integrand} {m n : ℕ} {a : Touching} → TouchingFits f m n a → (q : ℕ) → q < a.points → kernel_width f * q + kernel_width f ≤ length a.kernel
touching_kernel {f} {m} {n} {a} h q l = omega (arith, (touching_sizes f m n a h.lengths).kernel, in_row (kernel_width f) a.points q l)

pub distant_test_table : {f : Integrand} {m n : ℕ} {a : Distant} → DistantFits f m n a → (t : ℕ) → t < a.test_points → Table (table_rows f) a.test_points t m a.test_table
distant_test_table {f} {m} {n} {a} h t l =
    let s = distant_sizes f m n a h.lengths in
    record { point = l; rows = (rows_some f).0; few = h.test_few; reach = omega (arith, s.test_table) }

pub distant_trial_table : {f : Integrand} {m n : ℕ} {a : Distant} → DistantFits f m n a → (r : ℕ) → r < a.trial_points → Table (table_rows f) a.trial_points r n a.trial_table
distant_trial_table {f} {m} {n} {a} h r l =
    let s = distant_sizes f m n a h.lengths in
    record { point = l; rows = (rows_some f).0; few = h.trial_few; reach = omega (arith, s.trial_table) }

pub distant_kernel : {f : Integrand} {m n : ℕ} {a : Distant} → DistantFits f m n a → (t r : ℕ) → t < a.test_points → r < a.trial_points
    → kernel_width f * (t + a.test_points * r) + kernel_width f ≤ length a.kernel
distant_kernel {f} {m} {n} {a} h t r lt lr =
    omega (arith, (distant_sizes f m n a h.lengths).kernel, in_row (kernel_width f) (a.test_points * a.trial_points) (t + a.test_points * r) (in_rectangle a.test_points a.trial_points t r lt lr))

pub touching_geometry : {f : Integrand} {m n : ℕ} {a : Touching} → TouchingFits f m n a → (q : ℕ) → q < a.points
    → (10 * q + 10 ≤ length a.test_geometry) × (10 * q + 10 ≤ length a.trial_geometry) × (q < length a.weights)
touching_geometry {f} {m} {n} {a} h q l =
    let s = touching_sizes f m n a h.lengths in
    (omega (arith, s.test_geometry), omega (arith, s.trial_geometry), omega (arith, s.weights))

pub distant_geometry : {f : Integrand} {m n : ℕ} {a : Distant} → DistantFits f m n a → (t : ℕ) → t < a.test_points
    → (10 * t + 10 ≤ length a.test_geometry) × (t < length a.test_weights)
distant_geometry {f} {m} {n} {a} h t l =
    let s = distant_sizes f m n a h.lengths in
    (omega (arith, s.test_geometry), omega (arith, s.test_weights))

pub distant_trial_geometry : {f : Integrand} {m n : ℕ} {a : Distant} → DistantFits f m n a → (r : ℕ) → r < a.trial_points
    → (10 * r + 10 ≤ length a.trial_geometry) × (r < length a.trial_weights)
distant_trial_geometry {f} {m} {n} {a} h r l =
    let s = distant_sizes f m n a h.lengths in
    (omega (arith, s.trial_geometry), omega (arith, s.trial_weights))

-- where a pair of points stands in the kernel values
pub distant_pair_lem : {f : Integrand} {m n : ℕ} {a : Distant} → DistantFits f m n a → (t r : ℕ) → t < a.test_points → r < a.trial_points
    → (a.test_points * r ≤ most_point_pairs) × (t + a.test_points * r < most_point_pairs)
distant_pair_lem {f} {m} {n} {a} h t r lt lr =
    let inside = in_rectangle a.test_points a.trial_points t r lt lr in
    let most = small_pairs a.test_points a.trial_points h.test_count h.trial_count in
    (omega (arith, inside, most), omega (arith, inside, most))

-- ---- the sums of the points passed

module _ (f : Integrand) where
  unfoldable pub touching_sum : Touching → ℕ → ℕ → ℕ → Float
  touching_sum a i j q = upto (λ (p : ℕ) (sum : Float). sum ⊕ touching_summand f a i j p) q 0·0

  -- the test points before t
  unfoldable pub distant_rows : Distant → ℕ → ℕ → ℕ → Float
  distant_rows a i j t =
      upto (λ (t : ℕ) (sum : Float). upto (λ (r : ℕ) (s : Float). s ⊕ distant_summand f a i j t r) a.trial_points sum) t 0·0

  -- and test point t with the trial points before r
  unfoldable pub distant_sum : Distant → ℕ → ℕ → ℕ → ℕ → Float
  distant_sum a i j t r = upto (λ (r : ℕ) (s : Float). s ⊕ distant_summand f a i j t r) r (distant_rows a i j t)

  touching_start : (a : Touching) (i j : ℕ) → 0·0 ≡ touching_sum a i j 0
  unfolding touching_sum
  touching_start a i j = sym (upto_none (λ (p : ℕ) (sum : Float). sum ⊕ touching_summand f a i j p) 0·0)

  -- one point more, with its geometry, the width and the rows as the code has them
  touching_more : (a : Touching) (i j q K D : ℕ) (g h : Geometry) {x : Float} → g ≡ geometry_at a.test_geometry q → h ≡ geometry_at a.trial_geometry q
      → K ≡ kernel_width f → D ≡ table_rows f
      → x ≡ point_value f (λ d. a.kernel ! (d + K * q)) (table_row a.test_table D a.points q i) (table_row a.trial_table D a.points q j) g h
      → touching_sum a i j q ⊕ x ⊗ (a.weights ! q ⊗ (g.jdet ⊗ h.jdet)) ≡ touching_sum a i j (q + 1)
  unfolding touching_sum touching_summand touching_value
  touching_more a i j q K D g h {x} eg eh ek ed e =
      rw (e, eg, eh, ek, ed) (sym (upto_more (λ (p : ℕ) (sum : Float). sum ⊕ touching_summand f a i j p) q 0·0))

  -- weighed once: a product times 1 is that product
  pub touching_once : (a : Touching) (i j q K D : ℕ) (g h : Geometry) {x : Float} → g ≡ geometry_at a.test_geometry q → h ≡ geometry_at a.trial_geometry q
      → K ≡ kernel_width f → D ≡ table_rows f
      → x ≡ point_value f (λ d. a.kernel ! (d + K * q)) (table_row a.test_table D a.points q i) (table_row a.trial_table D a.points q j) g h
      → touching_sum a i j q ⊕ x ⊗ (a.weights ! q ⊗ (g.jdet ⊗ h.jdet)) ⊗ 1·0 ≡ touching_sum a i j (q + 1)
  touching_once a i j q K D g h {x} eg eh ek ed e =
      ap (λ (y : Float). touching_sum a i j q ⊕ y) (product_one x (a.weights ! q ⊗ (g.jdet ⊗ h.jdet))) ∙ touching_more a i j q K D g h eg eh ek ed e

  pub touching_end : (a : Touching) (i j : ℕ) → touching_sum a i j a.points ≡ touching_entry f a i j
  unfolding touching_sum touching_entry
  touching_end a i j = refl

  distant_start : (a : Distant) (i j : ℕ) → 0·0 ≡ distant_rows a i j 0
  unfolding distant_rows
  distant_start a i j = sym (upto_none (λ (t : ℕ) (sum : Float). upto (λ (r : ℕ) (s : Float). s ⊕ distant_summand f a i j t r) a.trial_points sum) 0·0)

  pub distant_row_start : (a : Distant) (i j t : ℕ) → distant_rows a i j t ≡ distant_sum a i j t 0
  unfolding distant_sum
  distant_row_start a i j t = sym (upto_none (λ (r : ℕ) (s : Float). s ⊕ distant_summand f a i j t r) (distant_rows a i j t))

  pub distant_more : (a : Distant) (i j t r K D : ℕ) (g h : Geometry) {x v : Float} → g ≡ geometry_at a.test_geometry t → h ≡ geometry_at a.trial_geometry r
      → K ≡ kernel_width f → D ≡ table_rows f → v ≡ a.test_weights ! t ⊗ g.jdet
      → x ≡ point_value f (λ d. a.kernel ! (d + K * (t + a.test_points * r))) (table_row a.test_table D a.test_points t i) (table_row a.trial_table D a.trial_points r j) g h
      → distant_sum a i j t r ⊕ x ⊗ (a.trial_weights ! r ⊗ h.jdet) ⊗ v ≡ distant_sum a i j t (r + 1)
  unfolding distant_sum distant_summand distant_value
  distant_more a i j t r K D g h {x} {v} eg eh ek ed ev e =
      rw (e, ev, eg, eh, ek, ed) (sym (upto_more (λ (r : ℕ) (s : Float). s ⊕ distant_summand f a i j t r) r (distant_rows a i j t)))

  pub distant_row_end : (a : Distant) (i j t : ℕ) → distant_sum a i j t a.trial_points ≡ distant_rows a i j (t + 1)
  unfolding distant_sum distant_rows
  distant_row_end a i j t = sym (upto_more (λ (t : ℕ) (sum : Float). upto (λ (r : ℕ) (s : Float). s ⊕ distant_summand f a i j t r) a.trial_points sum) t 0·0)

  pub distant_end : (a : Distant) (i j : ℕ) → distant_rows a i j a.test_points ≡ distant_entry f a i j
  unfolding distant_rows distant_entry
  distant_end a i j = refl

-- every entry starts at 0
zeros : {m n : ℕ} (v : ℕ → ℕ → Float) → m ≤ most_dim → n ≤ most_dim → ((i j : ℕ) → 0·0 ≡ v i j) → Held m n (replicate 100 0·0) v
zeros {m} {n} v hm hn e =
    record {
      size = length-replicate {A = Float} 100 0·0;
      at = λ i j l b. get_or-replicate 100 (i + m * j) 0·0 nan (hundred_place m i j hm l (omega arith)) ∙ e i j;
    }

pub touching_begin : (f : Integrand) {m n : ℕ} (a : Touching) → m ≤ most_dim → n ≤ most_dim → Held m n (replicate 100 0·0) (λ i j. touching_sum f a i j 0)
touching_begin f a hm hn = zeros (λ i j. touching_sum f a i j 0) hm hn (touching_start f a)

pub distant_begin : (f : Integrand) {m n : ℕ} (a : Distant) → m ≤ most_dim → n ≤ most_dim → Held m n (replicate 100 0·0) (λ i j. distant_rows f a i j 0)
distant_begin f a hm hn = zeros (λ i j. distant_rows f a i j 0) hm hn (distant_start f a)
