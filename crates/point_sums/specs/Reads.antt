-- What a pair of points reads, and what it adds to an entry. Assumes nothing.
use Rattle.std.specs.Prelude.{ℕ, ◌+◌, ◌≤◌, true, ◌≡◌, List, length, Float}
use Rattle.numbers.specs.Floats.{◌⊗◌, ◌!◌}
use Rattle.table.specs.Views.{row_of}
use Rattle.integrands.specs.declared.Integrand.{Integrand}
use Rattle.integrands.specs.declared.KindValue.{KindValue}
use Rattle.integrands.specs.declared.Term.{Term}
use Rattle.integrands.specs.Terms.{kind_of, integrand_right, kernel_width, table_rows}
use Rattle.integrands.specs.Values.{curl_curl, term_value, point_value}
use Rattle.integrands.specs.Parts.{ValueOfKind, has_curls, factored}
use Rattle.integrands.specs.Columns.{Added}
use Rattle.integrands.specs.Views.{Covers}
use Rattle.point_sums.specs.declared.PointPair.{PointPair}
use Rattle.point_sums.specs.Weights.{weighed}

-- an integrand that passes check 6, its tables and, from `at` on, its kernel values
pub record PairReads (f : Integrand) (pair : PointPair) : Type 0 where
  pub right : integrand_right f ≡ true
  pub test : Covers pair.test.table
  pub trial : Covers pair.trial.table
  pub test_rows : pair.test.table.rows ≡ table_rows f
  pub trial_rows : pair.trial.table.rows ≡ table_rows f
  pub kernel : pair.at + kernel_width f ≤ length pair.kernel.now

-- room for the entries, and tables that reach over the basis functions
abbrev pub MayAdd : PointPair → List Float → Type 0
MayAdd pair entries = (length entries ≡ 100) × Covers pair.test.table × Covers pair.trial.table

-- kernel value d of the pair
abbrev pub kernel_at : PointPair → ℕ → Float
kernel_at pair d = pair.kernel.now ! (d + pair.at)

-- x is the value of a term's kind at the pair
abbrev pub ValueAt : PointPair → Term → KindValue → Type 0
ValueAt pair term x = ValueOfKind (kind_of term) (kernel_at pair) pair.test.geometry pair.trial.geometry x

-- both tables have the rows that a value with curls reads
abbrev pub HasRows : PointPair → KindValue → Type 0
HasRows pair x = has_curls x ≡ true → (3 ≤ pair.test.table.rows) × (3 ≤ pair.trial.table.rows)

-- ---- for test basis i and trial basis j

-- a term, from kernel values k
abbrev pub term_at : PointPair → (ℕ → Float) → Term → ℕ → ℕ → Float
term_at pair k term i j = term_value term k (row_of pair.test.table i) (row_of pair.trial.table j) pair.test.geometry pair.trial.geometry

-- c·t·r with the factor of a term
abbrev pub outer_at : PointPair → Term → Float → ℕ → ℕ → Float
outer_at pair term c i j = factored term (c ⊗ row_of pair.test.table i 0 ⊗ row_of pair.trial.table j 0)

-- the curls of both, c at every kernel value, with the factor of a term
abbrev pub curls_at : PointPair → Term → Float → ℕ → ℕ → Float
curls_at pair term c i j = factored term (curl_curl (λ (d : ℕ). c) (row_of pair.test.table i) (row_of pair.trial.table j) pair.test.geometry pair.trial.geometry)

-- the point value of an integrand
abbrev pub value_at : Integrand → PointPair → ℕ → ℕ → Float
value_at f pair i j = point_value f (kernel_at pair) (row_of pair.test.table i) (row_of pair.trial.table j) pair.test.geometry pair.trial.geometry

-- to each entry its value is added, weighed
abbrev pub AddedAt : PointPair → List Float → List Float → (ℕ → ℕ → Float) → Type 0
AddedAt pair xs ys v = Added pair.test.table.dim pair.trial.table.dim xs ys (λ (i j : ℕ). weighed pair.weight (v i j))
