-- Laws on what a pair of points adds. Assumes nothing.
use Rattle.std.specs.Prelude.{ℕ, true, ◌+◌, ◌*◌, ◌≡◌, List, Float}
use Rattle.std.proofs.Common.{◌∙◌, ap, arith}
use Rattle.numbers.specs.Floats.{◌⊕◌, ◌!◌}
use Rattle.integrands.specs.declared.Integrand.{Integrand}
use Rattle.integrands.specs.Terms.{kind_of, second_read, table_rows}
use Rattle.integrands.specs.Columns.{Added, rows_some, first_rows, second_rows}

-- the same sums, by another name
pub added_as : {m n : ℕ} {xs ys : List Float} {u v : ℕ → ℕ → Float} → Added m n xs ys u → ((i j : ℕ) → u i j ≡ v i j) → Added m n xs ys v
added_as {m} {n} {xs} {ys} h e = record { size = h.size; at = λ i j l b. h.at i j l b ∙ ap (λ (x : Float). xs ! (i + m * j) ⊕ x) (e i j); rest = h.rest }

-- without three rows no kind that is read is 3
pub first_other : (f : Integrand) → (table_rows f ≡ 3 → ⊥) → kind_of f.first ≡ 3 → ⊥
first_other f h e = h (omega (arith, first_rows f e, rows_some f))

pub second_other : (f : Integrand) → second_read f ≡ true → (table_rows f ≡ 3 → ⊥) → kind_of f.second ≡ 3 → ⊥
second_other f two h e = h (omega (arith, second_rows f two e, rows_some f))
