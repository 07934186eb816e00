-- A local matrix of two test and two trial basis functions, put into a matrix of three rows and into entry lists. Assumes nothing.
use Rattle.std.specs.Prelude.{ℕ, zero, suc, refl, [], ◌∷◌, Float}
use Rattle.lists.specs.Examples.{Example, example, Holds}
use Rattle.integrands.specs.Examples.{0·, 1·, 2·, 3·, 4·, opened_integrands}
use Rattle.scatter.specs.Adding.{add_at, add_local, local_rows, local_columns, local_values}

-- opens the definitions of this crate and of those below it
unfoldable pub opened_scatter : Unit {0}
unfolding opened_integrands add_at add_local local_rows local_columns local_values
opened_scatter = tt

-- 1, 2 in the first column, 3, 4 in the second
abbrev entry : ℕ → ℕ → Float
entry zero zero = 1·
entry (suc i) zero = 2·
entry zero (suc j) = 3·
entry (suc i) (suc j) = 4·

-- test DOFs 2, 0, trial DOFs 1, 0, three rows: local entry (i,j) at row + 3·column
abbrev pub added : Example
added =
    example (add_local entry 3 (2 ∷ 0 ∷ []) (1 ∷ 0 ∷ []) (0· ∷ 1· ∷ 0· ∷ 0· ∷ 0· ∷ 1· ∷ [])) (4· ∷ 1· ∷ 3· ∷ 2· ∷ 0· ∷ 2· ∷ [])

pub added_holds : Holds added
unfolding opened_scatter
added_holds = refl

-- as entries, trial basis outer
abbrev pub rows_columns : Example
rows_columns =
    example (local_rows (2 ∷ 0 ∷ []) (1 ∷ 0 ∷ []) ∷ local_columns (2 ∷ 0 ∷ []) (1 ∷ 0 ∷ []) ∷ []) ((2 ∷ 0 ∷ 2 ∷ 0 ∷ []) ∷ (1 ∷ 1 ∷ 0 ∷ 0 ∷ []) ∷ [])

pub rows_columns_hold : Holds rows_columns
unfolding opened_scatter
rows_columns_hold = refl

abbrev pub values : Example
values = example (local_values entry 2 2) (1· ∷ 2· ∷ 3· ∷ 4· ∷ [])

pub values_hold : Holds values
unfolding opened_scatter
values_hold = refl
