-- A local matrix put into the matrix, and into entry lists. Row i of it is test basis i, column j trial basis j; the order is trial basis outer.
-- Assumes nothing.
use Rattle.std.specs.Prelude.{ℕ, ◌+◌, ◌*◌, length, get_or, set, Float}
use mathlib.Core.List.{List, flat_map, map}
use Rattle.lists.specs.Range.{range}
use Rattle.lists.specs.Fold.{upto}
use Rattle.numbers.specs.Floats.{◌⊕◌, ◌!◌}

-- M with v added at a place, by one rounded sum
unfoldable pub add_at : List Float → ℕ → Float → List Float
add_at M at v = set M at (M ! at ⊕ v)

-- local entry (i,j) is added at row + rows·column, trial basis outer
unfoldable pub add_local : (ℕ → ℕ → Float) → ℕ → List ℕ → List ℕ → List Float → List Float
add_local entry rows test_dofs trial_dofs M =
    upto
    (λ (j : ℕ) (A : List Float).
    upto (λ (i : ℕ) (B : List Float). add_at B (get_or test_dofs i 0 + rows * get_or trial_dofs j 0) (entry i j)) (length test_dofs) A)
    (length trial_dofs)
    M

-- rows, columns and values of a local matrix, in the same order: trial basis outer
unfoldable pub local_rows : List ℕ → List ℕ → List ℕ
local_rows test_dofs trial_dofs = flat_map (λ column. test_dofs) trial_dofs

unfoldable pub local_columns : List ℕ → List ℕ → List ℕ
local_columns test_dofs trial_dofs = flat_map (λ column. map (λ row. column) test_dofs) trial_dofs

unfoldable pub local_values : (ℕ → ℕ → Float) → ℕ → ℕ → List Float
local_values entry m n = flat_map (λ j. map (λ i. entry i j) (range m)) (range n)
