-- Where the entries of a local matrix lie in a list, what an add asks, and its parts: one entry, one column. Assumes nothing.
use Rattle.std.specs.Prelude.{ℕ, ◌+◌, ◌*◌, ◌≤◌, ◌<◌, ◌≡◌, List, length, get_or, Float}
use Rattle.lists.specs.Fold.{upto}
use Rattle.function.specs.Elements.{most_dim}
use Rattle.numbers.specs.Floats.{◌!◌}
use Rattle.scatter.specs.Adding.{add_at}

-- entry (i,j) of a local matrix with m rows, as its numbers lie in a list
abbrev pub entry_at : List Float → ℕ → ℕ → ℕ → Float
entry_at entries m i j = entries ! (i + m * j)

-- the matrix is rows·columns long, and has the row and the column of each DOF; there are at most 10 DOFs of each
pub record AddFits (matrix : List Float) (rows columns : ℕ) (test_dofs trial_dofs : List ℕ) : Type 0 where
  pub size : length matrix ≡ rows * columns
  pub test : (k : ℕ) → k < length test_dofs → get_or test_dofs k 0 < rows
  pub trial : (k : ℕ) → k < length trial_dofs → get_or trial_dofs k 0 < columns
  pub few : length test_dofs ≤ most_dim
  pub few_trial : length trial_dofs ≤ most_dim

-- the column that starts at base is within the matrix, and has the row of each test DOF
pub record ColumnFits (matrix : List Float) (rows base : ℕ) (test_dofs : List ℕ) : Type 0 where
  pub size : base + rows ≤ length matrix
  pub test : (k : ℕ) → k < length test_dofs → get_or test_dofs k 0 < rows

-- each entry list has room for the local matrix from place at on; there are at most 10 DOFs of each
pub record HasRoom (at : ℕ) (rows columns : List ℕ) (values : List Float) (test_dofs trial_dofs : List ℕ) : Type 0 where
  pub for_rows : at + length test_dofs * length trial_dofs ≤ length rows
  pub for_columns : at + length test_dofs * length trial_dofs ≤ length columns
  pub for_values : at + length test_dofs * length trial_dofs ≤ length values
  pub few : length test_dofs ≤ most_dim
  pub few_trial : length trial_dofs ≤ most_dim

-- test basis i of one column, added from base on; and the whole column
unfoldable pub add_row : (ℕ → Float) → ℕ → List ℕ → ℕ → List Float → List Float
add_row entry base test_dofs i M = add_at M (get_or test_dofs i 0 + base) (entry i)

abbrev pub add_column : (ℕ → Float) → ℕ → List ℕ → List Float → List Float
add_column entry base test_dofs M = upto (add_row entry base test_dofs) (length test_dofs) M

-- trial basis j, added to its column
unfoldable pub add_trial : (ℕ → ℕ → Float) → ℕ → List ℕ → List ℕ → ℕ → List Float → List Float
add_trial entry rows test_dofs trial_dofs j M = add_column (λ i. entry i j) (rows * get_or trial_dofs j 0) test_dofs M
