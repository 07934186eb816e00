-- Sparse rows of small lists of entries: duplicates, −0, empty rows, no room, bad entries, the order of sums. Assumes nothing.
use Rattle.std.specs.Prelude.{ℕ, true, false, ◌≡◌, refl, List, [], ◌∷◌, pos, Float}
use Rattle.std.specs.Float.Ieee as Ieee
use Rattle.std.specs.Float.{nan, inf, fin}
use Rattle.lists.specs.Examples.{opened_lists}
use Rattle.numbers.specs.Ranges.{all_below}
use Rattle.runs.specs.Runs.{EntryLists, entry_lists}
use Rattle.runs.specs.Reading.{plus_all}
use Rattle.sparse_lists.specs.Sparse.{Gathered, kept, refused, stands, values_at, occurs, sum, row_columns, columns_of, values_of, starts_of, kept_of, SparseLists, sparse_lists, entries_fit, lists_hold, sparse_refusal, sparse_rows, sparse_written}

-- opens the definitions of this crate and those that it cites
unfoldable opened : Unit {0}
unfolding opened_lists all_below plus_all stands values_at occurs sum row_columns columns_of values_of starts_of kept_of entries_fit lists_hold sparse_refusal sparse_rows sparse_written Ieee.add
opened = tt

abbrev −0· : Float
−0· = fin true 0 (pos 0)

abbrev 0· : Float
0· = fin false 0 (pos 0)

abbrev 1· : Float
1· = fin false 1 (pos 0)

abbrev 2· : Float
2· = fin false 1 (pos 1)

abbrev 3· : Float
3· = fin false 3 (pos 0)

-- what the call answers, and its lists afterwards
abbrev outcome : EntryLists → ℕ → ℕ → SparseLists → Gathered × SparseLists
outcome e R C l = (sparse_rows e R C l, sparse_written e R C l)

-- row 0 is empty, row 1 has columns 2, 0, 2, 0 in run order, row 2 has column 1 alone, row 3 is empty
abbrev run : EntryLists
run = entry_lists (1 ∷ 1 ∷ 2 ∷ 1 ∷ 1 ∷ []) (2 ∷ 0 ∷ 1 ∷ 2 ∷ 0 ∷ []) (1· ∷ −0· ∷ −0· ∷ 2· ∷ −0· ∷ [])

-- what stands in the lists before: five starts and three values are needed
abbrev lists : SparseLists
lists = sparse_lists (9 ∷ 9 ∷ 9 ∷ 9 ∷ 9 ∷ 9 ∷ []) (8 ∷ 8 ∷ 8 ∷ 8 ∷ []) (3· ∷ 3· ∷ 3· ∷ 3· ∷ [])

-- columns rise, 1 + 2 is 3, one −0 stays −0 and so do two, and the tails stay
pub gathers : outcome run 4 3 lists ≡ (kept 3, sparse_lists (0 ∷ 0 ∷ 2 ∷ 3 ∷ 3 ∷ 9 ∷ []) (0 ∷ 2 ∷ 1 ∷ 8 ∷ []) (−0· ∷ 3· ∷ −0· ∷ 3· ∷ []))
unfolding opened
gathers = refl

-- lists as long as needed
abbrev exact : SparseLists
exact = sparse_lists (9 ∷ 9 ∷ 9 ∷ 9 ∷ 9 ∷ []) (8 ∷ 8 ∷ 8 ∷ []) (3· ∷ 3· ∷ 3· ∷ [])

pub just_enough : outcome run 4 3 exact ≡ (kept 3, sparse_lists (0 ∷ 0 ∷ 2 ∷ 3 ∷ 3 ∷ []) (0 ∷ 2 ∷ 1 ∷ []) (−0· ∷ 3· ∷ −0· ∷ []))
unfolding opened
just_enough = refl

-- a refusal writes nothing
abbrev turns_down : EntryLists → ℕ → ℕ → ℕ → SparseLists → Type 0
turns_down e R C number l = outcome e R C l ≡ (refused number, l)

-- 24: one too few of any
pub few_starts : turns_down run 4 3 24 (sparse_lists (9 ∷ 9 ∷ 9 ∷ 9 ∷ []) (8 ∷ 8 ∷ 8 ∷ []) (3· ∷ 3· ∷ 3· ∷ []))
unfolding opened
few_starts = refl

pub few_columns : turns_down run 4 3 24 (sparse_lists (9 ∷ 9 ∷ 9 ∷ 9 ∷ 9 ∷ []) (8 ∷ 8 ∷ []) (3· ∷ 3· ∷ 3· ∷ []))
unfolding opened
few_columns = refl

pub few_values : turns_down run 4 3 24 (sparse_lists (9 ∷ 9 ∷ 9 ∷ 9 ∷ 9 ∷ []) (8 ∷ 8 ∷ 8 ∷ []) (3· ∷ 3· ∷ []))
unfolding opened
few_values = refl

-- 25: a row or a column not below its size, lists of unequal length; tested first
pub row_high : turns_down run 2 3 25 lists
unfolding opened
row_high = refl

pub column_high : turns_down run 4 2 25 lists
unfolding opened
column_high = refl

pub unequal : turns_down (entry_lists (0 ∷ []) [] (1· ∷ [])) 1 1 25 lists
unfolding opened
unequal = refl

pub first_25 : turns_down run 2 3 25 (sparse_lists [] [] [])
unfolding opened
first_25 = refl

-- no entries: the row starts are still written; no rows: one start
pub no_entries : outcome (entry_lists [] [] []) 2 0 (sparse_lists (9 ∷ 9 ∷ 9 ∷ 9 ∷ []) [] []) ≡ (kept 0, sparse_lists (0 ∷ 0 ∷ 0 ∷ 9 ∷ []) [] [])
unfolding opened
no_entries = refl

pub no_rows : outcome (entry_lists [] [] []) 0 5 (sparse_lists (9 ∷ 9 ∷ []) (8 ∷ []) (3· ∷ [])) ≡ (kept 0, sparse_lists (0 ∷ 9 ∷ []) (8 ∷ []) (3· ∷ []))
unfolding opened
no_rows = refl

-- the values of one row
abbrev row : List ℕ → List ℕ → List Float → ℕ → List Float
row rows columns values C = values_of (values_at (entry_lists rows columns values)) 1 C

-- the largest f64
abbrev max : Float
max = fin false 0x1fffffffffffff (pos 971)

-- as IEEE 754 has it: ∞ − ∞ is NaN, −0 + 0 is 0, a sum overflows, NaN + 1 is NaN; −∞ alone stays
pub wild : row (0 ∷ 0 ∷ 0 ∷ 0 ∷ 0 ∷ 0 ∷ 0 ∷ 0 ∷ 0 ∷ []) (0 ∷ 1 ∷ 2 ∷ 3 ∷ 0 ∷ 1 ∷ 2 ∷ 3 ∷ 4 ∷ []) (inf false ∷ −0· ∷ max ∷ nan ∷ inf true ∷ 0· ∷ max ∷ 1· ∷ inf true ∷ []) 5
    ≡ nan ∷ 0· ∷ inf false ∷ nan ∷ inf true ∷ []
unfolding opened
wild = refl

-- in run order: (1 + 2^53) − 2^53 is 0, (2^53 − 2^53) + 1 is 1
abbrev big : Float
big = fin false 1 (pos 53)

pub in_order : row (0 ∷ 0 ∷ 0 ∷ []) (0 ∷ 0 ∷ 0 ∷ []) (1· ∷ big ∷ fin true 1 (pos 53) ∷ []) 1 ≡ 0· ∷ []
unfolding opened
in_order = refl

pub in_other_order : row (0 ∷ 0 ∷ 0 ∷ []) (0 ∷ 0 ∷ 0 ∷ []) (big ∷ fin true 1 (pos 53) ∷ 1· ∷ []) 1 ≡ 1· ∷ []
unfolding opened
in_other_order = refl
