-- Promises of the numbering, where the lists of the cells are as long as their kinds say (`Filled`): how long the lists are, and that each number below
-- the count is written. Where all cells also have the same a and b (`Matched`): that the numbers are those below the count, that two entities never have
-- the same number, and what the owner record of a DOF says. That no number stands twice in one cell needs a cell whose vertices are distinct, and whose
-- edges are. Assumes nothing.
use Prim.Native.Nat.{ℕ, ◌<◌}
use Rattle.std.specs.Prelude.{◌≡◌, List}
use Rattle.std.proofs.Math.ListN.{length, get_or}

-- ---- no number stands twice in one cell

-- two places of the list with the same number are the same place
abbrev pub Distinct : List ℕ → Type 0
Distinct xs = (p q : ℕ) → p < length xs → q < length xs → get_or xs p 0 ≡ get_or xs q 0 → p ≡ q
