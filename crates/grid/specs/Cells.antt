-- A list with some numbers for each cell, one cell after the other, where the cell's kind says how many; and cells as lists of numbers. The kind of a
-- cell is how many vertices it has, 3 or 4, and it has as many edges. Assumes nothing.
use Rattle.std.specs.Prelude.{ℕ, zero, suc, ◌+◌, Bool, cond, not, List, [], ◌∷◌, length, get_or, take, drop, eqb}
use Rattle.lists.specs.Bool.{◌and◌, ◌or◌}
use Rattle.lists.specs.Bounded.{all, some, least}

-- how many numbers the cells before cell i have together, where a cell of kind n has w n of them and ks are the kinds
unfoldable pub before : (ℕ → ℕ) → List ℕ → ℕ → ℕ
before w ks zero = 0
before w ks (suc i) = before w ks i + w (get_or ks i 0)

-- the numbers of cell i
unfoldable pub part : (ℕ → ℕ) → List ℕ → List ℕ → ℕ → List ℕ
part w ks l i = take (w (get_or ks i 0)) (drop (before w ks i) l)

-- one number for each vertex, or for each edge: as many as the kind says
abbrev pub own : ℕ → ℕ
own n = n

-- x is one of the numbers of a cell
unfoldable pub has : List ℕ → ℕ → Bool
has xs x = some (length xs) (λ p. eqb (get_or xs p 0) x)

-- two cells share a number
unfoldable pub share : List ℕ → List ℕ → Bool
share xs ys = some (length xs) (λ p. has ys (get_or xs p 0))

-- cells i and j share a number of a flat list
abbrev pub share_in : List ℕ → List ℕ → ℕ → ℕ → Bool
share_in ks l i j = share (part own ks l i) (part own ks l j)

-- no number stands twice in a cell
unfoldable pub distinct : List ℕ → Bool
distinct xs = all (length xs) (λ q. all q (λ p. not (eqb (get_or xs p 0) (get_or xs q 0))))

-- a local edge, by the two local vertices that it joins
pub record Ends : Type 0 where
  pub first : ℕ
  pub second : ℕ

infix 80 ◌–◌
abbrev pub ◌–◌ : ℕ → ℕ → Ends
a – b = record { first = a; second = b }

-- the local edges of a cell of kind n: (1,2), (0,2), (0,1) of a triangle, (0,1), (0,2), (1,3), (2,3) of a quad
abbrev pub edges_of : ℕ → List Ends
edges_of n = cond (eqb n 3) (1 – 2 ∷ 0 – 2 ∷ 0 – 1 ∷ []) (0 – 1 ∷ 0 – 2 ∷ 1 – 3 ∷ 2 – 3 ∷ [])

abbrev pub ends_of : ℕ → ℕ → Ends
ends_of n e = get_or (edges_of n) e (0 – 0)

-- {a, b} and {c, d} are the same two
unfoldable pub same_two : ℕ → ℕ → ℕ → ℕ → Bool
same_two a b c d = (eqb a c and eqb b d) or (eqb a d and eqb b c)

-- the local edge of a cell of kind n that joins local vertices a and b; n where none does
unfoldable pub edge_joining : ℕ → ℕ → ℕ → ℕ
edge_joining n a b = least n (λ e. same_two (ends_of n e).first (ends_of n e).second a b)
