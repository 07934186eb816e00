-- A number in a range, and numbers below a bound. Assumes nothing.
use Rattle.std.specs.Prelude.{max, ℕ, ◌<◌, ◌≤◌, Bool, true, ◌&&◌, ◌≡◌, List, length, get_or, leb, ltb}
use Rattle.std.proofs.Common.{leb-true, ltb-true, nat_cmp, is_le, arith}
use Rattle.std.proofs.lemmas.Bool.Decides.{nat_tests}
use Rattle.std.specs.Ordering.{ord_max}
use Rattle.lists.specs.Bool.{◌and◌, and_left, and_right}
use Rattle.lists.specs.Bounded.{all, all_at}

-- low ≤ x ≤ high
abbrev pub within : ℕ → ℕ → ℕ → Bool
within low high x = leb low x and leb x high

-- what `contains` answers at `low..=high`
pub contains_within : (low high x : ℕ) → (is_le (nat_cmp low x) && is_le (nat_cmp x high)) ≡ within low high x
unfolding ◌and◌
contains_within low high x = grind (arith, nat_tests)

-- what the library's `max` answers
pub larger_of : (a b : ℕ) → ord_max nat_cmp a b ≡ max a b
larger_of a b = grind (arith, nat_tests)

pub within_low : (low high x : ℕ) → within low high x ≡ true → low ≤ x
within_low low high x e = leb-true low x (and_left (leb low x) (leb x high) e)

pub within_high : (low high x : ℕ) → within low high x ≡ true → x ≤ high
within_high low high x e = leb-true x high (and_right (leb low x) (leb x high) e)

-- each number of the list is below the bound
unfoldable pub all_below : List ℕ → ℕ → Bool
all_below l bound = all (length l) (λ k. ltb (get_or l k 0) bound)

pub below_at : (l : List ℕ) (bound : ℕ) → all_below l bound ≡ true → (k : ℕ) → k < length l → get_or l k 0 < bound
unfolding all_below
below_at l bound e k h = ltb-true (get_or l k 0) bound (all_at (length l) (λ k. ltb (get_or l k 0) bound) e k h)
