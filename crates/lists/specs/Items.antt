-- What a walk over a list or over the numbers below n answers, in our words: `.iter().all(..)` is `all`, `.iter().any(..)` is `some`, and `(0..n).find(..)`
-- finds `least`. The hypotheses are what the library's `cases_from_all`, `cases_from_any` and `first_from_Range` conclude. Assumes nothing.
use Rattle.std.specs.Prelude.{ℕ, ◌<◌, ◌≤◌, ◌≡◌, Bool, true, false, List, length, get_or, MatchBool, MatchOption, Option, None, Some, unwrap_or}
use Rattle.std.specs.List.{AllWithin, HoldsAt, range_with_len}
use Rattle.std.proofs.Common.{arith, sym, ap, ◌∙◌, zero-le}
use Rattle.std.proofs.lemmas.List.FromFn.{length-range_with_len, get_or-range_with_len}
use Rattle.lists.specs.Bounded.{all, some, least, all_of, all_fails, all_ext, some_at, some_none, least_is, least_none}

module _ {X : Type 0} where
  pub all_items : (d : X) (test : X → Bool) (xs : List X) (r : Bool) → MatchBool r (AllWithin (λ x. test x ≡ true) xs 0 (length xs)) ((k : ℕ) × (k < length xs) × HoldsAt (λ x. test x ≡ false) xs k)
      → r ≡ all (length xs) (λ k. test (get_or xs k d))
  all_items d test xs true h = sym (all_of _ _ (λ k l. h k d zero-le l))
  all_items d test xs false h = sym (all_fails _ _ h.0 h.1 (h.2 d))

  pub any_item : (d : X) (test : X → Bool) (xs : List X) (r : Bool) → MatchBool r ((k : ℕ) × (k < length xs) × HoldsAt (λ x. test x ≡ true) xs k) (AllWithin (λ x. test x ≡ false) xs 0 (length xs))
      → r ≡ some (length xs) (λ k. test (get_or xs k d))
  any_item d test xs true h = sym (some_at _ _ h.0 h.1 (h.2 d))
  any_item d test xs false h = sym (some_none _ _ (λ k l. h k d zero-le l))

-- of the numbers from 0 up to n
pub all_numbers : (n : ℕ) (test : ℕ → Bool) (r : Bool)
    → MatchBool r (AllWithin (λ x. test x ≡ true) (range_with_len 0 n) 0 (length (range_with_len 0 n))) ((k : ℕ) × (k < length (range_with_len 0 n)) × HoldsAt (λ x. test x ≡ false) (range_with_len 0 n) k)
    → r ≡ all n test
all_numbers n test r h =
    all_items 0 test (range_with_len 0 n) r h
    ∙ ap (λ (m : ℕ). all m (λ k. test (get_or (range_with_len 0 n) k 0))) (length-range_with_len 0 n)
    ∙ all_ext n _ test (λ k l. let e : get_or (range_with_len 0 n) k 0 ≡ k = omega (arith, get_or-range_with_len 0 n k 0 l) in ap test e)

-- n stands for none
pub least_found : (n : ℕ) (f : ℕ → Bool) (r : Option ℕ) → MatchOption r ((k : ℕ) → 0 ≤ k → k < n → f k ≡ false) (λ i. (0 ≤ i) × (i < n) × (f i ≡ true) × ((k : ℕ) → 0 ≤ k → k < i → f k ≡ false))
    → unwrap_or r n ≡ least n f
least_found n f None h = sym (least_none n f (λ k l. h k zero-le l))
least_found n f (Some i) h = sym (least_is n f i (omega (arith, h.1)) (λ k l. h.3 k zero-le l) (λ l. h.2))
