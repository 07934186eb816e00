-- Laws of the local edges of a cell: the one that joins two places, and the second vertex of each. Assumes nothing.
use Rattle.std.specs.Prelude.{ℕ, zero, suc, ◌<◌, ◌≤◌, Option, None, Some, MatchOption, ◌≡◌, refl, Bool, true, false, cond, List, [], ◌∷◌, get_or, length, eqb}
use Rattle.std.specs.List.{AllWithin, HoldsAt}
use Rattle.std.proofs.Common.{zero-le, arith, sym, ap, ◌∙◌, ⊎_elim}
use Rattle.lists.specs.Bounded.{least_is, least_none, lt_or_le, eq_or_ne}
use Rattle.grid.specs.Cells.{ends_of, ◌–◌, same_two, edge_joining}

-- the local edges of a cell of kind n, as the code has them
abbrev pub edge_pairs : ℕ → List (ℕ × ℕ)
edge_pairs n = cond (eqb n 3) ((1, 2) ∷ (0, 2) ∷ (0, 1) ∷ []) ((0, 1) ∷ (0, 2) ∷ (1, 3) ∷ (2, 3) ∷ [])

-- a kind that is not 3 is 4
pub is_four : (n : ℕ) → 3 ≤ n → n ≤ 4 → (n ≡ 3 → ⊥) → n ≡ 4
is_four n l m h = ⊎_elim (λ b. absurd (h (omega arith))) (λ b. omega arith) (lt_or_le n 4)

-- there are n
pub length_pairs : (n : ℕ) → 3 ≤ n → n ≤ 4 → length (edge_pairs n) ≡ n
length_pairs n l m = ⊎_elim (λ e. rw e refl) (λ e. rw (is_four n l m e) refl) (eq_or_ne n 3)

-- edge k, as its definition has it
pub pair_at : (n k : ℕ) → ((get_or (edge_pairs n) k (0, 0)).0 ≡ (ends_of n k).first) × ((get_or (edge_pairs n) k (0, 0)).1 ≡ (ends_of n k).second)
pair_at n k = go (eqb n 3) k
  where
    go : (b : Bool) (k : ℕ) → ((get_or {A = ℕ × ℕ} (cond b ((1, 2) ∷ (0, 2) ∷ (0, 1) ∷ []) ((0, 1) ∷ (0, 2) ∷ (1, 3) ∷ (2, 3) ∷ [])) k (0, 0)).0 ≡ (get_or (cond b (1 – 2 ∷ 0 – 2 ∷ 0 – 1 ∷ []) (0 – 1 ∷ 0 – 2 ∷ 1 – 3 ∷ 2 – 3 ∷ [])) k (0 – 0)).first)
        × ((get_or {A = ℕ × ℕ} (cond b ((1, 2) ∷ (0, 2) ∷ (0, 1) ∷ []) ((0, 1) ∷ (0, 2) ∷ (1, 3) ∷ (2, 3) ∷ [])) k (0, 0)).1 ≡ (get_or (cond b (1 – 2 ∷ 0 – 2 ∷ 0 – 1 ∷ []) (0 – 1 ∷ 0 – 2 ∷ 1 – 3 ∷ 2 – 3 ∷ [])) k (0 – 0)).second)
    go true zero = (refl, refl)
    go true (suc zero) = (refl, refl)
    go true (suc (suc zero)) = (refl, refl)
    go true (suc (suc (suc k))) = (refl, refl)
    go false zero = (refl, refl)
    go false (suc zero) = (refl, refl)
    go false (suc (suc zero)) = (refl, refl)
    go false (suc (suc (suc zero))) = (refl, refl)
    go false (suc (suc (suc (suc k)))) = (refl, refl)

-- what a search for the edge that joins two places says of it
abbrev pub IsEdge : Option ℕ → ℕ → ℕ → Type 0
IsEdge None e n = e ≡ n
IsEdge (Some k) e n = (k ≡ e) × (k < n)

-- as the library's `position` answers it
module _ (n a b : ℕ) (l : 3 ≤ n) (m : n ≤ 4) {ps : List (ℕ × ℕ)} (items : ps ≡ edge_pairs n) where
  long : length ps ≡ n
  long = ap length items ∙ length_pairs n l m

  joined : (k : ℕ) → same_two (get_or ps k (0, 0)).0 (get_or ps k (0, 0)).1 a b ≡ same_two (ends_of n k).first (ends_of n k).second a b
  joined k = rw (items, (pair_at n k).0, (pair_at n k).1) refl

  pub edge_told : (r : Option ℕ)
      → MatchOption r (AllWithin (λ y. same_two y.0 y.1 a b ≡ false) ps 0 (length ps)) (λ k. (k < length ps) × HoldsAt (λ y. same_two y.0 y.1 a b ≡ true) ps k × AllWithin (λ y. same_two y.0 y.1 a b ≡ false) ps 0 k)
      → IsEdge r (edge_joining n a b) n
  unfolding edge_joining
  edge_told None h = least_none n _ (λ k l. sym (joined k) ∙ h k (0, 0) zero-le (omega (arith, long, l)))
  edge_told (Some e) h =
      (sym (least_is n _ e (omega (arith, long, h.0)) (λ k l. sym (joined k) ∙ h.2 k (0, 0) zero-le l) (λ _. sym (joined e) ∙ h.1 (0, 0))), omega (arith, long, h.0))
