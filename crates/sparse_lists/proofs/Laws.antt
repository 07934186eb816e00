-- Laws of sparse rows: in each row the columns rise strictly; row r has the places from its start to the next row's; and the same values in the same order at
-- each row and column give, for equal sizes, the same sparse rows. Assumes nothing.
use Prim.Native.Nat.{ℕ, zero, suc, ◌+◌, ◌-◌, ◌<◌, ◌≤◌}
use Rattle.std.proofs.Common.{add-one, arith, ◌∙◌, ⊎_elim, get_or-append-add}
use Rattle.std.specs.Prelude.{Bool, true, false, ◌≡◌, get_or, take, drop}
use Rattle.std.proofs.Math.Path.{sym, ap}
use mathlib.Core.List.{List, [], ◌∷◌, ◌++◌, flat_map, map}
use Rattle.std.proofs.Math.ListN.{length, length-append, get_or-append}
use Rattle.std.proofs.lemmas.List.{length-map}
use Rattle.std.proofs.Math.Seq.{take-append_seam, drop-append_seam}
use Rattle.std.specs.Float.Ieee.{Float}
use Rattle.lists.specs.Bounded.{lt_or_le}
use Rattle.lists.specs.Range.{range, when, filter, flat_map_below, map_below, filter_none, filter_more, map_filter, all_in_filter, all_in_range, all_in_at, flat_map_range, flat_map_none, range_split, map_range, length_range}
use Rattle.sparse_lists.specs.Sparse.{occurs, sum, row_columns, columns_of, values_of, starts_of, kept_of, SparseLists, in_front, part}

-- ---- columns rise

below : (p : ℕ → Bool) (n i : ℕ) → i < length (filter p (range n)) → get_or (filter p (range n)) i 0 < n
below p n i h = all_in_at (λ k. k < n) _ (all_in_filter (λ k. k < n) p (range n) (all_in_range (λ k. k < n) n (λ k l. l))) 0 i h

rising : (p : ℕ → Bool) (n i j : ℕ) → i < j → j < length (filter p (range n)) → get_or (filter p (range n)) i 0 < get_or (filter p (range n)) j 0
rising p zero i j h l = absurd (omega (arith, l, ap length (filter_none p)))
rising p (suc n) i j h l = rw (more, filter_more p n) (⊎_elim (λ m. early (p n) m (rising p n i j h m)) (late (p n) (rw (more, filter_more p n) at l)) (lt_or_le j (length front)))
  where
    more : suc n ≡ n + 1
    more = sym (add-one n)

    front : List ℕ
    front = filter p (range n)

    early : (b : Bool) → j < length front → get_or front i 0 < get_or front j 0 → get_or (front ++ when b (n ∷ [])) i 0 < get_or (front ++ when b (n ∷ [])) j 0
    early b m rise = rw (get_or-append front (when b (n ∷ [])) 0 i (omega arith), get_or-append front (when b (n ∷ [])) 0 j m) rise

    late : (b : Bool) → j < length (front ++ when b (n ∷ [])) → length front ≤ j → get_or (front ++ when b (n ∷ [])) i 0 < get_or (front ++ when b (n ∷ [])) j 0
    late false k m = absurd (omega (arith, length-append front []))
    late true k m =
        let last : j ≡ length front + 0 = omega (arith, length-append front (n ∷ [])) in
        rw (last, get_or-append front (n ∷ []) 0 i (omega arith), get_or-append-add front (n ∷ []) 0 0) (below p n i (omega arith))

pub columns_rise : (at : ℕ → ℕ → List Float) (C r i j : ℕ) → i < j → j < length (row_columns at C r) → get_or (row_columns at C r) i 0 < get_or (row_columns at C r) j 0
unfolding row_columns
columns_rise at C r i j h l = rising (λ c. occurs (at r c)) C i j h l

-- ---- row r has the places from its start to the next row's

part_of : {A : Type 0} (front xs more : List A) {from to : ℕ} → from ≡ length front → to ≡ length front + length xs → part from to (front ++ (xs ++ more)) ≡ xs
part_of front xs more {from} {to} p q =
    let long : to - from ≡ length xs = omega arith in
    rw (long, p, drop-append_seam front (xs ++ more)) (take-append_seam xs more)

number_at : (g : ℕ → ℕ) (n k : ℕ) → k < n → get_or (map g (range n)) k 0 ≡ g k
number_at g zero k h = absurd (omega arith)
number_at g (suc n) k h =
    let more : suc n ≡ n + 1 = sym (add-one n) in
    let long : length (map g (range n)) ≡ n = length-map (range n) g ∙ length_range n in
    rw (more, map_range g n)
    (⊎_elim (λ l. get_or-append (map g (range n)) (g n ∷ []) 0 k (omega arith) ∙ number_at g n k l)
    (λ l. let last : k ≡ length (map g (range n)) + 0 = omega arith in
    let same : k ≡ n = omega arith in
    ap (λ (j : ℕ). get_or (map g (range n) ++ (g n ∷ [])) j 0) last ∙ get_or-append-add (map g (range n)) (g n ∷ []) 0 0 ∙ ap g (sym same)) (lt_or_le k n))

module _ (at : ℕ → ℕ → List Float) (R C : ℕ) where
  start_is : (r : ℕ) → r < R + 1 → get_or (starts_of at R C) r 0 ≡ length (columns_of at r C)
  unfolding starts_of
  start_is r h = number_at (λ r. length (columns_of at r C)) (R + 1) r h

  next_start : (r : ℕ) → length (columns_of at (r + 1) C) ≡ length (columns_of at r C) + length (row_columns at C r)
  unfolding columns_of
  next_start r = ap length (flat_map_range (row_columns at C) r) ∙ length-append (flat_map (row_columns at C) (range r)) (row_columns at C r)

  -- as many values as columns
  row_values_long : (r : ℕ) → length (map (λ c. sum (at r c)) (row_columns at C r)) ≡ length (row_columns at C r)
  row_values_long r = length-map (row_columns at C r) (λ c. sum (at r c))

  values_long : (r : ℕ) → length (flat_map (λ r. map (λ c. sum (at r c)) (row_columns at C r)) (range r)) ≡ length (columns_of at r C)
  unfolding columns_of
  values_long zero = rw (flat_map_none (λ r. map (λ c. sum (at r c)) (row_columns at C r)), flat_map_none (row_columns at C))
  values_long (suc r) =
      let more : suc r ≡ r + 1 = sym (add-one r) in
      rw more
      (ap length (flat_map_range (λ r. map (λ c. sum (at r c)) (row_columns at C r)) r)
      ∙ length-append (flat_map (λ r. map (λ c. sum (at r c)) (row_columns at C r)) (range r)) (map (λ c. sum (at r c)) (row_columns at C r))
      ∙ omega (arith, values_long r, row_values_long r, next_start r))

  module _ (r : ℕ) (h : r < R) where
    pub row_columns_holds : part (get_or (starts_of at R C) r 0) (get_or (starts_of at R C) (r + 1) 0) (columns_of at R C) ≡ row_columns at C r
    unfolding columns_of
    row_columns_holds =
        let split = range_split (row_columns at C) r R h in
        rw split.1 (part_of (flat_map (row_columns at C) (range r)) (row_columns at C r) split.0 (start_is r (omega arith)) (start_is (r + 1) (omega arith) ∙ next_start r))

    pub row_values : part (get_or (starts_of at R C) r 0) (get_or (starts_of at R C) (r + 1) 0) (values_of at R C) ≡ map (λ c. sum (at r c)) (row_columns at C r)
    unfolding values_of
    row_values =
        let row : ℕ → List Float = λ r. map (λ c. sum (at r c)) (row_columns at C r) in
        let split = range_split row r R h in
        rw split.1
        (part_of (flat_map row (range r)) (row r) split.0 (start_is r (omega arith) ∙ sym (values_long r))
        (start_is (r + 1) (omega arith) ∙ next_start r ∙ omega (arith, values_long r, row_values_long r)))

-- ---- the same values in the same order

module _ (at other : ℕ → ℕ → List Float) (R C : ℕ) (same : (r c : ℕ) → r < R → c < C → at r c ≡ other r c) where
  same_row : (r : ℕ) → r < R → row_columns at C r ≡ row_columns other C r
  unfolding row_columns filter
  same_row r h = flat_map_below _ _ C (λ c l. ap (λ (vs : List Float). when (occurs vs) (c ∷ [])) (same r c h l))

  same_front : (n : ℕ) → n ≤ R → columns_of at n C ≡ columns_of other n C
  unfolding columns_of
  same_front n h = flat_map_below _ _ n (λ r l. same_row r (omega arith))

  pub same_columns : columns_of at R C ≡ columns_of other R C
  same_columns = same_front R (omega arith)

  pub same_values : values_of at R C ≡ values_of other R C
  unfolding values_of row_columns
  same_values =
      flat_map_below _ _ R
      (λ r h. map_filter (λ c. occurs (at r c)) (λ c. sum (at r c)) C
      ∙ flat_map_below _ _ C (λ c l. ap (λ (vs : List Float). when (occurs vs) (sum vs ∷ [])) (same r c h l))
      ∙ sym (map_filter (λ c. occurs (other r c)) (λ c. sum (other r c)) C))

  pub same_starts : starts_of at R C ≡ starts_of other R C
  unfolding starts_of
  same_starts = map_below _ _ (R + 1) (λ r l. ap length (same_front r (omega arith)))

  pub same_kept : kept_of at R C ≡ kept_of other R C
  unfolding kept_of
  same_kept = ap length same_columns

  pub same_lists : (l : SparseLists) → in_front at R C l ≡ in_front other R C l
  same_lists l = rw (same_starts, same_columns, same_values)
