-- Laws of the numbers of a cell in a flat list, and of cells that share a number. Assumes nothing.
use Prim.Native.Nat.{ℕ, zero, suc, ◌+◌, ◌*◌, ◌-◌, ◌<◌, ◌≤◌, zero-le}
use Rattle.std.proofs.Math.Numerals.{add-one}
use Rattle.std.proofs.Common.{zero-mul, suc-mul, not-suc-le-zero, le_refl, le_of_suc-le-suc, eq-or-lt_of_le, arith, ap₂, subst, ◌∙◌, ⊎_elim, length-take, length-drop, get_or-take, get_or-drop, get_or-append-add, eqb-true, eq-eqb}
use Rattle.std.specs.Prelude.{Bool, true, ◌≡◌, refl, ◌⊎◌, get_or, take, drop, replicate, eqb}
use Rattle.std.proofs.Math.Path.{sym, ap}
use mathlib.Core.List.{List, ◌++◌, flat_map}
use Rattle.std.proofs.Math.ListN.{length, length-append, get_or-append}
use Rattle.std.proofs.lemmas.List.{get_or-replicate}
use Rattle.lists.specs.Bool.{◌and◌}
use Rattle.lists.specs.Bounded.{lt_or_le, all, all_sum, some_at, some_which}
use Rattle.lists.specs.Range.{range, part_all, flat_map_none, flat_map_range, flat_map_sum, range_split}
use Rattle.grid.specs.Cells.{before, part, own, has, share}

-- ---- parts of a flat list

-- the part of cell i ends where that of cell i + 1 begins
pub before_next : (w : ℕ → ℕ) (ks : List ℕ) (i : ℕ) → before w ks (suc i) ≡ before w ks i + w (get_or ks i 0)
unfolding before
before_next w ks i = refl

pub before_le : (w : ℕ → ℕ) (ks : List ℕ) (i n : ℕ) → i ≤ n → before w ks i ≤ before w ks n
unfolding before
before_le w ks i zero h =
    let i=0 : i ≡ zero = omega arith in
    rw i=0 (le_refl _)
before_le w ks i (suc n) h = ⊎_elim (λ e. rw e (le_refl _)) (λ l. omega (arith, before_le w ks i n (le_of_suc-le-suc l), before_next w ks n)) (eq-or-lt_of_le h)

-- cells of one kind
pub before_same : (w : ℕ → ℕ) (C n i : ℕ) → i ≤ C → before w (replicate C n) i ≡ i * w n
unfolding before
before_same w C n zero h = sym (zero-mul (w n))
before_same w C n (suc i) h =
    ap₂ (λ (a k : ℕ). a + w k) (before_same w C n i (omega arith)) (get_or-replicate C i n 0 h) ∙ sym (suc-mul i (w n))

-- cells that have at most so many numbers each
pub before_most : (w : ℕ → ℕ) (ks : List ℕ) (top n : ℕ) → ((i : ℕ) → i < n → w (get_or ks i 0) ≤ top) → before w ks n ≤ n * top
unfolding before
before_most w ks top zero h = zero-le
before_most w ks top (suc n) h = omega (arith, before_most w ks top n (λ i l. h i (omega arith)), h n (omega arith), suc-mul n top)

-- the part of a cell lies in a list that is as long as the parts of C cells add up to
pub part_inside : (w : ℕ → ℕ) (ks : List ℕ) (C i : ℕ) → i < C → before w ks i + w (get_or ks i 0) ≤ before w ks C
part_inside w ks C i h = omega (arith, before_next w ks i, before_le w ks (suc i) C h)

-- each place in such a list is one of a cell
pub before_which : (w : ℕ → ℕ) (ks : List ℕ) (C k : ℕ) → k < before w ks C → (i : ℕ) × (p : ℕ) × (i < C) × (p < w (get_or ks i 0)) × (k ≡ before w ks i + p)
unfolding before
before_which w ks zero k h = absurd (not-suc-le-zero h)
before_which w ks (suc C) k h =
    ⊎_elim (λ l. let r : (i : ℕ) × (p : ℕ) × (i < C) × (p < w (get_or ks i 0)) × (k ≡ before w ks i + p) = before_which w ks C k l in (r.0, r.1, omega arith, r.3, r.4))
    (λ l. (C, k - before w ks C, omega arith, omega arith, omega arith)) (lt_or_le k (before w ks C))

pub length_part : (w : ℕ → ℕ) (ks l : List ℕ) (C i : ℕ) → length l ≡ before w ks C → i < C → length (part w ks l i) ≡ w (get_or ks i 0)
unfolding part
length_part w ks l C i e h =
    length-take (w (get_or ks i 0)) (drop (before w ks i) l) ∙ omega (arith, length-drop (before w ks i) l, part_inside w ks C i h)

-- number p of cell i
pub get_d_part : (w : ℕ → ℕ) (ks l : List ℕ) (i p : ℕ) → p < w (get_or ks i 0) → get_or (part w ks l i) p 0 ≡ get_or l (before w ks i + p) 0
unfolding part
get_d_part w ks l i p h = get_or-take (w (get_or ks i 0)) (drop (before w ks i) l) p 0 h ∙ get_or-drop (before w ks i) l p 0

pub before_more : (w : ℕ → ℕ) (ks : List ℕ) (k : ℕ) → before w ks (k + 1) ≡ before w ks k + w (get_or ks k 0)
before_more w ks k = rw add-one (before_next w ks k)

-- a list with the own numbers of few cells, each of kind 3 or 4
pub record Shaped (ks l : List ℕ) : Type 0 where
  pub few : length ks ≤ 2048
  pub kinds : (i : ℕ) → i < length ks → (get_or ks i 0 ≡ 3) ⊎ (get_or ks i 0 ≡ 4)
  pub long : length l ≡ before own ks (length ks)

module _ {ks l : List ℕ} (s : Shaped ks l) where
  -- it is at most four numbers a cell long
  pub shaped_few : length l ≤ 8192
  shaped_few = omega (arith, s.long, before_most own ks 4 (length ks) (λ i h. ⊎_elim (λ e. omega arith) (λ e. omega arith) (s.kinds i h)), s.few)

  module _ (i : ℕ) (h : i < length ks) where
    -- the numbers of cell i are as many as its kind, and lie in the list
    pub shaped_length : length (part own ks l i) ≡ get_or ks i 0
    shaped_length = length_part own ks l (length ks) i s.long h

    pub shaped_inside : before own ks i + get_or ks i 0 ≤ length l
    shaped_inside = omega (arith, part_inside own ks (length ks) i h, s.long)

-- the numbers of cell k, from where they begin to where they end
pub part_from : (ks : List ℕ) (k : ℕ) {at e : ℕ} → at ≡ before own ks k → e ≡ at + get_or ks k 0 → (l : List ℕ) → take (e - at) (drop at l) ≡ part own ks l k
unfolding part
part_from ks k {at} {e} place end l =
    let n : e - at ≡ get_or ks k 0 = omega (arith, end) in
    ap₂ (λ (n m : ℕ). take n (drop m l)) n place

-- ---- a walk over the cells

-- of so many cells, cell k is the next, and its numbers begin at a place
pub record Begins (ks : List ℕ) (at k : ℕ) : Type 0 where
  pub below : k ≤ length ks
  pub place : at ≡ before own ks k

pub begins_first : (ks : List ℕ) → Begins ks 0 0
unfolding before
begins_first ks = record { below = zero-le; place = refl }

-- they end where those of the next begin
pub begins_next : {ks : List ℕ} {at k e : ℕ} → Begins ks at k → k < length ks → e ≡ at + get_or ks k 0 → Begins ks e (k + 1)
begins_next {ks} {at} {k} w h end = record { below = omega arith; place = end ∙ ap (λ (n : ℕ). n + get_or ks k 0) w.place ∙ sym (before_more own ks k) }

pub begins_last : {ks : List ℕ} {at k : ℕ} → Begins ks at k → length ks ≤ k → at ≡ before own ks (length ks)
begins_last {ks} {at} {k} w h = let e : k ≡ length ks = omega (arith, w.below) in w.place ∙ ap (before own ks) e

module _ {ks l : List ℕ} (s : Shaped ks l) {at k : ℕ} (w : Begins ks at k) (h : k < length ks) where
  pub begins_inside : at + get_or ks k 0 ≤ length l
  begins_inside = omega (arith, w.place, shaped_inside s k h)

  module _ {e : ℕ} (end : e ≡ at + get_or ks k 0) where
    pub begins_part : take (e - at) (drop at l) ≡ part own ks l k
    begins_part = part_from ks k w.place end l

    pub begins_length : length (take (e - at) (drop at l)) ≡ get_or ks k 0
    begins_length = ap length begins_part ∙ shaped_length s k h

    pub begins_few : (3 ≤ length (take (e - at) (drop at l))) × (length (take (e - at) (drop at l)) ≤ 4)
    begins_few = ⊎_elim (λ n. (omega (arith, begins_length, n), omega (arith, begins_length, n))) (λ n. (omega (arith, begins_length, n), omega (arith, begins_length, n))) (s.kinds k h)

-- what holds of each number of the list holds of each number of a cell
pub part_each : (P : ℕ → Type 0) (w : ℕ → ℕ) (ks l : List ℕ) → ((k : ℕ) → k < length l → P (get_or l k 0)) → (i p : ℕ) → p < length (part w ks l i) → P (get_or (part w ks l i) p 0)
unfolding part
part_each P w ks l h i p = part_all P (w (get_or ks i 0)) (before w ks i) l h p

-- ---- cells that share a number

pub has_place : (xs : List ℕ) (x : ℕ) → has xs x ≡ true → (p : ℕ) × (p < length xs) × (get_or xs p 0 ≡ x)
unfolding has
has_place xs x h =
    let w : (p : ℕ) × (p < length xs) × (eqb (get_or xs p 0) x ≡ true) = some_which (length xs) (λ p. eqb (get_or xs p 0) x) h in
    (w.0, w.1, eqb-true (get_or xs w.0 0) x w.2)

pub has_at : (xs : List ℕ) (p x : ℕ) → p < length xs → get_or xs p 0 ≡ x → has xs x ≡ true
unfolding has
has_at xs p x h e = some_at (length xs) (λ p. eqb (get_or xs p 0) x) p h (eq-eqb (get_or xs p 0) x e)

-- two cells share a number exactly where both have one
pub share_which : (xs ys : List ℕ) → share xs ys ≡ true → (x : ℕ) × (has xs x ≡ true) × (has ys x ≡ true)
unfolding share
share_which xs ys h =
    let w : (p : ℕ) × (p < length xs) × (has ys (get_or xs p 0) ≡ true) = some_which (length xs) (λ p. has ys (get_or xs p 0)) h in
    (get_or xs w.0 0, has_at xs w.0 (get_or xs w.0 0) w.1 refl, w.2)

pub share_at : (xs ys : List ℕ) (x : ℕ) → has xs x ≡ true → has ys x ≡ true → share xs ys ≡ true
unfolding share
share_at xs ys x hx hy =
    let w : (p : ℕ) × (p < length xs) × (get_or xs p 0 ≡ x) = has_place xs x hx in
    some_at (length xs) (λ p. has ys (get_or xs p 0)) w.0 w.1 (subst (λ (y : ℕ). has ys y ≡ true) (sym w.2) hy)

pub share_turned : (xs ys : List ℕ) → share xs ys ≡ true → share ys xs ≡ true
share_turned xs ys h =
    let w : (x : ℕ) × (has xs x ≡ true) × (has ys x ≡ true) = share_which xs ys h in
    share_at ys xs w.0 w.2 w.1

-- ---- a list that is made cell by cell

module _ {B : Type 0} (w : ℕ → ℕ) (ks : List ℕ) where
  -- its length
  pub length_cells : (f : ℕ → List B) (n : ℕ) → ((i : ℕ) → i < n → length (f i) ≡ w (get_or ks i 0)) → length (flat_map f (range n)) ≡ before w ks n
  unfolding before
  length_cells f zero h = ap length (flat_map_none f)
  length_cells f (suc n) h =
      rw (← add-one n)
      (omega (arith, simp length-append at (ap length (flat_map_range f n)), length_cells f n (λ i l. h i (omega arith)), h n (omega arith), before_more w ks n))

  -- the same over places: those of cell i are counted from where it begins
  pub range_cells : (f : ℕ → List B) (n : ℕ) → flat_map f (range (before w ks n)) ≡ flat_map (λ i. flat_map (λ p. f (before w ks i + p)) (range (w (get_or ks i 0)))) (range n)
  unfolding before
  range_cells f zero = flat_map_none f ∙ sym (flat_map_none _)
  range_cells f (suc n) =
      flat_map_sum f (before w ks n) (w (get_or ks n 0))
      ∙ ap (λ (l : List B). l ++ flat_map (λ p. f (before w ks n + p)) (range (w (get_or ks n 0)))) (range_cells f n)
      ∙ sym (rw (← add-one n) (flat_map_range (λ i. flat_map (λ p. f (before w ks i + p)) (range (w (get_or ks i 0)))) n))

-- number p of cell i of it
pub cells_at : {B : Type 0} (w : ℕ → ℕ) (ks : List ℕ) (f : ℕ → List B) (C i p : ℕ) (d : B) → ((j : ℕ) → j < C → length (f j) ≡ w (get_or ks j 0)) → i < C → p < w (get_or ks i 0)
    → get_or (flat_map f (range C)) (before w ks i + p) d ≡ get_or (f i) p d
cells_at {B} w ks f C i p d h l lp =
    let cut = range_split f i C l in
    let front : length (flat_map f (range i)) ≡ before w ks i = length_cells w ks f i (λ j lj. h j (omega arith)) in
    ap₂ (λ (r : List B) (n : ℕ). get_or r (n + p) d) cut.1 (sym front)
    ∙ get_or-append-add (flat_map f (range i)) (f i ++ cut.0) p d
    ∙ get_or-append (f i) cut.0 d p (omega (arith, h i l))

-- a test of all places is one of the places of all cells
pub all_cells : (w : ℕ → ℕ) (ks : List ℕ) (f : ℕ → Bool) (n : ℕ) → all n (λ i. all (w (get_or ks i 0)) (λ p. f (before w ks i + p))) ≡ all (before w ks n) f
unfolding before all
all_cells w ks f zero = refl
all_cells w ks f (suc n) =
    ap (λ (b : Bool). b and all (w (get_or ks n 0)) (λ p. f (before w ks n + p))) (all_cells w ks f n) ∙ sym (all_sum (before w ks n) (w (get_or ks n 0)) f)
