-- Laws of patterns, of check 7 and of the smallest shared vertex, of cells in rows. Assumes nothing.
use Rattle.std.specs.Prelude.{ℕ, zero, suc, ◌+◌, ◌*◌, ◌<◌, ◌≤◌, ◌≡◌, refl, Bool, true, false, cond, not, ◌⊎◌, List, length, get_or, min, eqb, ltb}
use Rattle.std.proofs.Common.{add-one, arith, sym, ap, ap₂, subst, ◌∙◌, inl, inr, eqb-true, ltb-true, ltb-false}
use Rattle.std.proofs.Math.Logic.{⊎_elim}
use Rattle.lists.specs.Bool.{◌and◌, ◌or◌, true≢false, cases, and_left, and_right, and_both, and_no_left, and_no_right, or_cases, or_left, same_test}
use Rattle.lists.specs.Bounded.{all, some, least_is, all_at, all_of, all_ext, eq_or_ne, lt_or_le}
use Rattle.grid.specs.Cells.{has, share, distinct}
use Rattle.grid.specs.CellsFacts.{has_place, share_which}
use Rattle.grid.specs.Rows.{entity, row, cell_in}
use Rattle.grid.specs.RowsFacts.{has_at as row_has, cell_three, cell_length, cell_most, cell_entity, cell_in_row, has_row, Padded, cell_number}
use Rattle.grid.specs.Mesh.{Mesh, corners}
use Rattle.cells_by_key.specs.Groups.{cells_with, part, Grouped, Below}
use Rattle.cells_by_key.specs.GroupsFacts.{grouped_each, group_place, group_cells}
use Rattle.cell_pairs.specs.Patterns.{smallest_shared, patterns_right}
use Rattle.triangle_patterns.specs.Triangles.{three}
use Rattle.cell_patterns.specs.Flat.{distinct_in, smallest_in, pair_right, patterns_in}

-- ---- a cell in its row

-- no vertex stands twice in a cell, and the first three numbers of its row are below `none`
pub record Apart (none : ℕ) (rows : List ℕ) : Type 0 where
  pub apart : (i : ℕ) → 4 * i + 4 ≤ length rows → distinct_in none rows i ≡ true
  pub padded : Padded none rows

module _ (none : ℕ) (rows : List ℕ) where
  -- a cell of a row has three vertices or four
  pub cell_few : (i : ℕ) → (3 ≤ length (cell_in none rows i)) × (length (cell_in none rows i) ≤ 4)
  cell_few i = rw (cell_length none rows i) (go (eqb (entity rows i 3) none))
    where
      go : (b : Bool) → (3 ≤ cond b 3 4) × (cond b 3 4 ≤ 4)
      go true = (omega arith, omega arith)
      go false = (omega arith, omega arith)

  module _ (i j : ℕ) {b : Bool} (e : b ≡ (eqb (entity rows i 3) none and eqb (entity rows j 3) none)) (t : b ≡ true) where
    -- both are triangles
    both_test : cell_in none rows i ≡ three rows i
    both_test = cell_three none rows i (eqb-true _ _ (and_left _ _ (sym e ∙ t)))

    both_trial : cell_in none rows j ≡ three rows j
    both_trial = cell_three none rows j (eqb-true _ _ (and_right (eqb (entity rows i 3) none) _ (sym e ∙ t)))

    pub both_apart : distinct_in none rows i ≡ true → distinct_in none rows j ≡ true → (distinct (three rows i) ≡ true) × (distinct (three rows j) ≡ true)
    both_apart d f = (subst (λ (xs : List ℕ). distinct xs ≡ true) both_test d, subst (λ (xs : List ℕ). distinct xs ≡ true) both_trial f)

    -- the fourth number of row i is no vertex of cell j
    pub both_other : Apart none rows → 4 * j + 4 ≤ length rows → (p : ℕ) → p < 3 → entity rows j p ≡ entity rows i 3 → ⊥
    both_other h l p b q = omega (arith, h.padded.firsts j p l b, eqb-true (entity rows i 3) none (and_left _ _ (sym e ∙ t)))

    -- what these two have, the two cells have
    pub both_have : {A : Type 0} (f : List ℕ → List ℕ → A) {r : A} → r ≡ f (three rows i) (three rows j) → r ≡ f (cell_in none rows i) (cell_in none rows j)
    both_have f h = h ∙ sym (ap₂ f both_test both_trial)

-- ---- check 7, by vertex

-- test cell i against each cell of a list
unfoldable pub row_right : ℕ → List ℕ → List ℕ → ℕ → Bool
row_right none rows cells i = all (length cells) (λ l. pair_right none rows i (get_or cells l 0))

-- each cell of a list against each
unfoldable pub group_right : ℕ → List ℕ → List ℕ → Bool
group_right none rows cells = all (length cells) (λ k. all (length cells) (λ l. pair_right none rows (get_or cells k 0) (get_or cells l 0)))

-- a vertex of a cell is below `none`
vertex_below_lem : {none : ℕ} {rows : List ℕ} → Padded none rows → Below rows (none + 1) → (i : ℕ) → 4 * i + 4 ≤ length rows → (x : ℕ) → has (cell_in none rows i) x ≡ true → x < none
vertex_below_lem {none} {rows} padded below i l x h =
    let w = has_place (cell_in none rows i) x h in
    let e : entity rows i w.0 ≡ x = sym (cell_entity none rows i w.0 w.1) ∙ w.2 in
    let p : w.0 < 4 = omega (arith, w.1, cell_most none rows i) in
    let b : entity rows i w.0 < none + 1 = below.below (4 * i + w.0) (omega (arith, p)) in
    ⊎_elim (λ n. absurd (cell_number padded i l w.0 w.1 (e ∙ n))) (λ n. ⊎_elim (λ y. y) (λ y. absurd (n (omega (arith, b, e, y)))) (lt_or_le x none)) (eq_or_ne x none)

-- all pairs pass exactly where those of the cells at each vertex do, as a pair that shares no vertex passes
pub groups_all : (none C : ℕ) (rows : List ℕ) → length rows ≡ 4 * C → Padded none rows → Below rows (none + 1)
    → all none (λ v. group_right none rows (cells_with rows 4 v)) ≡ patterns_in none C rows
unfolding group_right patterns_in
groups_all none C rows e padded below = same_test _ _ there back
  where
    there : all none (λ v. group_right none rows (cells_with rows 4 v)) ≡ true → patterns_in none C rows ≡ true
    there h =
        all_of C _
        (λ i li. all_of C _
        (λ j lj. ⊎_elim (λ s. met i j li lj (share_which (cell_in none rows i) (cell_in none rows j) s)) (λ s. or_left _ _ (ap not s)) (cases (share (cell_in none rows i) (cell_in none rows j)))))
      where
        met : (i j : ℕ) → i < C → j < C → (x : ℕ) × (has (cell_in none rows i) x ≡ true) × (has (cell_in none rows j) x ≡ true) → pair_right none rows i j ≡ true
        met i j li lj w =
            let x : w.0 < none = vertex_below_lem padded below i (omega arith) w.0 w.1 in
            let k = group_place rows w.0 i (omega arith) (cell_in_row none rows i w.0 w.1) in
            let l = group_place rows w.0 j (omega arith) (cell_in_row none rows j w.0 w.2) in
            rw (k.2, l.2) at (all_at _ _ (all_at _ _ (all_at none _ h w.0 x) k.0 k.1) l.0 l.1)

    back : patterns_in none C rows ≡ true → all none (λ v. group_right none rows (cells_with rows 4 v)) ≡ true
    back h =
        all_of none _
        (λ v _. all_of _ _
        (λ k lk. all_of _ _ (λ l ll. all_at C _ (all_at C _ h _ (omega (arith, (group_cells rows v C e).cell k lk))) _ (omega (arith, (group_cells rows v C e).cell l ll)))))

-- with the groups as they stand in the order; the last, of `none`, is left out
pub parts_all : (none C : ℕ) (rows : List ℕ) {n : ℕ} {order ends : List ℕ} → length rows ≡ 4 * C → Padded none rows → n ≡ none + 1 → Below rows n → Grouped order ends n (cells_with rows 4)
    → {r : Bool} → r ≡ all none (λ v. group_right none rows (part order ends v)) → r ≡ patterns_in none C rows
parts_all none C rows e padded k below g h =
    h ∙ all_ext none _ _ (λ v l. ap (group_right none rows) (grouped_each g v (omega arith))) ∙ groups_all none C rows e padded (subst (Below rows) k below)

-- of the rows of a mesh this is check 7
pub mesh_patterns : (m : Mesh) (none : ℕ) (rows : List ℕ) → ((i : ℕ) → i < m.cells → cell_in none rows i ≡ corners m i) → patterns_in none m.cells rows ≡ patterns_right m
unfolding patterns_in patterns_right
mesh_patterns m none rows e = all_ext m.cells _ _ (λ i hi. all_ext m.cells _ _ (λ j hj. rw (e i hi, e j hj)))

-- ---- the smallest shared vertex

-- x if it counts and is below m, else m
abbrev pub lower : Bool → ℕ → ℕ → ℕ
lower b x m = cond (b and ltb x m) x m

lower_cases : (b : Bool) (x m : ℕ) → ((b ≡ true) × ((x < m) × (lower b x m ≡ x))) ⊎ ((b ≡ true → m ≤ x) × (lower b x m ≡ m))
unfolding ◌and◌
lower_cases false x m = inr ((λ e. absurd (true≢false (sym e))), refl)
lower_cases true x m = ⊎_elim (λ e. inl (refl, (ltb-true _ _ e, rw e))) (λ e. inr ((λ _. ltb-false _ _ e), rw e)) (cases (ltb x m))

lower_le : (b : Bool) (x m : ℕ) → lower b x m ≤ m
lower_le b x m = ⊎_elim (λ h. omega arith) (λ h. omega arith) (lower_cases b x m)

-- below the lower of the two nothing counts
lower_before : (b : Bool) (x m : ℕ) → x < lower b x m → b ≡ false
lower_before b x m h = ⊎_elim (λ e. absurd (⊎_elim (λ l. omega arith) (λ l. omega (arith, l.0 e)) (lower_cases b x m))) (λ e. e) (cases b)

lower_is : (b : Bool) (x m : ℕ) → ((b ≡ true) × (lower b x m ≡ x)) ⊎ (lower b x m ≡ m)
lower_is b x m = ⊎_elim (λ h. inl (h.0, h.1.1)) (λ h. inr h.1) (lower_cases b x m)

-- the lowest number of row i, of its first p, below top, that is one of row j; each number is taken where it is lower than those before it
unfoldable pub lowest_of : List ℕ → ℕ → ℕ → ℕ → ℕ → ℕ
lowest_of rows top i j zero = top
lowest_of rows top i j (suc p) = lower (has (row rows j) (entity rows i p)) (entity rows i p) (lowest_of rows top i j p)

abbrev pub lowest : List ℕ → ℕ → ℕ → ℕ → ℕ
lowest rows top i j = lowest_of rows top i j 4

-- the four numbers of a row
row_cases : (rows : List ℕ) (i x : ℕ) → has (row rows i) x ≡ true → (entity rows i 0 ≡ x) ⊎ ((entity rows i 1 ≡ x) ⊎ ((entity rows i 2 ≡ x) ⊎ (entity rows i 3 ≡ x)))
unfolding has some ◌or◌
row_cases rows i x h =
    ⊎_elim
    (λ k.
    ⊎_elim (λ l. ⊎_elim (λ e. inl (eqb-true _ _ e)) (λ e. inr (inl (eqb-true _ _ e))) (or_cases _ _ l)) (λ e. inr (inr (inl (eqb-true _ _ e)))) (or_cases _ _ k))
    (λ e. inr (inr (inr (eqb-true _ _ e)))) (or_cases _ _ h)

module _ (rows : List ℕ) (top i j : ℕ) where
  abbrev one : ℕ
  one = lower (has (row rows j) (entity rows i 0)) (entity rows i 0) top

  abbrev two : ℕ
  two = lower (has (row rows j) (entity rows i 1)) (entity rows i 1) one

  abbrev third : ℕ
  third = lower (has (row rows j) (entity rows i 2)) (entity rows i 2) two

  lowest_le : (lowest rows top i j ≤ third) × ((third ≤ two) × ((two ≤ one) × (one ≤ top)))
  unfolding lowest_of
  lowest_le = (lower_le _ _ _, (lower_le _ _ _, (lower_le _ _ _, lower_le _ _ _)))

  -- no number below it is in both rows
  lowest_apart : (k : ℕ) → k < lowest rows top i j → has (row rows i) k and has (row rows j) k ≡ false
  unfolding lowest_of
  lowest_apart k l =
      ⊎_elim (λ h. and_no_right _ _ (⊎_elim at_0 (⊎_elim at_1 (⊎_elim at_2 at_3)) (row_cases rows i k h))) (λ h. and_no_left _ _ h) (cases (has (row rows i) k))
    where
      le : (lowest rows top i j ≤ third) × ((third ≤ two) × ((two ≤ one) × (one ≤ top)))
      le = lowest_le

      at_0 : entity rows i 0 ≡ k → has (row rows j) k ≡ false
      at_0 e = subst (λ (x : ℕ). has (row rows j) x ≡ false) e (lower_before (has (row rows j) (entity rows i 0)) (entity rows i 0) top (omega (arith, le)))

      at_1 : entity rows i 1 ≡ k → has (row rows j) k ≡ false
      at_1 e = subst (λ (x : ℕ). has (row rows j) x ≡ false) e (lower_before (has (row rows j) (entity rows i 1)) (entity rows i 1) one (omega (arith, le)))

      at_2 : entity rows i 2 ≡ k → has (row rows j) k ≡ false
      at_2 e = subst (λ (x : ℕ). has (row rows j) x ≡ false) e (lower_before (has (row rows j) (entity rows i 2)) (entity rows i 2) two (omega (arith, le)))

      at_3 : entity rows i 3 ≡ k → has (row rows j) k ≡ false
      at_3 e = subst (λ (x : ℕ). has (row rows j) x ≡ false) e (lower_before (has (row rows j) (entity rows i 3)) (entity rows i 3) third (omega (arith, l)))

  -- it is in both
  shared_at : (p x : ℕ) → p < 4 → has (row rows j) (entity rows i p) ≡ true → x ≡ entity rows i p → has (row rows i) x and has (row rows j) x ≡ true
  shared_at p x h b e = subst (λ (y : ℕ). has (row rows i) y and has (row rows j) y ≡ true) (sym e) (and_both _ _ (row_has rows i p _ h refl) b)

  lowest_both : lowest rows top i j < top → has (row rows i) (lowest rows top i j) and has (row rows j) (lowest rows top i j) ≡ true
  unfolding lowest_of
  lowest_both l =
      ⊎_elim (λ h. shared_at 3 _ (omega arith) h.0 h.1)
      (λ d. ⊎_elim (λ h. shared_at 2 _ (omega arith) h.0 (d ∙ h.1))
      (λ e. ⊎_elim (λ h. shared_at 1 _ (omega arith) h.0 (d ∙ e ∙ h.1))
      (λ f. ⊎_elim (λ h. shared_at 0 _ (omega arith) h.0 (d ∙ e ∙ f ∙ h.1)) (λ g. absurd (omega arith)) (lower_is (has (row rows j) (entity rows i 0)) (entity rows i 0) top))
      (lower_is (has (row rows j) (entity rows i 1)) (entity rows i 1) one))
      (lower_is (has (row rows j) (entity rows i 2)) (entity rows i 2) two))
      (lower_is (has (row rows j) (entity rows i 3)) (entity rows i 3) third)

  -- a number below top is in a row exactly where it is in its cell
  cells_have : (k : ℕ) → k < top → has (cell_in top rows i) k and has (cell_in top rows j) k ≡ has (row rows i) k and has (row rows j) k
  cells_have k l = sym (ap₂ ◌and◌ (has_row top rows i k (λ e. omega arith)) (has_row top rows j k (λ e. omega arith)))

  smallest_is : smallest_in top rows i j ≡ lowest rows top i j
  unfolding smallest_shared
  smallest_is =
      least_is top (λ x. has (cell_in top rows i) x and has (cell_in top rows j) x) (lowest rows top i j) (omega (arith, lowest_le))
      (λ k l. cells_have k (omega (arith, lowest_le)) ∙ lowest_apart k l) (λ l. cells_have _ l ∙ lowest_both l)

  -- of all four numbers
  pub lowest_all : {k r : ℕ} → k ≡ 4 → r ≡ lowest_of rows top i j k → r ≡ smallest_in top rows i j
  lowest_all h e = e ∙ ap (lowest_of rows top i j) h ∙ sym smallest_is

-- ---- a walk over the numbers of row i, which are xs

module _ (rows : List ℕ) (top i j : ℕ) {xs : List ℕ} (row_is : xs ≡ row rows i) where
  place_four : (k : ℕ) → k < 4 → get_or (row rows i) k 0 ≡ entity rows i k
  place_four zero l = refl
  place_four (suc zero) l = refl
  place_four (suc (suc zero)) l = refl
  place_four (suc (suc (suc zero))) l = refl
  place_four (suc (suc (suc (suc k)))) l = absurd (omega arith)

  number_is : (k : ℕ) → k < length xs → get_or xs k 0 ≡ entity rows i k
  number_is k l = ap (λ (ys : List ℕ). get_or ys k 0) row_is ∙ place_four k (omega (arith, ap length row_is))

  module _ (k : ℕ) (l : k < length xs) {b : Bool} (e : b ≡ has (row rows j) (get_or xs k 0)) {m : ℕ} (before : m ≡ lowest_of rows top i j k) where
    lowest_next : lower b (get_or xs k 0) m ≡ lowest_of rows top i j (k + 1)
    unfolding lowest_of
    lowest_next = rw (add-one, e, number_is k l, before) refl

    pub lowest_met : b ≡ true → {x r : ℕ} → x ≡ get_or xs k 0 → r ≡ min m x → r ≡ lowest_of rows top i j (k + 1)
    lowest_met t {x} {r} f g =
        let same : r ≡ lower true (get_or xs k 0) m = ⊎_elim (λ h. omega (arith, f, g, h.1.0, h.1.1)) (λ h. omega (arith, f, g, h.0 refl, h.1)) (lower_cases true (get_or xs k 0) m) in
        same ∙ ap (λ (b : Bool). lower b (get_or xs k 0) m) (sym t) ∙ lowest_next

    pub lowest_passed : b ≡ false → m ≡ lowest_of rows top i j (k + 1)
    unfolding ◌and◌
    lowest_passed t = ap (λ (b : Bool). lower b (get_or xs k 0) m) (sym t) ∙ lowest_next
