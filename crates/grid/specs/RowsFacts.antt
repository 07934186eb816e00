-- Laws of rows: they hold the numbers of the cells, and a row has what its cell has, and `none` beside. Assumes nothing.
use Prim.Native.Nat.{ℕ, zero, suc, ◌+◌, ◌*◌, ◌-◌, ◌<◌, ◌≤◌, ◌/◌, ◌%◌}
use Rattle.std.proofs.Common.{add-one, arith, subst, ◌∙◌, ⊎_elim, length-append, length-drop, length-take-le, get_or-take, get_or-drop, eq-eqb, ne_eqb}
use Rattle.std.proofs.Math.Numerals.{add-two}
use Rattle.std.proofs.Math.Nat.{zero-add}
use Rattle.std.specs.Prelude.{Bool, ◌≡◌, set, drop, eqb}
use Rattle.std.proofs.Math.Bool.{true, false, cond}
use Rattle.std.proofs.Math.Path.{refl, sym, ap, ap₂}
use mathlib.Core.List.{List, [], ◌∷◌, ◌++◌, flat_map, append-nil}
use Rattle.std.proofs.Math.ListN.{length, get_or, take, get_or-append}
use Rattle.std.proofs.Math.Seq.{sets, length-sets}
use Rattle.lists.specs.Bool.{◌and◌, ◌or◌, and_both}
use Rattle.lists.specs.Bounded.{all, some, eq_or_ne, lt_or_le}
use Rattle.lists.specs.Range.{range, when, flat_map_none, flat_map_range}
use Rattle.lists.specs.Stores.{sets_append, sets_all}
use Rattle.grid.specs.Cells.{before, part, own, share_in, distinct, has as has_number, share as share_number}
use Rattle.grid.specs.CellsFacts.{Shaped, shaped_length, part_each, Begins, begins_first, begins_next, begins_part, length_cells, cells_at, has_place as number_place, has_at as number_at}
use Rattle.grid.specs.Rows.{row_of, rows_of, entity, row, cell_in, has, share}

-- ---- any rows

-- a list of three, and of four
pub three_long : (xs : List ℕ) → length xs ≡ 3 → xs ≡ get_or xs 0 0 ∷ get_or xs 1 0 ∷ get_or xs 2 0 ∷ []
three_long [] e = absurd (omega arith)
three_long (a ∷ []) e = absurd (omega arith)
three_long (a ∷ b ∷ []) e = absurd (omega arith)
three_long (a ∷ b ∷ c ∷ []) e = refl
three_long (a ∷ b ∷ c ∷ d ∷ xs) e = absurd (omega arith)

pub four_long : (xs : List ℕ) → length xs ≡ 4 → xs ≡ get_or xs 0 0 ∷ get_or xs 1 0 ∷ get_or xs 2 0 ∷ get_or xs 3 0 ∷ []
four_long [] e = absurd (omega arith)
four_long (a ∷ []) e = absurd (omega arith)
four_long (a ∷ b ∷ []) e = absurd (omega arith)
four_long (a ∷ b ∷ c ∷ []) e = absurd (omega arith)
four_long (a ∷ b ∷ c ∷ d ∷ []) e = refl
four_long (a ∷ b ∷ c ∷ d ∷ x ∷ xs) e = absurd (omega arith)

pub row_at : (rows : List ℕ) (i p : ℕ) → p < 4 → get_or (row rows i) p 0 ≡ entity rows i p
row_at rows i zero h = refl
row_at rows i (suc zero) h = refl
row_at rows i (suc (suc zero)) h = refl
row_at rows i (suc (suc (suc zero))) h = refl
row_at rows i (suc (suc (suc (suc p)))) h = absurd (omega arith)

-- x is at a place of row i, and what is at a place is one of the four
pub has_place : (rows : List ℕ) (i x : ℕ) → has_number (row rows i) x ≡ true → (p : ℕ) × (p < 4) × (entity rows i p ≡ x)
has_place rows i x h = let w = number_place (row rows i) x h in (w.0, w.1, sym (row_at rows i w.0 w.1) ∙ w.2)

pub has_at : (rows : List ℕ) (i p x : ℕ) → p < 4 → entity rows i p ≡ x → has_number (row rows i) x ≡ true
has_at rows i p x h e = number_at (row rows i) p x h (row_at rows i p h ∙ e)

-- a fourth number beside three
beside : (a b c d x : ℕ) → (x ≡ d → ⊥) → has_number (a ∷ b ∷ c ∷ d ∷ []) x ≡ has_number (a ∷ b ∷ c ∷ []) x
unfolding has_number some ◌or◌
beside a b c d x h = rw (ne_eqb d x (λ e. h (sym e))) (or_nothing _)
  where
    or_nothing : (b : Bool) → b or false ≡ b
    or_nothing true = refl
    or_nothing false = refl

apart : (a b c d : ℕ) → distinct (a ∷ b ∷ c ∷ []) ≡ true → (a ≡ d → ⊥) → (b ≡ d → ⊥) → (c ≡ d → ⊥) → distinct (a ∷ b ∷ c ∷ d ∷ []) ≡ true
unfolding distinct all ◌and◌
apart a b c d e f g h = and_both _ _ e (rw (ne_eqb a d f, ne_eqb b d g, ne_eqb c d h) refl)

module _ (none : ℕ) (rows : List ℕ) (i : ℕ) where
  -- where the fourth number is `none`, the cell has three numbers
  pub cell_three : entity rows i 3 ≡ none → cell_in none rows i ≡ entity rows i 0 ∷ entity rows i 1 ∷ entity rows i 2 ∷ []
  unfolding cell_in
  cell_three e = rw (eq-eqb _ _ e)

  pub cell_four : (entity rows i 3 ≡ none → ⊥) → cell_in none rows i ≡ row rows i
  unfolding cell_in
  cell_four e = rw (ne_eqb _ _ e)

  -- so many, and number p of them
  pub cell_length : length (cell_in none rows i) ≡ cond (eqb (entity rows i 3) none) 3 4
  unfolding cell_in
  cell_length = go (eqb (entity rows i 3) none)
    where
      go : (b : Bool) → length (cond b (entity rows i 0 ∷ entity rows i 1 ∷ entity rows i 2 ∷ []) (row rows i)) ≡ cond b 3 4
      go true = refl
      go false = refl

  pub cell_most : length (cell_in none rows i) ≤ 4
  cell_most = rw cell_length (go (eqb (entity rows i 3) none))
    where
      go : (b : Bool) → cond {A = ℕ} b 3 4 ≤ 4
      go true = omega arith
      go false = omega arith

  pub cell_entity : (p : ℕ) → p < length (cell_in none rows i) → get_or (cell_in none rows i) p 0 ≡ entity rows i p
  unfolding cell_in
  cell_entity p h = go (eqb (entity rows i 3) none) p h
    where
      go : (b : Bool) (p : ℕ) → p < length (cond b (entity rows i 0 ∷ entity rows i 1 ∷ entity rows i 2 ∷ []) (row rows i))
          → get_or (cond b (entity rows i 0 ∷ entity rows i 1 ∷ entity rows i 2 ∷ []) (row rows i)) p 0 ≡ entity rows i p
      go true zero h = refl
      go true (suc zero) h = refl
      go true (suc (suc zero)) h = refl
      go true (suc (suc (suc p))) h = absurd (omega arith)
      go false p h = row_at rows i p h

  pub cell_in_row : (x : ℕ) → has none rows i x ≡ true → has_number (row rows i) x ≡ true
  cell_in_row x h =
      let w = number_place (cell_in none rows i) x h in
      has_at rows i w.0 x (omega (arith, w.1, cell_most)) (sym (cell_entity w.0 w.1) ∙ w.2)

  -- a row has what its cell has
  pub has_row : (x : ℕ) → (x ≡ none → ⊥) → has_number (row rows i) x ≡ has none rows i x
  has_row x h =
      ⊎_elim (λ e. beside _ _ _ _ x (λ (q : x ≡ entity rows i 3). h (q ∙ e)) ∙ sym (ap (λ (xs : List ℕ). has_number xs x) (cell_three e)))
      (λ e. sym (ap (λ (xs : List ℕ). has_number xs x) (cell_four e))) (eq_or_ne (entity rows i 3) none)

  -- a row of a cell with distinct numbers, none of them `none`, is distinct too
  pub row_distinct : ((p : ℕ) → p < 3 → entity rows i p < none) → distinct (cell_in none rows i) ≡ true → distinct (row rows i) ≡ true
  row_distinct b d =
      ⊎_elim
      (λ e. apart _ _ _ _ (subst (λ (xs : List ℕ). distinct xs ≡ true) (cell_three e) d) (λ (q : entity rows i 0 ≡ entity rows i 3). omega (arith, b 0 (omega arith))) (λ (q : entity rows i 1 ≡ entity rows i 3). omega (arith, b 1 (omega arith))) (λ (q : entity rows i 2 ≡ entity rows i 3). omega (arith, b 2 (omega arith))))
      (λ e. subst (λ (xs : List ℕ). distinct xs ≡ true) (cell_four e) d) (eq_or_ne (entity rows i 3) none)

  -- the numbers of a cell, cut out of the list
  module _ (h : 4 * i + 4 ≤ length rows) where
    cut : (n : ℕ) → n ≤ 4 → length (take n (drop (4 * i) rows)) ≡ n
    cut n l = length-take-le n (drop (4 * i) rows) (omega (arith, length-drop (4 * i) rows))

    cut_at : (n p : ℕ) → p < n → get_or (take n (drop (4 * i) rows)) p 0 ≡ entity rows i p
    cut_at n p l = get_or-take n (drop (4 * i) rows) p 0 l ∙ get_or-drop (4 * i) rows p 0

    pub cut_three : entity rows i 3 ≡ none → take (4 * i + 3 - 4 * i) (drop (4 * i) rows) ≡ cell_in none rows i
    cut_three e =
        let k : 4 * i + 3 - 4 * i ≡ 3 = omega arith in
        rw k
        (three_long _ (cut 3 (omega arith)) ∙ rw (cut_at 3 0 (omega arith), cut_at 3 1 (omega arith), cut_at 3 2 (omega arith)) (sym (cell_three e)))

    pub cut_row : take (4 * i + 4 - 4 * i) (drop (4 * i) rows) ≡ row rows i
    cut_row =
        let k : 4 * i + 4 - 4 * i ≡ 4 = omega arith in
        rw k
        (four_long _ (cut 4 (omega arith))
        ∙ rw (cut_at 4 0 (omega arith), cut_at 4 1 (omega arith), cut_at 4 2 (omega arith), cut_at 4 3 (omega arith)))

    pub cut_four : (entity rows i 3 ≡ none → ⊥) → take (4 * i + 4 - 4 * i) (drop (4 * i) rows) ≡ cell_in none rows i
    cut_four e =
        let k : 4 * i + 4 - 4 * i ≡ 4 = omega arith in
        rw k
        (four_long _ (cut 4 (omega arith))
        ∙ rw (cut_at 4 0 (omega arith), cut_at 4 1 (omega arith), cut_at 4 2 (omega arith), cut_at 4 3 (omega arith)) (sym (cell_four e)))

-- the first three numbers of each row are below `none`, so they are numbers of the cell
pub record Padded (none : ℕ) (rows : List ℕ) : Type 0 where
  pub firsts : (i p : ℕ) → 4 * i + 4 ≤ length rows → p < 3 → entity rows i p < none

-- then `none` is no number of a cell
pub cell_number : {none : ℕ} {rows : List ℕ} → Padded none rows → (i : ℕ) → 4 * i + 4 ≤ length rows → (p : ℕ) → p < length (cell_in none rows i) → entity rows i p ≡ none → ⊥
cell_number {none} {rows} h i b p l e =
    ⊎_elim (λ (f : p < 3). omega (arith, h.firsts i p b f))
    (λ (f : 3 ≤ p).
    let third : p ≡ 3 = omega (arith, l, cell_most none rows i) in
    let fourth : entity rows i 3 ≡ none = subst (λ (q : ℕ). entity rows i q ≡ none) third e in
    omega (arith, l, third, ap length (cell_three none rows i fourth))) (lt_or_le p 3)

-- ---- the rows of cells

fours : (ks : List ℕ) (i : ℕ) → before (λ _. 4) ks i ≡ 4 * i
unfolding before
fours ks zero = refl
fours ks (suc i) = omega (arith, fours ks i)

module _ (none : ℕ) {ks l : List ℕ} (s : Shaped ks l) where
  abbrev C : ℕ
  C = length ks

  abbrev rows : List ℕ
  rows = rows_of none ks l C

  -- a triangle's row, and a quad's
  three_row : (i : ℕ) → get_or ks i 0 ≡ 3 → row_of none ks l i ≡ part own ks l i ++ (none ∷ [])
  unfolding row_of
  three_row i e = rw e

  four_row : (i : ℕ) → get_or ks i 0 ≡ 4 → row_of none ks l i ≡ part own ks l i
  unfolding row_of
  four_row i e = rw e (append-nil _)

  length_row : (i : ℕ) → i < C → length (row_of none ks l i) ≡ 4
  length_row i h =
      ⊎_elim (λ e. ap length (three_row i e) ∙ length-append (part own ks l i) (none ∷ []) ∙ omega (arith, shaped_length s i h, e))
      (λ e. ap length (four_row i e) ∙ shaped_length s i h ∙ e) (s.kinds i h)

  -- those of the first n cells
  pub length_rows_front : (n : ℕ) → n ≤ C → length (rows_of none ks l n) ≡ 4 * n
  unfolding rows_of
  length_rows_front n h = length_cells (λ _. 4) ks (row_of none ks l) n (λ i b. length_row i (omega arith)) ∙ fours ks n

  pub length_rows : length rows ≡ 4 * C
  length_rows = length_rows_front C (omega arith)

  entity_row : (i p : ℕ) → i < C → p < 4 → entity rows i p ≡ get_or (row_of none ks l i) p 0
  unfolding rows_of
  entity_row i p h b =
      ap (λ (n : ℕ). get_or (flat_map (row_of none ks l) (range C)) (n + p) 0) (sym (fours ks i)) ∙ cells_at (λ _. 4) ks (row_of none ks l) C i p 0 length_row h b

  pub row_is : (i : ℕ) → i < C → row rows i ≡ row_of none ks l i
  row_is i h =
      rw (entity_row i 0 h (omega arith), entity_row i 1 h (omega arith), entity_row i 2 h (omega arith), entity_row i 3 h (omega arith))
      (sym (four_long _ (length_row i h)))

  three_at : (i : ℕ) → i < C → get_or ks i 0 ≡ 3 → row rows i ≡ get_or (part own ks l i) 0 0 ∷ get_or (part own ks l i) 1 0 ∷ get_or (part own ks l i) 2 0 ∷ none ∷ []
  three_at i h e = row_is i h ∙ three_row i e ∙ ap (λ (xs : List ℕ). xs ++ (none ∷ [])) (three_long (part own ks l i) (shaped_length s i h ∙ e))

  -- number p of cell i
  pub entity_part : (i p : ℕ) → i < C → p < get_or ks i 0 → entity rows i p ≡ get_or (part own ks l i) p 0
  unfolding row_of
  entity_part i p h b =
      entity_row i p h (⊎_elim (λ e. omega arith) (λ e. omega arith) (s.kinds i h))
      ∙ get_or-append (part own ks l i) (when (eqb (get_or ks i 0) 3) (none ∷ [])) 0 p (omega (arith, shaped_length s i h))

  -- the fourth number of a triangle's row
  pub triangle_fourth : (i : ℕ) → i < C → get_or ks i 0 ≡ 3 → entity rows i 3 ≡ none
  triangle_fourth i h e = ap (λ (xs : List ℕ). get_or xs 3 0) (three_at i h e)

  module _ (below : (k : ℕ) → k < length l → get_or l k 0 < none) where
    entity_below : (i p : ℕ) → i < C → p < get_or ks i 0 → entity rows i p < none
    entity_below i p h b =
        subst (λ (x : ℕ). x < none) (sym (entity_part i p h b)) (part_each (λ x. x < none) own ks l below i p (omega (arith, shaped_length s i h)))

    pub quad_fourth : (i : ℕ) → i < C → get_or ks i 0 ≡ 4 → entity rows i 3 < none
    quad_fourth i h e = entity_below i 3 h (omega (arith, e))

    -- the numbers of a cell
    pub cell_rows : (i : ℕ) → i < C → cell_in none rows i ≡ part own ks l i
    cell_rows i h =
        ⊎_elim
        (λ e. cell_three none rows i (triangle_fourth i h e) ∙ ap (take 3) (three_at i h e) ∙ sym (three_long (part own ks l i) (shaped_length s i h ∙ e)))
        (λ e. cell_four none rows i (λ q. omega (arith, quad_fourth i h e, q)) ∙ row_is i h ∙ four_row i e)
        (s.kinds i h)

    pub share_rows : (i j : ℕ) → i < C → j < C → share none rows i j ≡ share_in ks l i j
    share_rows i j hi hj = ap₂ share_number (cell_rows i hi) (cell_rows j hj)

    -- the first three numbers of a row are those of its cell, and the fourth is one or `none`
    pub firsts_below : (i p : ℕ) → i < C → p < 3 → entity rows i p < none
    firsts_below i p h b = entity_below i p h (⊎_elim (λ e. omega arith) (λ e. omega arith) (s.kinds i h))

    pub rows_padded : Padded none rows
    rows_padded = record { firsts = λ i p b h. firsts_below i p (omega (arith, length_rows)) h }

    fourth_below : (i : ℕ) → i < C → entity rows i 3 < none + 1
    fourth_below i h = ⊎_elim (λ e. omega (arith, triangle_fourth i h e)) (λ e. omega (arith, quad_fourth i h e)) (s.kinds i h)

    pub rows_below : (k : ℕ) → k < length rows → get_or rows k 0 < none + 1
    rows_below k h =
        let place : 4 * (k / 4) + k % 4 ≡ k = omega arith in
        let here : k / 4 < C = omega (arith, length_rows, h) in
        subst (λ (n : ℕ). get_or rows n 0 < none + 1) place
        (⊎_elim (λ (b : k % 4 < 3). omega (arith, firsts_below (k / 4) (k % 4) here b))
        (λ (b : 3 ≤ k % 4). let e : k % 4 ≡ 3 = omega arith in subst (λ (p : ℕ). entity rows (k / 4) p < none + 1) (sym e) (fourth_below (k / 4) here))
        (lt_or_le (k % 4) 3))

    -- distinct numbers of a cell, and so of its row
    pub rows_distinct : (i : ℕ) → i < C → distinct (part own ks l i) ≡ true → distinct (row rows i) ≡ true
    rows_distinct i h d = row_distinct none rows i (λ p b. firsts_below i p h b) (subst (λ (xs : List ℕ). distinct xs ≡ true) (sym (cell_rows i h)) d)

-- ---- rows written

-- the row of a cell with these numbers
abbrev pub filled : ℕ → List ℕ → List ℕ
filled none xs = xs ++ when (eqb (length xs) 3) (none ∷ [])

-- its numbers stored one after the other: three and `none`, or four
module _ (l : List ℕ) (at none : ℕ) where
  four_sets : (a b c d : ℕ) → set (set (set (set l at a) (at + 1) b) (at + 2) c) (at + 3) d ≡ sets l at (a ∷ b ∷ c ∷ d ∷ [])
  four_sets a b c d = let third : at + 3 ≡ suc (suc (suc at)) = omega arith in rw third (simp (add-one, add-two))

  pub filled_three : (xs : List ℕ) → length xs ≡ 3 → set (set (set (set l at (get_or xs 0 0)) (at + 1) (get_or xs 1 0)) (at + 2) (get_or xs 2 0)) (at + 3) none ≡ sets l at (filled none xs)
  filled_three xs n =
      four_sets _ _ _ _ ∙ ap (sets l at) (sym (ap₂ (λ (ys : List ℕ) (k : ℕ). ys ++ when (eqb k 3) (none ∷ [])) (three_long xs n) n))

  pub filled_four : (xs : List ℕ) → length xs ≡ 4 → set (set (set (set l at (get_or xs 0 0)) (at + 1) (get_or xs 1 0)) (at + 2) (get_or xs 2 0)) (at + 3) (get_or xs 3 0) ≡ sets l at (filled none xs)
  filled_four xs n =
      four_sets _ _ _ _ ∙ ap (sets l at) (sym (ap₂ (λ (ys : List ℕ) (k : ℕ). ys ++ when (eqb k 3) (none ∷ [])) (four_long xs n) n))

-- all of them: what is held before cell i
pub record Rowed (none : ℕ) (ks l rows₀ rows : List ℕ) (at i : ℕ) : Type 0 where
  pub begins : Begins ks at i
  pub long : length rows ≡ length rows₀
  pub written : rows ≡ sets rows₀ 0 (rows_of none ks l i)

pub rowed_none : (none : ℕ) (ks l rows : List ℕ) → Rowed none ks l rows rows 0 0
unfolding rows_of
rowed_none none ks l rows = record { begins = begins_first ks; long = refl; written = ap (sets rows 0) (sym (flat_map_none _)) }

module _ {none : ℕ} {ks l rows₀ rows : List ℕ} {at i : ℕ} (s : Shaped ks l) (w : Rowed none ks l rows₀ rows at i) where
  pub rowed_more : i < length ks → {e : ℕ} → e ≡ at + get_or ks i 0 → {new : List ℕ} → new ≡ sets rows (4 * i) (filled none (take (e - at) (drop at l)))
      → Rowed none ks l rows₀ new e (i + 1)
  unfolding rows_of row_of
  rowed_more h {e} end {new} f =
      let xs : List ℕ = take (e - at) (drop at l) in
      let part_is : xs ≡ part own ks l i = begins_part s w.begins h end in
      let here_row : filled none xs ≡ row_of none ks l i = ap₂ (λ (ys : List ℕ) (k : ℕ). ys ++ when (eqb k 3) (none ∷ [])) part_is (ap length part_is ∙ shaped_length s i h) in
      let here : 0 + length (rows_of none ks l i) ≡ 4 * i = zero-add _ ∙ length_rows_front none s i (omega arith) in
      record {
        begins = begins_next w.begins h end;
        long = ap length f ∙ length-sets rows (4 * i) (filled none xs) ∙ w.long;
        written =
            f
            ∙ ap₂ (λ (m k : List ℕ). sets m (4 * i) k) w.written here_row
            ∙ ap (λ (n : ℕ). sets (sets rows₀ 0 (rows_of none ks l i)) n (row_of none ks l i)) (sym here)
            ∙ sym (sets_append rows₀ 0 (rows_of none ks l i) (row_of none ks l i))
            ∙ ap (sets rows₀ 0) (sym (flat_map_range (row_of none ks l) i));
      }

  pub rowed_all : length ks ≤ i → length rows₀ ≡ 4 * length ks → rows ≡ rows_of none ks l (length ks)
  rowed_all h e =
      let n : i ≡ length ks = omega (arith, w.begins.below) in
      w.written ∙ ap (λ (k : ℕ). sets rows₀ 0 (rows_of none ks l k)) n ∙ sets_all rows₀ (rows_of none ks l (length ks)) (length_rows none s ∙ sym e)
