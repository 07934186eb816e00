-- Laws of the test of cells with the same vertices, as the code makes it: a cell is held against the cells at one of its vertices. Assumes nothing.
use Rattle.std.specs.Prelude.{ℕ, ◌+◌, ◌*◌, ◌<◌, ◌≤◌, ◌≡◌, Bool, true, false, cond, not, ◌⊎◌, List, [], ◌∷◌, zero, suc, ◌||◌, length, get_or, eqb, ltb}
use Rattle.std.proofs.Common.{arith, ap, subst, ◌∙◌, ⊎_elim, lt-ltb, ltb-true, eqb-true, eq-eqb, refl}
use Rattle.std.proofs.Math.Path.{sym}
use Rattle.std.specs.List.{list_any}
use Rattle.std.proofs.lemmas.Bool.{not-true}
use Rattle.lists.specs.Bool.{◌and◌, true≢false, cases, and_left, and_right, and_both, and_no_left, same_test}
use Rattle.lists.specs.Bounded.{all, all_at, all_of}
use Rattle.grid.specs.Cells.{has}
use Rattle.grid.specs.CellsFacts.{has_at, has_place}
use Rattle.grid.specs.Rows.{entity, cell_in}
use Rattle.grid.specs.RowsFacts.{cell_length, cell_entity, cell_in_row}
use Rattle.cells_by_key.specs.Groups.{cells_with, from, part, Cells, ByEntity}
use Rattle.cells_by_key.specs.GroupsFacts.{grouped_each, grouped_bounds, entity_bounds, group_place, group_cells}
use Rattle.cell_pairs.specs.Patterns.{same_vertices}
use Rattle.cell_pairs.proofs.CoincidentFacts.{same_has}
use Rattle.coincident_cells.specs.Differ.{earlier}

-- ---- the same vertices, by two searches

-- as the library's `contains` answers it
pub is_has : (xs : List ℕ) (x : ℕ) → list_any (λ y. eqb y x) xs ≡ has xs x
is_has xs x = same_test _ _ (λ e. let w = found xs e in has_at xs w.0 x w.1 w.2) (λ e. let w = has_place xs x e in at xs w.0 w.1 w.2)
  where
    found : (ys : List ℕ) → list_any (λ y. eqb y x) ys ≡ true → (k : ℕ) × (k < length ys) × (get_or ys k 0 ≡ x)
    found [] e = absurd (true≢false (sym e))
    found (y ∷ ys) e = go (eqb y x) refl e (found ys)
      where
        go : (b : Bool) → eqb y x ≡ b → b || list_any (λ y. eqb y x) ys ≡ true → (list_any (λ y. eqb y x) ys ≡ true → (k : ℕ) × (k < length ys) × (get_or ys k 0 ≡ x))
            → (k : ℕ) × (k < length (y ∷ ys)) × (get_or (y ∷ ys) k 0 ≡ x)
        go true h e more = (0, omega arith, eqb-true y x h)
        go false h e more = let w = more e in (suc w.0, omega (arith, w.1), w.2)

    at : (ys : List ℕ) (k : ℕ) → k < length ys → get_or ys k 0 ≡ x → list_any (λ y. eqb y x) ys ≡ true
    at [] k l e = absurd (omega arith)
    at (y ∷ ys) zero l e = rw (eq-eqb y x e)
    at (y ∷ ys) (suc k) l e = go (at ys k (omega arith) e) (eqb y x)
      where
        go : list_any (λ y. eqb y x) ys ≡ true → (b : Bool) → b || list_any (λ y. eqb y x) ys ≡ true
        go more true = refl
        go more false = more

abbrev pub inside_of : List ℕ → List ℕ → Bool
inside_of xs ys = all (length xs) (λ p. has ys (get_or xs p 0))

module _ (xs ys : List ℕ) {a : Bool} (e : a ≡ inside_of xs ys) where
  pub same_found : a ≡ true → {b : Bool} → b ≡ inside_of ys xs → b ≡ same_vertices xs ys
  unfolding same_vertices ◌and◌
  same_found t f = f ∙ rw (sym e ∙ t)

  pub same_missed : a ≡ false → false ≡ same_vertices xs ys
  unfolding same_vertices
  same_missed t = sym (and_no_left _ _ (sym e ∙ t))

-- ---- the vertex at which a cell is held against others

-- groups end no earlier than they begin
pub record Rise (ends : List ℕ) : Type 0 where
  pub rise : (v : ℕ) → v < length ends → from ends v ≤ get_or ends v 0

pub entity_rise : {rows order ends : List ℕ} → ByEntity rows order ends → Rise ends
entity_rise e = record { rise = λ v l. (grouped_bounds e.groups v l).0 }

-- v is one of the first three numbers of row i
pub record Vertex (rows : List ℕ) (i v : ℕ) : Type 0 where
  pub place : ℕ
  pub first : place < 3
  pub here : v ≡ entity rows i place

pub either_below : {v x y n : ℕ} → (v ≡ x) ⊎ (v ≡ y) → x < n → y < n → v < n
either_below e a b = ⊎_elim (λ q. omega arith) (λ q. omega arith) e

pub one_of_three : (rows : List ℕ) (i : ℕ) {x y z v w : ℕ} → x ≡ get_or rows (4 * i) 0 → y ≡ entity rows i 1 → z ≡ entity rows i 2 → (v ≡ x) ⊎ (v ≡ y) → (w ≡ v) ⊎ (w ≡ z) → Vertex rows i w
one_of_three rows i ex ey ez first second =
    ⊎_elim
    (λ a. ⊎_elim (λ b. record { place = 0; first = omega arith; here = a ∙ b ∙ ex ∙ ap (λ (k : ℕ). get_or rows k 0) (omega arith) }) (λ b. record { place = 1; first = omega arith; here = a ∙ b ∙ ey }) first)
    (λ a. record { place = 2; first = omega arith; here = a ∙ ez }) second

-- ---- the test of one cell

-- a cell of a row has three vertices or four
pub cell_few : (none : ℕ) (rows : List ℕ) (i : ℕ) → (3 ≤ length (cell_in none rows i)) × (length (cell_in none rows i) ≤ 4)
cell_few none rows i = rw (cell_length none rows i) (go (eqb (entity rows i 3) none))
  where
    go : (b : Bool) → (3 ≤ cond b 3 4) × (cond b 3 4 ≤ 4)
    go true = (omega arith, omega arith)
    go false = (omega arith, omega arith)

-- an earlier cell with the same vertices is among the cells at one of them
pub alone_is : (none C : ℕ) (rows : List ℕ) → length rows ≡ 4 * C → (i v : ℕ) → i < C → Vertex rows i v
    → all (length (cells_with rows 4 v)) (λ k. not (earlier none rows i (get_or (cells_with rows 4 v) k 0))) ≡ all i (λ j. not (same_vertices (cell_in none rows i) (cell_in none rows j)))
alone_is none C rows n i v hi w = same_test _ _ there back
  where
    group : List ℕ
    group = cells_with rows 4 v

    in_cell : has (cell_in none rows i) v ≡ true
    in_cell =
        let l : w.place < length (cell_in none rows i) = omega (arith, w.first, (cell_few none rows i).0) in
        has_at (cell_in none rows i) w.place v l (cell_entity none rows i w.place l ∙ sym w.here)

    there : all (length group) (λ k. not (earlier none rows i (get_or group k 0))) ≡ true → all i (λ j. not (same_vertices (cell_in none rows i) (cell_in none rows j))) ≡ true
    there h = all_of i _ (λ j l. ⊎_elim (λ s. absurd (met j l s)) (λ s. ap not s) (cases (same_vertices (cell_in none rows i) (cell_in none rows j))))
      where
        met : (j : ℕ) → j < i → same_vertices (cell_in none rows i) (cell_in none rows j) ≡ true → ⊥
        met j l s =
            let k = group_place rows v j (omega arith) (cell_in_row none rows j v (same_has _ _ s v in_cell)) in
            true≢false (sym (and_both _ _ (lt-ltb j i l) s) ∙ subst (λ (c : ℕ). earlier none rows i c ≡ false) k.2 (not-true (earlier none rows i (get_or group k.0 0)) (all_at (length group) (λ k. not (earlier none rows i (get_or group k 0))) h k.0 k.1)))

    back : all i (λ j. not (same_vertices (cell_in none rows i) (cell_in none rows j))) ≡ true → all (length group) (λ k. not (earlier none rows i (get_or group k 0))) ≡ true
    back h = all_of (length group) _ (λ k l. ⊎_elim (λ s. absurd (met (get_or group k 0) s)) (λ s. ap not s) (cases (earlier none rows i (get_or group k 0))))
      where
        met : (j : ℕ) → earlier none rows i j ≡ true → ⊥
        met j s = true≢false (sym (and_right (ltb j i) _ s) ∙ not-true (same_vertices (cell_in none rows i) (cell_in none rows j)) (all_at i (λ j. not (same_vertices (cell_in none rows i) (cell_in none rows j))) h j (ltb-true _ _ (and_left _ _ s))))

-- ---- the cells one after the other

module _ {rows order ends : List ℕ} (e : ByEntity rows order ends) {i v : ℕ} (b : 4 * i + 4 ≤ length rows) (w : Vertex rows i v) where
  pub vertex_bounds : (v < length ends) × ((from ends v ≤ get_or ends v 0) × (get_or ends v 0 ≤ length order))
  vertex_bounds = entity_bounds e {k = 4 * i + w.place} (omega (arith, w.first)) w.here

  vertex_part : part order ends v ≡ cells_with rows 4 v
  vertex_part = grouped_each e.groups v vertex_bounds.0

  pub vertex_cells : (C : ℕ) → length rows ≡ 4 * C → Cells rows (part order ends v)
  vertex_cells C n = subst (Cells rows) (sym vertex_part) (group_cells rows v C n)

  -- the test of cell i, of the cells at v
  pub alone_at : (none C : ℕ) → length rows ≡ 4 * C → i < C → {r : Bool} → r ≡ all (length (part order ends v)) (λ k. not (earlier none rows i (get_or (part order ends v) k 0)))
      → r ≡ all i (λ j. not (same_vertices (cell_in none rows i) (cell_in none rows j)))
  alone_at none C n h f =
      f ∙ ap (λ (g : List ℕ). all (length g) (λ k. not (earlier none rows i (get_or g k 0)))) vertex_part ∙ alone_is none C rows n i v h w
