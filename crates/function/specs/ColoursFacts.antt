-- What follows from the definition of the colours, and what the functions that colour a mesh ask and hold. Assumes nothing.
use Prim.Native.Nat.{ℕ, zero, suc, ◌+◌, ◌*◌, ◌<◌, ◌≤◌, max}
use Rattle.std.proofs.Common.{not-suc-le-zero, eq-or-lt_of_le, le_of_suc-le-suc, lt_irrefl, add-one, arith, ◌∙◌, get_or-set_same, get_or-set_other, take-suc, take_all}
use Rattle.std.proofs.Math.Nat.{max-le}
use Rattle.std.specs.Prelude.{Bool, ◌≡◌, take, replicate}
use Rattle.std.proofs.Math.Bool.{true, false, not, cond}
use Rattle.std.proofs.Math.Path.{refl, sym, ap, subst}
use Rattle.std.proofs.Math.Logic.{⊎_elim}
use mathlib.Core.List.{List, [], ◌∷◌, ◌++◌, flat_map}
use Rattle.std.proofs.Math.ListN.{length, get_or, set, length-append, get_or-append, length-set}
use Rattle.std.proofs.lemmas.List.{get_or-replicate, length-replicate, replicate_more, get_or_at}
use Rattle.std.proofs.lemmas.List.Edits.{sets}
use Rattle.std.proofs.Math.Dec.{eqb, ltb}
use borrow.Author.Tests.{eq-eqb, ne_eqb, not-true, lt-ltb, le-ltb, ltb-true}
use Rattle.lists.specs.Bool.{◌and◌, ◌or◌, true≢false, same_test, and_left, and_right, and_both, and_no_left, or_right}
use Rattle.lists.specs.Bounded.{some, least, some_not, some_none, some_ext, some_more, some_start, some_at, some_which, least_is, least_le, least_holds, least_ext, eq_or_ne}
use Rattle.lists.specs.Range.{filter}
use Rattle.lists.specs.Stores.{sets_more, sets_all, get_d_front}
use Rattle.grid.specs.Cells.{share_in}
use Rattle.grid.specs.CellsFacts.{Shaped, has_place, has_at, share_which, share_at}
use Rattle.grid.specs.Rows.{rows_of, entity, cell_in, has, share}
use Rattle.grid.specs.RowsFacts.{Padded, cell_entity, cell_in_row, cell_number, has_row, rows_below, rows_padded, share_rows}
use Rattle.grid.specs.Mesh.{most_cells, most_edges, cells_of, kinds_present}
use Rattle.cells_by_key.specs.Groups.{cells_with, Below}
use Rattle.cells_by_key.specs.GroupsFacts.{in_group, group_place}
use Rattle.function.specs.declared.Element.{Element}
use Rattle.function.specs.Elements.{Space}
use Rattle.function.specs.Colours.{taken, smallest, colours_to, leading, sharing, colour_list, colour_count}

-- ---- the colours, one by one

module _ (r : ℕ → ℕ → Bool) where
  pub length_colours : (n : ℕ) → length (colours_to r n) ≡ n
  unfolding colours_to
  length_colours zero = refl
  length_colours (suc n) = length-append (colours_to r n) (smallest r (colours_to r n) n ∷ []) ∙ omega (arith, length_colours n)

  -- the colour of cell i, in any list that goes past it
  pub colour_at : (n i : ℕ) → i < n → get_or (colours_to r n) i 0 ≡ smallest r (colours_to r i) i
  unfolding colours_to
  colour_at zero i h = absurd (not-suc-le-zero h)
  colour_at (suc n) i h =
      ⊎_elim (λ e. subst (λ (k : ℕ). get_or (colours_to r n ++ (smallest r (colours_to r n) n ∷ [])) k 0 ≡ smallest r (colours_to r k) k) (sym e)
      (get_or_at (colours_to r n) (smallest r (colours_to r n) n) [] 0 n (length_colours n)))
      (λ l. get_or-append (colours_to r n) (smallest r (colours_to r n) n ∷ []) 0 i (omega (arith, length_colours n)) ∙ colour_at n i l)
      (eq-or-lt_of_le (le_of_suc-le-suc h))

  pub smallest_le : (cs : List ℕ) (i : ℕ) → smallest r cs i ≤ i
  unfolding smallest
  smallest_le cs i = least_le i (λ c. not (taken r cs i c))

  -- a cell's colour is at most its number
  pub colour_le : (n i : ℕ) → i < n → get_or (colours_to r n) i 0 ≤ i
  colour_le n i h = rw (colour_at n i h) (smallest_le (colours_to r i) i)

  -- only the earlier cells' colours matter
  pub smallest_ext : (cs ds : List ℕ) (i : ℕ) → ((j : ℕ) → j < i → get_or cs j 0 ≡ get_or ds j 0) → smallest r cs i ≡ smallest r ds i
  unfolding smallest taken
  smallest_ext cs ds i h =
      least_ext i (λ c. not (taken r cs i c)) (λ c. not (taken r ds i c))
      (λ c l. ap not (some_ext i (λ j. r i j and eqb (get_or cs j 0) c) (λ j. r i j and eqb (get_or ds j 0) c) (λ j b. ap (λ (x : ℕ). r i j and eqb x c) (h j b))))

  -- a later cell that shares with an earlier one has another colour
  pub colours_differ : (n i j : ℕ) → i < n → j < i → r i j ≡ true → get_or (colours_to r n) i 0 ≡ get_or (colours_to r n) j 0 → ⊥
  unfolding smallest taken
  colours_differ n i j h l s e = ⊎_elim last found (eq-or-lt_of_le (least_le i (λ c. not (taken r (colours_to r i) i c))))
    where
      cs : List ℕ
      cs = colours_to r i

      col : get_or (colours_to r n) i 0 ≡ smallest r cs i
      col = colour_at n i h

      prev : get_or (colours_to r n) j 0 ≡ get_or cs j 0
      prev = colour_at n j (omega arith) ∙ sym (colour_at i j l)

      last : smallest r cs i ≡ i → ⊥
      last q = lt_irrefl i (omega (arith, colour_le n j (omega arith), col))

      found : smallest r cs i < i → ⊥
      found b =
          let f : taken r cs i (smallest r cs i) ≡ false = not-true (taken r cs i (smallest r cs i)) (least_holds i (λ c. not (taken r cs i c)) b) in
          let g : r i j and eqb (get_or cs j 0) (smallest r cs i) ≡ false = some_not i (λ k. r i k and eqb (get_or cs k 0) (smallest r cs i)) f j l in
          let t : r i j and eqb (get_or cs j 0) (smallest r cs i) ≡ true = and_both (r i j) (eqb (get_or cs j 0) (smallest r cs i)) s (eq-eqb (get_or cs j 0) (smallest r cs i) (sym prev ∙ sym e ∙ col)) in
          true≢false (sym t ∙ g)

-- where no two cells share, all have colour 0
pub smallest_alone : (cs : List ℕ) (i : ℕ) → smallest eqb cs i ≡ 0
unfolding smallest taken
smallest_alone cs i =
    least_is i (λ c. not (taken eqb cs i c)) 0 (omega arith) (λ k b. absurd (not-suc-le-zero b))
    (λ l. ap not (some_none i (λ j. eqb i j and eqb (get_or cs j 0) 0) (λ j b. and_no_left (eqb i j) (eqb (get_or cs j 0) 0) (ne_eqb i j (λ e. lt_irrefl i (omega arith))))))

pub colours_alone : (n : ℕ) → colours_to eqb n ≡ replicate n 0
unfolding colours_to
colours_alone zero = refl
colours_alone (suc n) = rw (smallest_alone (colours_to eqb n) n, colours_alone n) (replicate_more n 0 ∙ rw add-one)

-- ---- marks: cell i marks a colour with i + 1

-- c is the colour of a cell below i, of the first n of the cells
unfoldable pub colour_to : List ℕ → List ℕ → ℕ → ℕ → ℕ → Bool
colour_to cells cs i n c = some n (λ k. ltb (get_or cells k 0) i and eqb (get_or cs (get_or cells k 0) 0) c)

-- v is u with the mark of cell i at each colour that passes the test
pub record Marked (i : ℕ) (test : ℕ → Bool) (u v : List ℕ) : Type 0 where
  pub long : length v ≡ most_cells
  pub mark : (c : ℕ) → c < most_cells → get_or v c 0 ≡ cond (test c) (i + 1) (get_or u c 0)

-- marks of the first n cells: none is above n
pub record Marks (n : ℕ) (u : List ℕ) : Type 0 where
  pub long : length u ≡ most_cells
  pub low : (c : ℕ) → c < most_cells → get_or u c 0 ≤ n

pub marks_none : Marks 0 (replicate most_cells 0)
marks_none = record { long = length-replicate {A = ℕ} most_cells 0; low = λ c b. omega (arith, get_or-replicate {A = ℕ} most_cells c 0 0 b) }

or_false : (t : Bool) → t or false ≡ t
unfolding ◌or◌
or_false true = refl
or_false false = refl

marked_none : {i : ℕ} {u : List ℕ} (test : ℕ → Bool) → length u ≡ most_cells → ((c : ℕ) → test c ≡ false) → Marked i test u u
marked_none test e none = record { long = e; mark = λ c b. rw (none c) }

module _ {i : ℕ} {test : ℕ → Bool} {u v : List ℕ} (h : Marked i test u v) where
  marked_as : (other : ℕ → Bool) → ((c : ℕ) → other c ≡ test c) → Marked i other u v
  marked_as other e = record { long = h.long; mark = λ c b. rw (e c) (h.mark c b) }

  -- the colour a too
  marked_one : (a : ℕ) → a < most_cells → Marked i (λ c. test c or eqb a c) u (set v a (i + 1))
  marked_one a l = record { long = length-set v a (i + 1) ∙ h.long; mark = λ c b. ⊎_elim (here c) (other c b) (eq_or_ne a c) }
    where
      here : (c : ℕ) → a ≡ c → get_or (set v a (i + 1)) c 0 ≡ cond (test c or eqb a c) (i + 1) (get_or u c 0)
      here c e = rw (or_right (test c) (eqb a c) (eq-eqb a c e)) (ap (λ (k : ℕ). get_or (set v a (i + 1)) k 0) (sym e) ∙ get_or-set_same v a (i + 1) 0 (omega (arith, h.long)))

      other : (c : ℕ) → c < most_cells → (a ≡ c → ⊥) → get_or (set v a (i + 1)) c 0 ≡ cond (test c or eqb a c) (i + 1) (get_or u c 0)
      other c b e = rw (ne_eqb a c e, or_false (test c)) (get_or-set_other v a c (i + 1) 0 (λ z. e (sym z)) ∙ h.mark c b)

  -- those of another test too
  marked_more : {other : ℕ → Bool} {w : List ℕ} → Marked i other v w → Marked i (λ c. test c or other c) u w
  unfolding ◌or◌
  marked_more {other} g = record { long = g.long; mark = λ c b. g.mark c b ∙ rw (h.mark c b) (twice (test c) (other c) (i + 1) (get_or u c 0)) }
    where
      twice : (s t : Bool) (m n : ℕ) → cond t m (cond s m n) ≡ cond (s or t) m n
      twice true true m n = refl
      twice true false m n = refl
      twice false t m n = refl

  -- what cell i marks of marks of earlier cells
  module _ (low : Marks i u) where
    marks_next : Marks (i + 1) v
    marks_next = record { long = h.long; low = λ c b. rw (h.mark c b) (choice (test c) (get_or u c 0) (low.low c b)) }
      where
        choice : (t : Bool) (n : ℕ) → n ≤ i → cond t (i + 1) n ≤ i + 1
        choice true n l = omega arith
        choice false n l = omega arith

    mark_test : (c : ℕ) → c < most_cells → eqb (get_or v c 0) (i + 1) ≡ test c
    mark_test c b = rw (h.mark c b) (choice (test c) (get_or u c 0) (low.low c b))
      where
        choice : (t : Bool) (n : ℕ) → n ≤ i → eqb (cond t (i + 1) n) (i + 1) ≡ t
        choice true n l = eq-eqb (i + 1) (i + 1) refl
        choice false n l = ne_eqb n (i + 1) (λ e. lt_irrefl i (omega arith))

-- the first colour without a mark of cell i is the smallest that is not taken
marks_smallest : (r : ℕ → ℕ → Bool) (cs : List ℕ) {u v : List ℕ} (i : ℕ) → i ≤ most_cells → Marks i u → Marked i (taken r cs i) u v
    → least i (λ c. not (eqb (get_or v c 0) (i + 1))) ≡ smallest r cs i
unfolding smallest
marks_smallest r cs {u} {v} i b low h = least_ext i (λ c. not (eqb (get_or v c 0) (i + 1))) (λ c. not (taken r cs i c)) (λ c l. ap not (mark_test h low c (omega arith)))

-- so it is the colour of cell i, and the marks are those of one cell more
pub marks_colour : (r : ℕ → ℕ → Bool) (cs : List ℕ) {u v : List ℕ} (i : ℕ) {x : ℕ} → i ≤ most_cells → Marks i u → Marked i (taken r cs i) u v
    → x ≡ least i (λ c. not (eqb (get_or v c 0) (i + 1))) → (x ≡ smallest r cs i) × Marks (i + 1) v
marks_colour r cs i b low h e = (e ∙ marks_smallest r cs i b low h, marks_next h low)

-- ---- the colours of a list of cells, marked one cell after the other

module _ (cells cs : List ℕ) (i : ℕ) where
  pub mark_start : {u : List ℕ} → length u ≡ most_cells → Marked i (colour_to cells cs i 0) u u
  unfolding colour_to
  mark_start e = marked_none (colour_to cells cs i 0) e (λ c. some_start _)

  module _ (k : ℕ) {u v : List ℕ} (h : Marked i (colour_to cells cs i k) u v) {j : ℕ} (e : j ≡ get_or cells k 0) where
    more : (c : ℕ) → colour_to cells cs i (k + 1) c ≡ (colour_to cells cs i k c or (ltb j i and eqb (get_or cs j 0) c))
    unfolding colour_to
    more c = some_more k (λ n. ltb (get_or cells n 0) i and eqb (get_or cs (get_or cells n 0) 0) c) ∙ rw (← e)

    -- cell j is not below i
    pub mark_no : i ≤ j → Marked i (colour_to cells cs i (k + 1)) u v
    mark_no l =
        marked_as h (colour_to cells cs i (k + 1))
        (λ c. more c ∙ rw (and_no_left (ltb j i) (eqb (get_or cs j 0) c) (le-ltb j i l)) (or_false (colour_to cells cs i k c)))

    -- it is, and has the colour a
    pub mark_yes : j < i → {a : ℕ} → a ≡ get_or cs j 0 → a < most_cells → Marked i (colour_to cells cs i (k + 1)) u (set v a (i + 1))
    unfolding ◌and◌
    mark_yes l {a} q b = marked_as (marked_one h a b) (colour_to cells cs i (k + 1)) (λ c. more c ∙ rw (lt-ltb j i l, q))

-- ---- the colours of the cells that share an entity with cell i, marked one entity after the other

-- c is the colour of a cell below i, of those that have one of the first p entities of cell i
unfoldable pub sharing_to : List ℕ → List ℕ → ℕ → ℕ → ℕ → Bool
sharing_to l cs i p c = some p (λ q. colour_to (cells_with l 4 (entity l i q)) cs i (length (cells_with l 4 (entity l i q))) c)

module _ (l cs : List ℕ) (i : ℕ) where
  pub sharing_start : {u : List ℕ} → length u ≡ most_cells → Marked i (sharing_to l cs i 0) u u
  unfolding sharing_to
  sharing_start e = marked_none (sharing_to l cs i 0) e (λ c. some_start _)

  pub sharing_more : (p : ℕ) {u v w : List ℕ} → Marked i (sharing_to l cs i p) u v → {xs : List ℕ} → xs ≡ cells_with l 4 (entity l i p)
      → Marked i (colour_to xs cs i (length xs)) v w → Marked i (sharing_to l cs i (p + 1)) u w
  unfolding sharing_to
  sharing_more p h e g =
      marked_as (marked_more h g) (sharing_to l cs i (p + 1))
      (λ c. some_more p (λ q. colour_to (cells_with l 4 (entity l i q)) cs i (length (cells_with l 4 (entity l i q))) c) ∙ rw (← e))

-- with all numbers of the cell: an earlier cell shares with cell i exactly where it is one of the cells of an entity of cell i
module _ {none : ℕ} {rows : List ℕ} (pads : Padded none rows) (cs : List ℕ) (i : ℕ) (b : 4 * i + 4 ≤ length rows) where
  sharing_taken : (c : ℕ) → taken (share none rows) cs i c ≡ sharing_to rows cs i (length (cell_in none rows i)) c
  unfolding sharing_to colour_to taken
  sharing_taken c = same_test (taken (share none rows) cs i c) (sharing_to rows cs i (length (cell_in none rows i)) c) there back
    where
      there : taken (share none rows) cs i c ≡ true → sharing_to rows cs i (length (cell_in none rows i)) c ≡ true
      there e =
          let w = some_which i (λ j. share none rows i j and eqb (get_or cs j 0) c) e in
          let x = share_which (cell_in none rows i) (cell_in none rows w.0) (and_left _ _ w.2) in
          let s = has_place (cell_in none rows i) x.0 x.1 in
          let here : entity rows i s.0 ≡ x.0 = sym (cell_entity none rows i s.0 s.1) ∙ s.2 in
          let g = group_place rows (entity rows i s.0) w.0 (omega (arith, w.1, b)) (cell_in_row none rows w.0 _ (subst (λ (y : ℕ). has none rows w.0 y ≡ true) (sym here) x.2)) in
          some_at _ (λ q. colour_to (cells_with rows 4 (entity rows i q)) cs i (length (cells_with rows 4 (entity rows i q))) c) s.0 s.1
          (some_at _ _ g.0 g.1 (rw g.2 (and_both _ _ (lt-ltb w.0 i w.1) (and_right _ _ w.2))))

      back : sharing_to rows cs i (length (cell_in none rows i)) c ≡ true → taken (share none rows) cs i c ≡ true
      back e =
          let w = some_which (length (cell_in none rows i)) (λ q. colour_to (cells_with rows 4 (entity rows i q)) cs i (length (cells_with rows 4 (entity rows i q))) c) e in
          let v = some_which _ _ w.2 in
          let x : ℕ = entity rows i w.0 in
          let j : ℕ = get_or (cells_with rows 4 x) v.0 0 in
          let theirs : has none rows j x ≡ true = sym (has_row none rows j x (cell_number pads i b w.0 w.1)) ∙ in_group rows x v.0 v.1 in
          some_at i (λ j. share none rows i j and eqb (get_or cs j 0) c) j (ltb-true j i (and_left _ _ v.2))
          (and_both _ _ (share_at (cell_in none rows i) (cell_in none rows j) x (has_at (cell_in none rows i) w.0 x w.1 (cell_entity none rows i w.0 w.1)) theirs) (and_right _ _ v.2))

  pub sharing_done : {n : ℕ} {u v : List ℕ} → n ≡ length (cell_in none rows i) → Marked i (sharing_to rows cs i n) u v → Marked i (taken (share none rows) cs i) u v
  sharing_done e h = marked_as h (taken (share none rows) cs i) (λ c. sharing_taken c ∙ ap (λ (n : ℕ). sharing_to rows cs i n c) (sym e))

-- ---- the colour list as it is filled from the front

-- the colours of the cells before cell i
pub record Earlier (colours : List ℕ) (i : ℕ) : Type 0 where
  pub place : i < length colours
  pub below : i < most_cells
  pub low : (j : ℕ) → j < i → get_or colours j 0 < most_cells

-- what colouring by one list, whose numbers are below top, asks
pub record Listed (top : ℕ) (kinds list colours : List ℕ) : Type 0 where
  pub shaped : Shaped kinds list
  pub groups : top ≤ most_edges
  pub below : Below list top
  pub places : length colours ≡ length kinds

-- what is held before cell i: l with the colours of the first i cells stored
pub record Filled (r : ℕ → ℕ → Bool) (l cs : List ℕ) (i : ℕ) : Type 0 where
  pub fits : i ≤ length l
  pub long : length cs ≡ length l
  pub done : cs ≡ sets l 0 (colours_to r i)

pub filled_none : (r : ℕ → ℕ → Bool) (l : List ℕ) → Filled r l l 0
unfolding colours_to
filled_none r l = record { fits = omega arith; long = refl; done = refl }

module _ {r : ℕ → ℕ → Bool} {l cs : List ℕ} {i : ℕ} (h : Filled r l cs i) where
  front : (j : ℕ) → j < i → get_or cs j 0 ≡ get_or (colours_to r i) j 0
  front j b = rw h.done (get_d_front l (colours_to r i) 0 (omega (arith, length_colours r i, h.fits)) j (omega (arith, length_colours r i)))

  pub front_le : (j : ℕ) → j < i → get_or cs j 0 ≤ j
  front_le j b = rw (front j b) (colour_le r i j b)

  pub filled_more : (v : ℕ) → v ≡ smallest r cs i → i < length l → Filled r l (set cs i v) (i + 1)
  unfolding colours_to
  filled_more v e b =
      let g : v ≡ smallest r (colours_to r i) i = e ∙ smallest_ext r cs (colours_to r i) i front in
      let z : i ≡ 0 + length (colours_to r i) = omega (arith, length_colours r i) in
      record {
        fits = omega arith;
        long = length-set cs i v ∙ h.long;
        done = ap (λ (k : ℕ). set cs k v) z ∙ rw (h.done, g, add-one) (sets_more l 0 (colours_to r i) (smallest r (colours_to r i) i));
      }

  pub filled_all : (n : ℕ) → i ≡ n → length l ≡ n → cs ≡ colours_to r n
  filled_all n e f = h.done ∙ rw e (sets_all l (colours_to r n) (length_colours r n ∙ sym f))

-- ---- the list and the dimension

-- relations that agree on cells below n colour them the same
pub colours_ext : (r r' : ℕ → ℕ → Bool) (n : ℕ) → ((i j : ℕ) → i < n → j < i → r i j ≡ r' i j) → colours_to r n ≡ colours_to r' n
unfolding colours_to smallest taken
colours_ext r r' zero h = refl
colours_ext r r' (suc n) h =
    let before : colours_to r n ≡ colours_to r' n = colours_ext r r' n (λ i j hi hj. h i j (omega arith) hj) in
    rw before
    (ap (λ (c : ℕ). colours_to r' n ++ (c ∷ []))
    (least_ext n _ _ (λ c _. ap not (some_ext n _ _ (λ j hj. ap (λ (b : Bool). b and eqb (get_or (colours_to r' n) j 0) c) (h n j (omega arith) hj))))))

-- by the rows of one list
module _ {top : ℕ} {ks l colours : List ℕ} (h : Listed top ks l colours) {rows : List ℕ} (e : rows ≡ rows_of top ks l (length ks)) where
  pub listed_below : {n : ℕ} → n ≡ top + 1 → Below rows n
  listed_below q = rw (e, q) (record { below = rows_below top h.shaped h.below.below })

  pub listed_padded : Padded top rows
  listed_padded = rw e (rows_padded top h.shaped h.below.below)

  pub listed_colours : colours_to (share top rows) (length colours) ≡ colours_to (share_in ks l) (length colours)
  listed_colours =
      rw e
      (colours_ext _ _ (length colours) (λ i j hi hj. share_rows top h.shaped h.below.below i j (omega (arith, h.places)) (omega (arith, h.places))))

module _ (s : Space) (C : ℕ) {e : Element} (lead : e ≡ leading s) where
  pub by_vertices : 0 < e.a → colours_to (share_in s.kinds s.cell_vertices) C ≡ colour_list s C
  unfolding colour_list
  by_vertices a = rw (← lead, lt-ltb 0 e.a a)

  pub by_edges : e.a ≤ 0 → 0 < e.b → colours_to (share_in s.kinds s.cell_edges) C ≡ colour_list s C
  unfolding colour_list
  by_edges a b = rw (← lead, le-ltb 0 e.a a, lt-ltb 0 e.b b)

  pub by_none : e.a ≤ 0 → e.b ≤ 0 → colours_to eqb C ≡ colour_list s C
  unfolding colour_list
  by_none a b = rw (← lead, le-ltb 0 e.a a, le-ltb 0 e.b b)

-- the first kind present: 3 where there is a triangle, else 4 where there is a quad
module _ (ks : List ℕ) where
  pub first_three : 0 < cells_of ks 3 → 3 ≡ get_or (kinds_present ks) 0 3
  unfolding kinds_present filter flat_map
  first_three h = rw (lt-ltb 0 (cells_of ks 3) h)

  pub first_four : cells_of ks 3 ≤ 0 → 0 < cells_of ks 4 → 4 ≡ get_or (kinds_present ks) 0 3
  unfolding kinds_present filter flat_map
  first_four t h = rw (le-ltb 0 (cells_of ks 3) t, lt-ltb 0 (cells_of ks 4) h)

  pub first_none : cells_of ks 3 ≤ 0 → cells_of ks 4 ≤ 0 → 3 ≡ get_or (kinds_present ks) 0 3
  unfolding kinds_present filter flat_map
  first_none t q = rw (le-ltb 0 (cells_of ks 3) t, le-ltb 0 (cells_of ks 4) q)

-- what counting asks of the list that is filled
pub colours_low : (s : Space) (C : ℕ) (cs : List ℕ) → C ≤ most_cells → cs ≡ colour_list s C → (i : ℕ) → i < length cs → get_or cs i 0 < most_cells
unfolding colour_list
colours_low s C cs b e i h =
    let l : i < C = omega (arith, ap length e, length_colours (sharing s) C) in
    rw e (omega (arith, colour_le (sharing s) C i l))

-- ---- the number of colours

max_assoc : (a b c : ℕ) → max (max a b) c ≡ max a (max b c)
max_assoc a b c = omega arith

pub count_snoc : (cs : List ℕ) (c : ℕ) → colour_count (cs ++ (c ∷ [])) ≡ max (colour_count cs) (c + 1)
unfolding colour_count
count_snoc [] c = omega arith
count_snoc (d ∷ cs) c = ap (max (suc d)) (count_snoc cs c) ∙ sym (max_assoc (suc d) (colour_count cs) (c + 1))

-- what is held before place i: the number of colours of the places passed
pub record Counted (cs : List ℕ) (i n : ℕ) : Type 0 where
  pub fits : i ≤ length cs
  pub count : n ≡ colour_count (take i cs)

pub count_none : (cs : List ℕ) → Counted cs 0 0
unfolding colour_count
count_none cs = record { fits = omega arith; count = refl }

module _ {cs : List ℕ} {i n : ℕ} (h : Counted cs i n) where
  pub count_more : i < length cs → {m : ℕ} → m ≡ max n (get_or cs i 0 + 1) → Counted cs (i + 1) m
  count_more b q = record { fits = omega arith; count = q ∙ rw (add-one i, take-suc cs i 0 b, count_snoc, h.count) }

  pub count_all : length cs ≤ i → n ≡ colour_count cs
  count_all b = rw (take_all i cs b) at h.count

-- which is the least that they all are below
pub count_le : (cs : List ℕ) (n : ℕ) → ((i : ℕ) → i < length cs → get_or cs i 0 < n) → colour_count cs ≤ n
unfolding colour_count
count_le [] n h = omega arith
count_le (c ∷ cs) n h = max-le (h 0 (omega arith)) (count_le cs n (λ i b. h (suc i) (omega arith)))
