-- The laws of the distant part. Assumes nothing.
use Rattle.std.specs.Prelude.{◌≡◌, refl, ◌⊎◌, Bool, false, ◌&&◌, get_or, take, drop, eqb, ltb}
use Rattle.std.proofs.Math.Path.{sym, ap, ap₂, subst⁻¹}
use Rattle.std.proofs.Common.{◌∙◌, le_refl, le_of_suc-le-suc, eq-or-lt_of_le, mul-le-mul_right, arith}
use Rattle.std.proofs.Math.Logic.{inl, inr, ⊎_elim}
use Rattle.std.proofs.Math.Bool.{true}
use mathlib.Core.List.{List, [], ◌∷◌, ◌++◌, flat_map}
use Prim.Native.Nat.{ℕ, zero, suc, ◌+◌, ◌-◌, ◌*◌, ◌/◌, ◌≤◌, ◌<◌}
use Rattle.std.proofs.Math.ListN.{length}
use borrow.Author.Tests.{eq-eqb, ne_eqb, ltb-false}
use Rattle.lists.specs.Bool.{same_test, and_no_left}
use Rattle.lists.specs.Bounded.{eq_or_ne}
use Rattle.lists.specs.Range.{range, when, filter, batch, flat_map_nil, flat_map_below, flat_map_filter}
use Rattle.grid.specs.Cells.{has as has_number, share as share_number}
use Rattle.grid.specs.CellsFacts.{Shaped, share_which, share_at, has_at, has_place}
use Rattle.grid.specs.Rows.{rows_of, row, entity, cell_in, fourth_or_first, has, share}
use Rattle.grid.specs.RowsFacts.{Padded, cell_three, cell_four, cell_entity, cell_in_row, cell_number, has_row, share_rows}
use Rattle.grid.specs.Mesh.{Mesh, kind, corners, cells_of, kinds_present}
use Rattle.grid.specs.KindsFacts.{kind_present}
use Rattle.function.specs.Colours.{colour_count}
use Rattle.cell_pairs.specs.declared.WorkRecord.{WorkRecord}
use Rattle.cell_pairs.specs.Records.{rec, distant_pattern}
use Rattle.cell_pairs.specs.Patterns.{touch}
use Rattle.cell_pairs.proofs.WorkRecordsFacts.{distant_same}
use Rattle.cell_pairs.specs.WorkList.{coloured, batches, distant_pair, distant_batch, distant_colours, distant_kinds, distant_part}
use Rattle.cells_by_key.specs.Groups.{cells_with, from, part, Grouped, Cells, Cut, ByKind}
use Rattle.cells_by_key.specs.GroupsFacts.{grouped_each, grouped_cut, filter_cells, with_one, with_triangles, with_quads}
use Rattle.distant_pairs.specs.Distant.{Corners, has_one_of, half, has_cells, distant_rest, distant_tests, distant_kind, distant_parts}

-- ---- a pair

-- as they are read
pub corners_read : {none : ℕ} (rows : List ℕ) {j k d : ℕ} → k ≡ j → d ≡ fourth_or_first none rows k
    → Corners none rows j (get_or rows (4 * k) 0) (get_or rows (4 * k + 1) 0) (get_or rows (4 * k + 2) 0) d
corners_read {none} rows {j} {k} {d} e f =
    let zero_at : 4 * j + 0 ≡ 4 * k = omega (arith, e) in
    record {
      first = ap (λ (n : ℕ). get_or rows n 0) (sym zero_at);
      second = rw e;
      third = rw e;
      fourth = f ∙ ap (fourth_or_first none rows) e;
    }

-- the four are the vertices of the cell
module _ {none : ℕ} {rows : List ℕ} {j a b c d : ℕ} (at : Corners none rows j a b c d) where
  three_or_four : ((length (cell_in none rows j) ≡ 3) × (d ≡ a)) ⊎ ((length (cell_in none rows j) ≡ 4) × (d ≡ entity rows j 3))
  unfolding fourth_or_first
  three_or_four =
      ⊎_elim (λ e. inl (ap length (cell_three none rows j e), at.fourth ∙ rw (eq-eqb _ _ e) (sym at.first)))
      (λ e. inr (ap length (cell_four none rows j e), at.fourth ∙ rw (ne_eqb _ _ e))) (eq_or_ne (entity rows j 3) none)

  at_place : (p x : ℕ) → p < length (cell_in none rows j) → entity rows j p ≡ x → has none rows j x ≡ true
  at_place p x l e = has_at (cell_in none rows j) p x l (cell_entity none rows j p l ∙ e)

  long : 3 ≤ length (cell_in none rows j)
  long = ⊎_elim (λ w. omega (arith, w.0)) (λ w. omega (arith, w.0)) three_or_four

  one_has : (x : ℕ) → has_number (a ∷ b ∷ c ∷ d ∷ []) x ≡ true → has none rows j x ≡ true
  one_has x h =
      let w = has_place (a ∷ b ∷ c ∷ d ∷ []) x h in
      place w.0 w.1 w.2
    where
      place : (p : ℕ) → p < 4 → get_or (a ∷ b ∷ c ∷ d ∷ []) p 0 ≡ x → has none rows j x ≡ true
      place zero l e = at_place 0 x (omega (arith, long)) (sym at.first ∙ e)
      place (suc zero) l e = at_place 1 x (omega (arith, long)) (sym at.second ∙ e)
      place (suc (suc zero)) l e = at_place 2 x (omega (arith, long)) (sym at.third ∙ e)
      place (suc (suc (suc zero))) l e =
          ⊎_elim (λ w. at_place 0 x (omega (arith, long)) (sym at.first ∙ sym w.1 ∙ e)) (λ w. at_place 3 x (omega (arith, w.0)) (sym w.1 ∙ e)) three_or_four
      place (suc (suc (suc (suc p)))) l e = absurd (omega arith)

  has_one : (x : ℕ) → has none rows j x ≡ true → has_number (a ∷ b ∷ c ∷ d ∷ []) x ≡ true
  has_one x h =
      let w = has_place (cell_in none rows j) x h in
      place w.0 w.1 (sym (cell_entity none rows j w.0 w.1) ∙ w.2)
    where
      here : (p : ℕ) → p < 4 → get_or (a ∷ b ∷ c ∷ d ∷ []) p 0 ≡ x → has_number (a ∷ b ∷ c ∷ d ∷ []) x ≡ true
      here p = has_at (a ∷ b ∷ c ∷ d ∷ []) p x

      place : (p : ℕ) → p < length (cell_in none rows j) → entity rows j p ≡ x → has_number (a ∷ b ∷ c ∷ d ∷ []) x ≡ true
      place zero l e = here 0 (omega arith) (at.first ∙ e)
      place (suc zero) l e = here 1 (omega arith) (at.second ∙ e)
      place (suc (suc zero)) l e = here 2 (omega arith) (at.third ∙ e)
      place (suc (suc (suc zero))) l e = ⊎_elim (λ w. absurd (omega (arith, w.0, l))) (λ w. here 3 (omega arith) (w.1 ∙ e)) three_or_four
      place (suc (suc (suc (suc p)))) l e = absurd (⊎_elim (λ w. omega (arith, w.0, l)) (λ w. omega (arith, w.0, l)) three_or_four)

  -- with the vertices of cell j at hand: cells i and j share a vertex. `none`, in the row of cell i, is none of them
  module _ (pads : Padded none rows) (inside : 4 * j + 4 ≤ length rows) (i : ℕ) where
    shares : has_one_of rows i a b c d ≡ share none rows i j
    unfolding has_one_of
    shares = same_test (has_one_of rows i a b c d) (share none rows i j) there back
      where
        there : share_number (row rows i) (a ∷ b ∷ c ∷ d ∷ []) ≡ true → share none rows i j ≡ true
        there h =
            let w = share_which (row rows i) (a ∷ b ∷ c ∷ d ∷ []) h in
            let theirs : has none rows j w.0 ≡ true = one_has w.0 w.2 in
            let q = has_place (cell_in none rows j) w.0 theirs in
            let other : w.0 ≡ none → ⊥ = λ e. cell_number pads j inside q.0 q.1 (sym (cell_entity none rows j q.0 q.1) ∙ q.2 ∙ e) in
            share_at (cell_in none rows i) (cell_in none rows j) w.0 (sym (has_row none rows i w.0 other) ∙ w.1) theirs

        back : share none rows i j ≡ true → share_number (row rows i) (a ∷ b ∷ c ∷ d ∷ []) ≡ true
        back h =
            let w = share_which (cell_in none rows i) (cell_in none rows j) h in
            share_at (row rows i) (a ∷ b ∷ c ∷ d ∷ []) w.0 (cell_in_row none rows i w.0 w.1) (has_one w.0 w.2)

    pub pair_same : distant_pair (λ i _. has_one_of rows i a b c d) i j ≡ distant_pair (share none rows) i j
    unfolding distant_pair
    pair_same = rw shares

-- a pair that is near has no record here, and any other has one. (k is the index of cell i, and r the answer for it.)
module _ (rows : List ℕ) (a b c d j : ℕ) {i k : ℕ} {r : Bool} (e : k ≡ i) (answer : r ≡ has_one_of rows k a b c d) where
  told : r ≡ has_one_of rows i a b c d
  told = answer ∙ ap (λ (x : ℕ). has_one_of rows x a b c d) e

  pub pair_none : r ≡ true → distant_pair (λ i _. has_one_of rows i a b c d) i j ≡ []
  unfolding distant_pair
  pair_none h = rw (sym told ∙ h)

  pub pair_one : r ≡ false → distant_pair (λ i _. has_one_of rows i a b c d) i j ≡ rec distant_pattern i j ∷ []
  unfolding distant_pair
  pair_one h = rw (sym told ∙ h)

-- ---- the groups of a kind

-- where they begin and end
pub kind_first : (k n : ℕ) → k < 2 → k * (n / 2) ≤ n / 2
kind_first k n h =
    let one : k ≤ 1 = omega arith in
    omega (arith, mul-le-mul_right (n / 2) one)

pub kind_group : (k n d : ℕ) → k < 2 → d < n / 2 → k * (n / 2) + d < n
kind_group k n d h l = omega (arith, kind_first k n h)

-- ---- a kind that is not present has no pairs

batch_nothing : (B b : ℕ) → batch {A = ℕ} B b [] ≡ []
unfolding batch
batch_nothing B b = ap (take B) (dropped (b * B)) ∙ taken B
  where
    dropped : (n : ℕ) → drop {A = ℕ} n [] ≡ []
    dropped zero = refl
    dropped (suc n) = refl

    taken : (n : ℕ) → take {A = ℕ} n [] ≡ []
    taken zero = refl
    taken (suc n) = refl

module _ (near : ℕ → ℕ → Bool) (B : ℕ) where
  no_tests : (trials : List ℕ) → distant_colours near B [] trials ≡ []
  unfolding distant_colours distant_batch flat_map
  no_tests trials =
      flat_map_nil _ (λ b. flat_map_nil _ (λ d. ap (λ (tests : List ℕ). distant_batch near tests (batch B d trials)) (batch_nothing B b) ∙ flat_map_nil _ (λ j. refl) (batch B d trials)) (batches B trials)) (batches B [])

  no_trials : (tests : List ℕ) → distant_colours near B tests [] ≡ []
  unfolding distant_colours distant_batch flat_map
  no_trials tests =
      flat_map_nil _ (λ b. flat_map_nil _ (λ d. ap (distant_batch near (batch B b tests)) (batch_nothing B d)) (batches B [])) (batches B tests)

from_next : (ends : List ℕ) (v : ℕ) → from ends (suc v) ≡ get_or ends v 0
unfolding from
from_next ends v = refl

-- where each group begins rises
from_rises : {rows order ends : List ℕ} → Cut rows order ends → (a b : ℕ) → a ≤ b → b ≤ length ends → from ends a ≤ from ends b
from_rises cut a zero h l =
    let none : a ≡ 0 = omega arith in
    rw none (le_refl _)
from_rises {ends = ends} cut a (suc b) h l =
    ⊎_elim (λ e. rw e (le_refl _)) (λ lower. omega (arith, from_rises cut a b (le_of_suc-le-suc lower) (omega arith), cut.rise b l, from_next ends b)) (eq-or-lt_of_le h)

-- so where all of a kind are between two places that are the same, each is empty
no_cells : {rows order ends : List ℕ} → Cut rows order ends → (k : ℕ) → k < 2 → has_cells ends k ≡ false → (d : ℕ) → d < half ends → part order ends (k * half ends + d) ≡ []
unfolding has_cells part
no_cells {order = order} {ends = ends} cut k h none d l =
    let v : ℕ = k * half ends + d in
    let same : get_or ends v 0 - from ends v ≡ 0 =
    omega (arith, from_rises cut (k * half ends) v (omega arith) (omega (arith, kind_first k (length ends) h)), from_rises cut (suc v) (k * half ends + half ends) (omega arith) (omega (arith, kind_first k (length ends) h)), ltb-false (from ends (k * half ends)) (from ends (k * half ends + half ends)) none, from_next ends v) in
    ap (λ (n : ℕ). take n (drop (from ends v) order)) same

module _ (none : ℕ) (rows : List ℕ) (B : ℕ) (test_order test_ends trial_order trial_ends : List ℕ) (n k : ℕ) where
  no_test_cells : Cut rows test_order test_ends → n < 2 → has_cells test_ends n ≡ false → distant_tests none rows B test_order test_ends trial_order trial_ends n k ≡ []
  unfolding distant_tests distant_rest
  no_test_cells cut h e =
      flat_map_below _ (λ _. []) (half test_ends)
      (λ c l. ap (λ (tests : List ℕ). distant_rest none rows B tests trial_order trial_ends k) (no_cells cut n h e c l) ∙ flat_map_nil _ (λ d. no_tests (share none rows) B (part trial_order trial_ends (k * half trial_ends + d))) (range (half trial_ends)))
      ∙ flat_map_nil _ (λ _. refl) (range (half test_ends))

  no_trial_cells : Cut rows trial_order trial_ends → k < 2 → has_cells trial_ends k ≡ false → distant_tests none rows B test_order test_ends trial_order trial_ends n k ≡ []
  unfolding distant_tests distant_rest
  no_trial_cells cut h e =
      flat_map_nil _
      (λ c. flat_map_below _ (λ _. []) (half trial_ends)
      (λ d l. ap (distant_colours (share none rows) B (part test_order test_ends (n * half test_ends + c))) (no_cells cut k h e d l) ∙ no_trials (share none rows) B (part test_order test_ends (n * half test_ends + c)))
      ∙ flat_map_nil _ (λ _. refl) (range (half trial_ends)))
      (range (half test_ends))

  -- as the code asks it: r and s are the answers for the two kinds
  pub no_cells_of : Cut rows test_order test_ends → Cut rows trial_order trial_ends → n < 2 → k < 2 → {r s : Bool} → r ≡ has_cells test_ends n → s ≡ has_cells trial_ends k → r && s ≡ false
      → distant_tests none rows B test_order test_ends trial_order trial_ends n k ≡ []
  no_cells_of cut cut' h h' {r = false} {s = s} e e' f = no_test_cells cut h (sym e)
  no_cells_of cut cut' h h' {r = true} {s = s} e e' f = no_trial_cells cut' h' (sym e' ∙ f)

module _ (m : Mesh) (long : length m.kinds ≡ m.cells) where
  none_coloured : (cs : List ℕ) (n c : ℕ) → ltb 0 (cells_of m.kinds n) ≡ false → coloured m cs n c ≡ []
  unfolding coloured filter
  none_coloured cs n c h =
      flat_map_below _ (λ _. []) m.cells
      (λ i l. ap (λ (b : Bool). when b (i ∷ [])) (and_no_left (eqb (kind m i) n) (eqb (get_or cs i 0) c) (ne_eqb (kind m i) n (λ e. omega (arith, ltb-false 0 (cells_of m.kinds n) h, kind_present m.kinds n i (omega (arith, long)) e)))))
      ∙ flat_map_nil _ (λ _. refl) (range m.cells)

  module _ (B : ℕ) (ts rs : List ℕ) where
    absent_tests : (n k : ℕ) → ltb 0 (cells_of m.kinds n) ≡ false → distant_kinds m B ts rs n k ≡ []
    unfolding distant_kinds
    absent_tests n k h =
        flat_map_nil _
        (λ c. flat_map_nil _ (λ d. ap (λ (tests : List ℕ). distant_colours (touch m) B tests (coloured m rs k d)) (none_coloured ts n c h) ∙ no_tests (touch m) B (coloured m rs k d)) (range (colour_count rs)))
        (range (colour_count ts))

    absent_trials : (n k : ℕ) → ltb 0 (cells_of m.kinds k) ≡ false → distant_kinds m B ts rs n k ≡ []
    unfolding distant_kinds
    absent_trials n k h =
        flat_map_nil _
        (λ c. flat_map_nil _ (λ d. ap (distant_colours (touch m) B (coloured m ts n c)) (none_coloured rs k d h) ∙ no_trials (touch m) B (coloured m ts n c)) (range (colour_count rs)))
        (range (colour_count ts))

    -- so both kinds may be gone through
    both_kinds : flat_map (λ n. flat_map (λ k. distant_kinds m B ts rs n k) (3 ∷ 4 ∷ [])) (3 ∷ 4 ∷ []) ≡ distant_part m B ts rs
    unfolding distant_part kinds_present flat_map
    both_kinds =
        sym
        (flat_map_filter _ _ (λ n h. flat_map_nil _ (λ k. absent_tests n k h) (kinds_present m.kinds)) (3 ∷ 4 ∷ [])
        ∙ ap₂ (λ (x y : List WorkRecord). x ++ (y ++ [])) (flat_map_filter _ _ (absent_trials 3) (3 ∷ 4 ∷ [])) (flat_map_filter _ _ (absent_trials 4) (3 ∷ 4 ∷ [])))

-- ---- all

-- cells that are laid out by kind and colour: for each of the two kinds, one group for each colour
pub record ByColour (m : Mesh) (cs order ends : List ℕ) : Type 0 where
  pub size : half ends ≡ colour_count cs
  pub group : (n c : ℕ) → n < 2 → c < colour_count cs → part order ends (n * colour_count cs + c) ≡ coloured m cs (3 + n) c

-- as `by_key` lays them out, by the keys of kind and colour
module _ (keys : List ℕ) {order ends : List ℕ} where
  pub by_colour : (m : Mesh) (cs : List ℕ) → ByKind keys m.cells (colour_count cs) m.kinds cs → Grouped order ends (2 * colour_count cs) (cells_with keys 1) → ByColour m cs order ends
  unfolding coloured
  by_colour m cs b g = record { size = omega (arith, g.size); group = group }
    where
      group : (n c : ℕ) → n < 2 → c < colour_count cs → part order ends (n * colour_count cs + c) ≡ coloured m cs (3 + n) c
      group zero c h l = ap (part order ends) (omega arith) ∙ grouped_each g c (omega arith) ∙ with_triangles b c l
      group (suc zero) c h l = ap (part order ends) (omega arith) ∙ grouped_each g (colour_count cs + c) (omega arith) ∙ with_quads b c l
      group (suc (suc n)) c h l = absurd (omega arith)

  pub by_colour_cut : {n : ℕ} → Grouped order ends n (cells_with keys 1) → (rows : List ℕ) → 4 * length keys ≤ length rows → Cut rows order ends
  by_colour_cut g rows h = grouped_cut g (λ v _. subst⁻¹ (Cells rows) (with_one keys v) (filter_cells rows (length keys) _ h))

both : {A : Type 0} (f g : ℕ → List A) → f 0 ≡ g 3 → f 1 ≡ g 4 → flat_map f (range 2) ≡ flat_map g (3 ∷ 4 ∷ [])
unfolding range flat_map
both f g x y = ap₂ (λ (l r : List _). l ++ (r ++ [])) x y

-- the rows are those of the mesh, and so is the layout: this is the distant part of the work list
module _ (m : Mesh) (none : ℕ) (shaped : Shaped m.kinds m.cell_vertices) (long : length m.kinds ≡ m.cells)
    (below : (k : ℕ) → k < length m.cell_vertices → get_or m.cell_vertices k 0 < none) {rows : List ℕ} (rows_are : rows ≡ rows_of none m.kinds m.cell_vertices (length m.kinds)) where
  near_same : (i j : ℕ) → i < m.cells → j < m.cells → share none rows i j ≡ touch m i j
  unfolding corners
  near_same i j hi hj = ap (λ (r : List ℕ). share none r i j) rows_are ∙ share_rows none shaped below i j (omega (arith, long)) (omega (arith, long))

  module _ (B : ℕ) (ts rs : List ℕ) {test_order test_ends trial_order trial_ends : List ℕ} (t : ByColour m ts test_order test_ends) (r : ByColour m rs trial_order trial_ends) where
    tests_same : (n k : ℕ) → n < 2 → k < 2 → distant_tests none rows B test_order test_ends trial_order trial_ends n k ≡ distant_kinds m B ts rs (3 + n) (3 + k)
    unfolding distant_tests distant_rest distant_kinds
    tests_same n k hn hk =
        rw (t.size, r.size)
        (flat_map_below _ _ (colour_count ts)
        (λ c hc. flat_map_below _ _ (colour_count rs)
        (λ d hd. ap₂ (distant_colours (share none rows) B) (t.group n c hn hc) (r.group k d hk hd)
        ∙ distant_same m (share none rows) (touch m) near_same B ts rs (3 + n) (3 + k) c d)))

    kind_same : (n : ℕ) → n < 2 → distant_kind none rows B test_order test_ends trial_order trial_ends n ≡ flat_map (λ k. distant_kinds m B ts rs (3 + n) k) (3 ∷ 4 ∷ [])
    unfolding distant_kind
    kind_same n h = both _ _ (tests_same n 0 h (omega arith)) (tests_same n 1 h (omega arith))

    pub distant_is : distant_parts none rows B test_order test_ends trial_order trial_ends ≡ distant_part m B ts rs
    unfolding distant_parts
    distant_is = both _ _ (kind_same 0 (omega arith)) (kind_same 1 (omega arith)) ∙ both_kinds m long B ts rs
