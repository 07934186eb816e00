-- What holds of a mesh that checks 1, 26, 2 and 3 pass (`Fine`): its lists, and that the vertices of a cell differ and so do its edges. Assumes nothing.
use Prim.Native.Nat.{ℕ, ◌<◌, ◌≤◌}
use Rattle.std.proofs.Common.{arith, ◌∙◌}
use Rattle.std.specs.Prelude.{Bool, not, ◌≡◌, refl, ◌⊎◌, List, [], ◌∷◌, length, get_or, ltb}
use Rattle.std.proofs.Math.Bool.{true}
use Rattle.std.proofs.Math.Path.{sym, ap}
use Rattle.std.proofs.Math.Logic.{inl, inr, ⊎_elim}
use Rattle.std.proofs.lemmas.List.{length-replicate, get_or-replicate}
use Rattle.std.proofs.Math.Dec.{eqb}
use borrow.Author.Tests.{lt-ltb, ltb-true, eqb-true, eqb-false, eq-eqb, not-true}
use Rattle.lists.specs.Bool.{◌and◌, ◌or◌, iff_sides, true≢false, every, every_at, and_left, and_right, and_both, or_cases, or_left, or_right}
use Rattle.lists.specs.Bounded.{all, all_at, all_of, lt_or_le}
use Rattle.lists.specs.Refusals.{refusal, refusal_at}
use Rattle.grid.specs.Cells.{before, own, distinct, ends_of, same_two}
use Rattle.grid.specs.CellsFacts.{Shaped, length_part}
use Rattle.grid.specs.Mesh.{most_cells, most_vertices, most_edges, Mesh, triangles, kind, corners, sides, first_vertex, second_vertex, places_agree, edge_rule, cells_right, kinds_right, vertex_places, vertices_right, edges_right, mesh_checks}
use Rattle.numbers.specs.Ranges.{within, within_low, within_high, all_below, below_at}

-- ---- what a check that passes says

-- what check 2 says of the vertex numbers, whatever V is
pub below_most : (l : List ℕ) (v : ℕ) (d : Bool) → every (within 3 most_vertices v ∷ all_below l v ∷ d ∷ []) ≡ true → all_below l most_vertices ≡ true
unfolding all_below
below_most l v d e =
    all_of (length l) _ (λ k lk. lt-ltb (get_or l k 0) most_vertices (omega (arith, within_high 3 most_vertices v (every_at _ e 0), below_at l v (every_at _ e 1) k lk)))

-- check 26: there is a kind for each cell, and it is 3 or 4
pub kinds_long_lem : (C : ℕ) (ks : List ℕ) → kinds_right C ks ≡ true → length ks ≡ C
unfolding kinds_right
kinds_long_lem C ks e = eqb-true _ _ (and_left _ _ e)

pub kind_known : (C : ℕ) (ks : List ℕ) → kinds_right C ks ≡ true → (i : ℕ) → i < C → (get_or ks i 0 ≡ 3) ⊎ (get_or ks i 0 ≡ 4)
unfolding kinds_right
kind_known C ks e i h =
    ⊎_elim (λ t. inl (eqb-true _ _ t)) (λ t. inr (eqb-true _ _ t))
    (or_cases (eqb (get_or ks i 0) 3) (eqb (get_or ks i 0) 4)
    (all_at (length ks) (λ i. eqb (get_or ks i 0) 3 or eqb (get_or ks i 0) 4) (and_right (eqb (length ks) C) _ e) i (omega (arith, kinds_long_lem C ks e))))

pub triangles_right : (C : ℕ) → kinds_right C (triangles C) ≡ true
unfolding kinds_right
triangles_right C =
    let long : length (triangles C) ≡ C = length-replicate C 3 in
    and_both _ _ (eq-eqb _ _ long) (all_of _ _ (λ i h. or_left _ _ (eq-eqb _ 3 (get_or-replicate C i 3 0 (omega (arith, long))))))

-- the later checks as the code reads them, of as many cells as there are kinds
module _ (m : Mesh) (k : kinds_right m.cells m.kinds ≡ true) {b : Bool} where
  pub places_by : b ≡ eqb (length m.cell_vertices) (before own m.kinds (length m.kinds)) → b ≡ vertex_places m
  unfolding vertex_places
  places_by e = e ∙ ap (λ (n : ℕ). eqb (length m.cell_vertices) (before own m.kinds n)) (kinds_long_lem m.cells m.kinds k)

  pub vertices_by : b ≡ every (within 3 most_vertices m.vertices ∷ all_below m.cell_vertices m.vertices ∷ all (length m.kinds) (λ i. distinct (corners m i)) ∷ []) → b ≡ vertices_right m
  unfolding vertices_right
  vertices_by e =
      e ∙ ap (λ (n : ℕ). every (within 3 most_vertices m.vertices ∷ all_below m.cell_vertices m.vertices ∷ all n (λ i. distinct (corners m i)) ∷ [])) (kinds_long_lem m.cells m.kinds k)

-- what they ask of the lists
pub shaped : (m : Mesh) → cells_right m ≡ true → kinds_right m.cells m.kinds ≡ true → vertex_places m ≡ true → Shaped m.kinds m.cell_vertices
unfolding cells_right vertex_places
shaped m one kinds places =
    let long = kinds_long_lem m.cells m.kinds kinds in
    record {
      few = omega (arith, within_high 1 most_cells m.cells one, long);
      kinds = λ i h. kind_known m.cells m.kinds kinds i (omega (arith, long));
      long = eqb-true _ _ places ∙ ap (before own m.kinds) (sym long);
    }

pub vertices_below : (m : Mesh) → vertices_right m ≡ true → all_below m.cell_vertices most_vertices ≡ true
unfolding vertices_right
vertices_below m e = below_most m.cell_vertices m.vertices (all m.cells (λ i. distinct (corners m i))) e

pub record Fine (m : Mesh) : Type 0 where
  pub one : 1 ≤ m.cells
  pub few_cells : m.cells ≤ most_cells
  pub few_vertices : m.vertices ≤ most_vertices
  pub few_edges : m.edges ≤ most_edges
  pub kinds_long : length m.kinds ≡ m.cells
  pub each : (i : ℕ) → i < m.cells → (kind m i ≡ 3) ⊎ (kind m i ≡ 4)
  pub vertex_places : length m.cell_vertices ≡ before own m.kinds m.cells
  pub edge_places : length m.cell_edges ≡ before own m.kinds m.cells
  pub vertex_below : (k : ℕ) → k < length m.cell_vertices → get_or m.cell_vertices k 0 < m.vertices
  pub edge_below : (k : ℕ) → k < length m.cell_edges → get_or m.cell_edges k 0 < m.edges
  pub apart : (i : ℕ) → i < m.cells → distinct (corners m i) ≡ true
  pub rule : (i e j g : ℕ) → i < m.cells → e < kind m i → j < m.cells → g < kind m j → places_agree m i e j g ≡ true

pub fine : (m : Mesh) → refusal (mesh_checks m) ≡ 0 → Fine m
unfolding cells_right vertex_places vertices_right edges_right edge_rule
fine m h =
    let cells : cells_right m ≡ true = refusal_at (mesh_checks m) h refl 0 in
    let kinds : kinds_right m.cells m.kinds ≡ true = refusal_at (mesh_checks m) h refl 1 in
    let places : vertex_places m ≡ true = refusal_at (mesh_checks m) h refl 2 in
    let vertices : vertices_right m ≡ true = refusal_at (mesh_checks m) h refl 3 in
    let edges : edges_right m ≡ true = refusal_at (mesh_checks m) h refl 4 in
    record {
      one = within_low _ _ _ cells;
      few_cells = within_high _ _ _ cells;
      few_vertices = within_high _ _ _ (every_at _ vertices 0);
      few_edges = within_high _ _ _ (every_at _ edges 0);
      kinds_long = kinds_long_lem m.cells m.kinds kinds;
      each = kind_known m.cells m.kinds kinds;
      vertex_places = eqb-true _ _ places;
      edge_places = eqb-true _ _ (every_at _ edges 1);
      vertex_below = below_at _ _ (every_at _ vertices 1);
      edge_below = below_at _ _ (every_at _ edges 2);
      apart = all_at _ _ (every_at _ vertices 2);
      rule = λ i e j g hi he hj hg. all_at _ _ (all_at _ _ (all_at _ _ (all_at _ _ (every_at _ edges 3) i hi) e he) j hj) g hg;
    }

-- ---- the vertices of a cell differ, and so do its edges

pub vertices_differ : (xs : List ℕ) → distinct xs ≡ true → (p q : ℕ) → p < length xs → q < length xs → get_or xs p 0 ≡ get_or xs q 0 → p ≡ q
unfolding distinct
vertices_differ xs h p q lp lq e = ⊎_elim (λ l. absurd (apart p q l lq e)) (λ l. ⊎_elim (λ k. absurd (apart q p k lp (sym e))) (λ k. omega arith) (lt_or_le q p)) (lt_or_le p q)
  where
    apart : (p q : ℕ) → p < q → q < length xs → get_or xs p 0 ≡ get_or xs q 0 → ⊥
    apart p q l lq e =
        eqb-false _ _ (not-true _ (all_at q (λ p. not (eqb (get_or xs p 0) (get_or xs q 0))) (all_at (length xs) (λ q. all q (λ p. not (eqb (get_or xs p 0) (get_or xs q 0)))) h q lq) p l)) e

pub same_two_cases : (a b c d : ℕ) → same_two a b c d ≡ true → ((a ≡ c) × (b ≡ d)) ⊎ ((a ≡ d) × (b ≡ c))
unfolding same_two
same_two_cases a b c d h =
    ⊎_elim (λ e. inl (eqb-true a c (and_left (eqb a c) (eqb b d) e), eqb-true b d (and_right (eqb a c) (eqb b d) e)))
    (λ e. inr (eqb-true a d (and_left (eqb a d) (eqb b c) e), eqb-true b c (and_right (eqb a d) (eqb b c) e)))
    (or_cases (eqb a c and eqb b d) (eqb a d and eqb b c) h)

pub same_two_of : (a b c d : ℕ) → ((a ≡ c) × (b ≡ d)) ⊎ ((a ≡ d) × (b ≡ c)) → same_two a b c d ≡ true
unfolding same_two
same_two_of a b c d h =
    ⊎_elim (λ w. or_left _ _ (and_both _ _ (eq-eqb a c w.0) (eq-eqb b d w.1))) (λ w. or_right _ _ (and_both _ _ (eq-eqb a d w.0) (eq-eqb b c w.1))) h

-- the ends of a local edge are places of its cell, and no other edge has the same two: computed for both kinds
ends_right : ℕ → ℕ → Bool
ends_right n p = ltb (ends_of n p).first n and ltb (ends_of n p).second n

ends_apart : ℕ → ℕ → ℕ → Bool
ends_apart n p q = not (same_two (ends_of n p).first (ends_of n p).second (ends_of n q).first (ends_of n q).second) or eqb p q

ends_computed : (all 3 (λ p. ends_right 3 p and all 3 (λ q. ends_apart 3 p q)) ≡ true) × (all 4 (λ p. ends_right 4 p and all 4 (λ q. ends_apart 4 p q)) ≡ true)
unfolding all ◌and◌ ◌or◌ same_two ends_right ends_apart
ends_computed = (refl, refl)

module _ (n : ℕ) (h : (n ≡ 3) ⊎ (n ≡ 4)) (p : ℕ) (lp : p < n) where
  ends_all : ends_right n p and all n (λ q. ends_apart n p q) ≡ true
  ends_all =
      ⊎_elim (λ e. rw e (all_at 3 _ ends_computed.0 p (omega arith))) (λ e. rw e (all_at 4 _ ends_computed.1 p (omega arith))) h

  pub first_below : (ends_of n p).first < n
  unfolding ends_right
  first_below = ltb-true _ _ (and_left _ _ (and_left _ _ ends_all))

  pub second_below : (ends_of n p).second < n
  unfolding ends_right
  second_below = ltb-true _ _ (and_right (ltb (ends_of n p).first n) _ (and_left _ _ ends_all))

  pub ends_differ : (q : ℕ) → q < n → same_two (ends_of n p).first (ends_of n p).second (ends_of n q).first (ends_of n q).second ≡ true → p ≡ q
  unfolding ends_apart
  ends_differ q lq e =
      ⊎_elim (λ t. absurd (true≢false (sym e ∙ not-true _ t))) (λ t. eqb-true p q t)
      (or_cases _ _ (all_at n (λ q. ends_apart n p q) (and_right (ends_right n p) _ ends_all) q lq))

module _ (m : Mesh) (h : Fine m) (i : ℕ) (l : i < m.cells) where
  -- a cell has as many vertices and edges as its kind says
  pub corners_length : length (corners m i) ≡ kind m i
  unfolding corners
  corners_length = length_part own m.kinds m.cell_vertices m.cells i h.vertex_places l

  pub sides_length : length (sides m i) ≡ kind m i
  unfolding sides
  sides_length = length_part own m.kinds m.cell_edges m.cells i h.edge_places l

  same_place : (x y : ℕ) → x < kind m i → y < kind m i → get_or (corners m i) x 0 ≡ get_or (corners m i) y 0 → x ≡ y
  same_place x y lx ly = vertices_differ (corners m i) (h.apart i l) x y (omega (arith, corners_length)) (omega (arith, corners_length))

  pub edges_differ : (p q : ℕ) → p < kind m i → q < kind m i → get_or (sides m i) p 0 ≡ get_or (sides m i) q 0 → p ≡ q
  unfolding places_agree
  edges_differ p q lp lq e =
      let n : ℕ = kind m i in
      let ends : same_two (first_vertex m i p) (second_vertex m i p) (first_vertex m i q) (second_vertex m i q) ≡ true =
      sym (iff_sides _ _ (h.rule i p i q l lp l lq)) ∙ eq-eqb _ _ e in
      let first : (p : ℕ) → p < n → (ends_of n p).first < n = λ p lp. first_below n (h.each i l) p lp in
      let second : (p : ℕ) → p < n → (ends_of n p).second < n = λ p lp. second_below n (h.each i l) p lp in
      ends_differ n (h.each i l) p lp q lq
      (same_two_of _ _ _ _
      (⊎_elim
      (λ w. inl (same_place _ _ (first p lp) (first q lq) w.0, same_place _ _ (second p lp) (second q lq) w.1))
      (λ w. inr (same_place _ _ (first p lp) (second q lq) w.0, same_place _ _ (second p lp) (first q lq) w.1))
      (same_two_cases _ _ _ _ ends)))

-- the lists of a mesh that the checks pass have their shape
module _ (m : Mesh) (h : Fine m) where
  pub vertices_shaped : Shaped m.kinds m.cell_vertices
  vertices_shaped =
      record {
        few = omega (arith, h.kinds_long, h.few_cells);
        kinds = λ i l. h.each i (omega (arith, h.kinds_long));
        long = h.vertex_places ∙ ap (before own m.kinds) (sym h.kinds_long);
      }

  pub edges_shaped : Shaped m.kinds m.cell_edges
  edges_shaped =
      record {
        few = omega (arith, h.kinds_long, h.few_cells);
        kinds = λ i l. h.each i (omega (arith, h.kinds_long));
        long = h.edge_places ∙ ap (before own m.kinds) (sym h.kinds_long);
      }
