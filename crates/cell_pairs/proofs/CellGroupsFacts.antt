-- Laws of the cells by kind and colour, and by vertex: each cell stands under one kind and one colour, and the touching pairs at a vertex are pairs of
-- its cells. Assumes nothing.
use Prim.Native.Nat.{ℕ, zero, suc, ◌<◌}
use Rattle.std.proofs.Common.{not-suc-le-zero, le_of_suc-le-suc, arith, subst, ◌∙◌, eqb-true}
use Rattle.std.specs.Prelude.{◌≡◌, length, get_or}
use Rattle.std.proofs.Math.Path.{refl, sym}
use Rattle.std.proofs.Math.Bool.{Bool, true, false}
use mathlib.Core.List.{List, [], ◌∷◌, flat_map}
use Rattle.std.proofs.Math.Dec.{eqb}
use Rattle.lists.specs.Bool.{◌and◌, true≢false, and_left}
use Rattle.lists.specs.Range.{range, filter, flat_map_ext, flat_map_nil, flat_map_below, flat_map_filter}
use Rattle.lists.specs.Total.{total, gate, total_filter, total_ext, total_below, total_swap, total_inward, gate_and, pick}
use Rattle.grid.specs.Cells.{has}
use Rattle.grid.specs.Mesh.{Mesh, kind, kinds_present, corners}
use Rattle.grid.specs.KindsFacts.{Kinded, kind_present, kind_once}
use Rattle.function.specs.Colours.{colour_count}
use Rattle.cell_pairs.specs.Patterns.{pair_pattern, pair_vertex}
use Rattle.cell_pairs.specs.WorkList.{coloured, touching_pair, touching_pattern}
use Rattle.cell_pairs.specs.SharedVertices.{smallest_test, smallest_trial}
use Rattle.cell_pairs.specs.CellGroups.{at_vertex}

-- ---- by kind and colour

-- each colour is below the number of colours
pub colour_below : (cs : List ℕ) (i : ℕ) → i < length cs → get_or cs i 0 < colour_count cs
unfolding colour_count
colour_below [] i h = absurd (not-suc-le-zero h)
colour_below (c ∷ cs) zero h = omega arith
colour_below (c ∷ cs) (suc i) h = omega (arith, colour_below cs i (le_of_suc-le-suc h))

-- to go through the cells of every kind present and every colour is to go through all cells
pub total_coloured : (g : ℕ → ℕ) (m : Mesh) (cs : List ℕ) → Kinded m.cells m.kinds → length cs ≡ m.cells
    → total (λ n. total (λ c. total g (coloured m cs n c)) (range (colour_count cs))) (kinds_present m.kinds) ≡ total g (range m.cells)
unfolding coloured
total_coloured g m cs h e =
    let R = range m.cells in
    let colours = range (colour_count cs) in
    let present = kinds_present m.kinds in
    let coloured_at : ℕ → ℕ → ℕ = λ c i. gate (eqb (get_or cs i 0) c) (g i) in
    total_ext _ _ (λ n. total_ext _ _ (λ c. total_filter g (λ i. eqb (kind m i) n and eqb (get_or cs i 0) c) R) colours) present
    ∙ total_inward (λ n c i. gate (eqb (kind m i) n and eqb (get_or cs i 0) c) (g i)) present colours R
    ∙ total_ext _ _ (λ c. total_below _ (coloured_at c) m.cells (λ i l. one_kind c i l)) colours
    ∙ total_swap coloured_at colours R
    ∙ total_below _ g m.cells (λ i l. pick (get_or cs i 0) (colour_count cs) (λ _. g i) (colour_below cs i (omega arith)))
  where
    -- a cell counts at its own kind alone
    one_kind : (c i : ℕ) → i < m.cells
        → total (λ n. gate (eqb (kind m i) n and eqb (get_or cs i 0) c) (g i)) (kinds_present m.kinds) ≡ gate (eqb (get_or cs i 0) c) (g i)
    one_kind c i l =
        total_ext _ _ (λ n. gate_and (eqb (kind m i) n) (eqb (get_or cs i 0) c) (g i)) (kinds_present m.kinds)
        ∙ kind_once m.kinds (kind m i) (gate (eqb (get_or cs i 0) c) (g i)) (h.each i l) (kind_present m.kinds (kind m i) i (omega (arith, h.long)) refl)

-- ---- touching pairs, by vertex

module _ (m : Mesh) (p v : ℕ) (l : v < m.vertices) where
  -- a pair has a record at its smallest shared vertex alone
  at_smallest : (i j : ℕ) → (pair_vertex m i j ≡ v → ⊥) → touching_pair m p v i j ≡ []
  unfolding touching_pair
  at_smallest i j h = go (eqb (pair_vertex m i j) v and eqb (pair_pattern m i j) p) refl
    where
      go : (b : Bool) → eqb (pair_vertex m i j) v and eqb (pair_pattern m i j) p ≡ b → touching_pair m p v i j ≡ []
      go true e = absurd (h (eqb-true _ _ (and_left _ _ e)))
      go false e = rw e

  -- so none at a vertex that its test cell, or its trial cell, has not
  not_test : (i j : ℕ) → has (corners m i) v ≡ false → touching_pair m p v i j ≡ []
  not_test i j f =
      at_smallest i j
      (λ e. true≢false (sym (subst (λ (x : ℕ). has (corners m i) x ≡ true) e (smallest_test m.vertices (corners m i) (corners m j) (omega arith))) ∙ f))

  not_trial : (i j : ℕ) → has (corners m j) v ≡ false → touching_pair m p v i j ≡ []
  not_trial i j f =
      at_smallest i j
      (λ e. true≢false (sym (subst (λ (x : ℕ). has (corners m j) x ≡ true) e (smallest_trial m.vertices (corners m i) (corners m j) (omega arith))) ∙ f))

  -- and the cells of the vertex yield what all cells would
  vertex_all : flat_map (λ i. flat_map (λ j. touching_pair m p v i j) (range m.cells)) (range m.cells)
      ≡ flat_map (λ i. flat_map (λ j. touching_pair m p v i j) (at_vertex m v)) (at_vertex m v)
  unfolding at_vertex
  vertex_all =
      let R = range m.cells in
      let test : ℕ → Bool = λ i. has (corners m i) v in
      sym
      (flat_map_ext _ _ (λ i. flat_map_filter (λ j. touching_pair m p v i j) test (λ j e. not_trial i j e) R) (filter test R)
      ∙ flat_map_filter (λ i. flat_map (λ j. touching_pair m p v i j) R) test (λ i e. flat_map_nil _ (λ j. not_test i j e) R) R)

-- the touching pairs of pattern p, with the cells of each vertex in place of all cells
pub pattern_by_vertex : (m : Mesh) (p : ℕ)
    → touching_pattern m p ≡ flat_map (λ v. flat_map (λ i. flat_map (λ j. touching_pair m p v i j) (at_vertex m v)) (at_vertex m v)) (range m.vertices)
unfolding touching_pattern
pattern_by_vertex m p = flat_map_below _ _ m.vertices (λ v l. vertex_all m p v l)
