-- Laws of the mesh of some rows: its cells are those in the rows; what the counting theorem asks of it; and where the rows are those of a mesh, the
-- touching part and the touching pairs per two kinds are that mesh's. Assumes nothing.
use Rattle.std.specs.Prelude.{ℕ, suc, zero, ◌+◌, ◌*◌, ◌<◌, ◌≤◌, ◌≡◌, refl, ◌⊎◌, Bool, false, not, cond, get_or, take, drop, eqb, ltb}
use Rattle.std.proofs.Common.{add-one, arith, ap₂, ◌∙◌, inl, inr, take_all, take-add}
use Rattle.std.proofs.Math.Path.{sym, ap, subst}
use Rattle.std.proofs.Math.Logic.{⊎_elim}
use Rattle.std.proofs.Math.Bool.{true}
use mathlib.Core.List.{List, [], ◌++◌, flat_map, map}
use Rattle.std.proofs.Math.ListN.{length, length-map}
use Rattle.std.proofs.Math.Seq.{take-append_seam, drop-append_seam}
use borrow.Author.Tests.{ltb-true, not-true}
use Rattle.lists.specs.Bool.{true≢false, or_cases}
use Rattle.lists.specs.Bounded.{all, all_at, all_of}
use Rattle.lists.specs.Range.{range, length_range, range_split, flat_map_none, flat_map_range, flat_map_below, map_at, map_below, map_places, AllIn, all_in_below, all_in_at, all_in_places}
use Rattle.grid.specs.Cells.{before, part, own, share, distinct}
use Rattle.grid.specs.CellsFacts.{Shaped, shaped_length, length_cells, part_each}
use Rattle.grid.specs.Mesh.{Mesh, kind, corners}
use Rattle.grid.specs.Rows.{rows_of, entity, cell_in}
use Rattle.grid.specs.RowsFacts.{Padded, cell_length, cell_most, cell_entity, cell_number, length_rows, cell_rows, rows_padded, rows_below}
use Rattle.cell_pairs.specs.Records.{pattern_count}
use Rattle.cell_pairs.specs.WorkList.{touching_pair, touching_pattern, touching_part, sharing_of}
use Rattle.cell_pairs.specs.Counting.{Patterned}
use Rattle.cell_patterns.specs.Flat.{distinct_in, pattern_in, pair_right, patterns_in}
use Rattle.cells_by_key.specs.Groups.{Below}
use Rattle.touching_pairs.specs.Visits.{bare, Touchable}

-- the numbers of cell i of a list that is made cell by cell
part_cells : (ks : List ℕ) (f : ℕ → List ℕ) (C i : ℕ) → ((j : ℕ) → j < C → length (f j) ≡ get_or ks j 0) → i < C → part own ks (flat_map f (range C)) i ≡ f i
unfolding part
part_cells ks f C i h l =
    let cut = range_split f i C l in
    let front : length (flat_map f (range i)) ≡ before own ks i = length_cells own ks f i (λ j lj. h j (omega arith)) in
    ap₂ (λ (n m : ℕ). take n (drop m (flat_map f (range C)))) (sym (h i l)) (sym front)
    ∙ ap (λ (r : List ℕ). take (length (f i)) (drop (length (flat_map f (range i))) r)) cut.1
    ∙ ap (take (length (f i))) (drop-append_seam (flat_map f (range i)) (f i ++ cut.0))
    ∙ take-append_seam (f i) cut.0

module _ (C top : ℕ) (rows : List ℕ) where
  pub bare_kind : (i : ℕ) → i < C → kind (bare C top rows) i ≡ length (cell_in top rows i)
  bare_kind i h = map_at (λ i. length (cell_in top rows i)) 0 C i h

  pub bare_corners : (i : ℕ) → i < C → corners (bare C top rows) i ≡ cell_in top rows i
  unfolding corners
  bare_corners i h = part_cells (bare C top rows).kinds (cell_in top rows) C i (λ j l. sym (bare_kind j l)) h

module _ (C : ℕ) {top : ℕ} {rows : List ℕ} (t : Touchable top rows) (size : length rows ≡ 4 * C) where
  kind_cases : (i : ℕ) → (length (cell_in top rows i) ≡ 3) ⊎ (length (cell_in top rows i) ≡ 4)
  kind_cases i = rw (cell_length top rows i) (go (eqb (entity rows i 3) top))
    where
      go : (b : Bool) → (cond {A = ℕ} b 3 4 ≡ 3) ⊎ (cond {A = ℕ} b 3 4 ≡ 4)
      go true = inl refl
      go false = inr refl

  -- a number of a cell is a vertex
  number_below : (i p : ℕ) → i < C → p < length (cell_in top rows i) → get_or (cell_in top rows i) p 0 < top
  number_below i p h l =
      let here : 4 * i + 4 ≤ length rows = omega (arith, size) in
      let low : entity rows i p < top + 1 = t.below.below (4 * i + p) (omega (arith, here, cell_most top rows i)) in
      let other : entity rows i p ≡ top → ⊥ = cell_number t.padded i here p l in
      subst (λ (x : ℕ). x < top) (sym (cell_entity top rows i p l)) (go (entity rows i p) low other)
    where
      go : (x : ℕ) → x < top + 1 → (x ≡ top → ⊥) → x < top
      go x low other = omega (arith, other)

  numbers_below : AllIn (λ x. x < top) (bare C top rows).cell_vertices
  numbers_below = all_in_below (λ x. x < top) (cell_in top rows) C (λ i h. all_in_places (λ x. x < top) (cell_in top rows i) 0 (λ p l. number_below i p h l))

  same_cells : t.cells ≡ C
  same_cells = omega (arith, size, t.size)

  -- a pair that shares a vertex has a pattern of the table
  pub pattern_known : (i j : ℕ) → i < C → j < C → share (cell_in top rows i) (cell_in top rows j) ≡ true → pattern_in top rows i j < pattern_count
  unfolding patterns_in
  pattern_known i j hi hj s =
      let e : all C (λ i. all C (λ j. pair_right top rows i j)) ≡ true = subst (λ (n : ℕ). all n (λ i. all n (λ j. pair_right top rows i j)) ≡ true) same_cells t.patterns in
      let r : pair_right top rows i j ≡ true = all_at C (λ j. pair_right top rows i j) (all_at C (λ i. all C (λ j. pair_right top rows i j)) e i hi) j hj in
      ⊎_elim (λ n. absurd (true≢false (sym s ∙ not-true _ n))) (λ l. ltb-true _ _ l) (or_cases (not (share (cell_in top rows i) (cell_in top rows j))) (ltb (pattern_in top rows i j) pattern_count) r)

  -- the counting theorem holds of it
  pub bare_patterned : Patterned (bare C top rows)
  unfolding corners
  bare_patterned =
      record {
        kinds = record {
          long = length-map (range C) _ ∙ length_range C;
          each = λ i h. subst (λ (k : ℕ). (k ≡ 3) ⊎ (k ≡ 4)) (sym (bare_kind C top rows i h)) (kind_cases i);
        };
        long = λ i h. ap length (bare_corners C top rows i h) ∙ sym (bare_kind C top rows i h);
        vertices = part_each (λ x. x < top) own (bare C top rows).kinds (bare C top rows).cell_vertices (all_in_at (λ x. x < top) (bare C top rows).cell_vertices numbers_below 0);
        patterns = λ i j hi hj. rw (bare_corners C top rows i hi, bare_corners C top rows j hj) (pattern_known i j hi hj);
      }

-- ---- the rows of a mesh

-- the numbers of the cells, one cell after the other, are the list that they are cut from
parts_join : (ks l : List ℕ) (n : ℕ) → flat_map (part own ks l) (range n) ≡ take (before own ks n) l
unfolding part before
parts_join ks l zero = flat_map_none _
parts_join ks l (suc n) =
    ap (λ (k : ℕ). flat_map (part own ks l) (range k)) (sym (add-one n))
    ∙ flat_map_range (part own ks l) n
    ∙ ap (λ (xs : List ℕ). xs ++ part own ks l n) (parts_join ks l n)
    ∙ sym (take-add (before own ks n) (get_or ks n 0) l)

-- what the touching part reads of a mesh
abbrev pub seen : Mesh → Mesh
seen m = record { cells = m.cells; vertices = m.vertices; edges = 0; kinds = m.kinds; cell_vertices = m.cell_vertices; cell_edges = [] }

module _ (m : Mesh) (s : Shaped m.kinds m.cell_vertices) (long : length m.kinds ≡ m.cells)
    (below : (k : ℕ) → k < length m.cell_vertices → get_or m.cell_vertices k 0 < m.vertices) where
  abbrev pub mesh_rows : List ℕ
  mesh_rows = rows_of m.vertices m.kinds m.cell_vertices m.cells

  cells_in : (i : ℕ) → i < m.cells → cell_in m.vertices mesh_rows i ≡ part own m.kinds m.cell_vertices i
  cells_in i h =
      subst (λ (n : ℕ). cell_in m.vertices (rows_of m.vertices m.kinds m.cell_vertices n) i ≡ part own m.kinds m.cell_vertices i) long
      (cell_rows m.vertices s below i (omega (arith, long)))

  -- the mesh of its rows is the mesh
  pub bare_rows : bare m.cells m.vertices mesh_rows ≡ seen m
  bare_rows = ap₂ (λ (ks l : List ℕ). record { cells = m.cells; vertices = m.vertices; edges = 0; kinds = ks; cell_vertices = l; cell_edges = [] }) kinds_are list_is
    where
      kinds_are : map (λ i. length (cell_in m.vertices mesh_rows i)) (range m.cells) ≡ m.kinds
      kinds_are =
          map_below _ (λ i. get_or m.kinds i 0) m.cells (λ i h. ap length (cells_in i h) ∙ shaped_length s i (omega (arith, long)))
          ∙ ap (λ (n : ℕ). map (λ i. get_or m.kinds i 0) (range n)) (sym long)
          ∙ map_places m.kinds 0

      list_is : flat_map (cell_in m.vertices mesh_rows) (range m.cells) ≡ m.cell_vertices
      list_is =
          flat_map_below _ _ m.cells cells_in
          ∙ parts_join m.kinds m.cell_vertices m.cells
          ∙ take_all (before own m.kinds m.cells) m.cell_vertices (omega (arith, s.long, ap (before own m.kinds) long))

  -- so are its touching part, and the touching pairs of two kinds
  pub touching_rows : touching_part (bare m.cells m.vertices mesh_rows) ≡ touching_part m
  unfolding touching_part touching_pattern touching_pair corners
  touching_rows = ap touching_part bare_rows

  pub sharing_rows : (n k : ℕ) → sharing_of (bare m.cells m.vertices mesh_rows) n k ≡ sharing_of m n k
  unfolding sharing_of corners
  sharing_rows n k = ap (λ (x : Mesh). sharing_of x n k) bare_rows

  -- past checks 1, 26, 2 and 7 it is touchable
  pub touchable_rows : ((i : ℕ) → i < m.cells → distinct (corners m i) ≡ true) → patterns_in m.vertices m.cells mesh_rows ≡ true → Touchable m.vertices mesh_rows
  unfolding corners
  touchable_rows apart patterns =
      record {
        cells = m.cells;
        size = subst (λ (n : ℕ). length (rows_of m.vertices m.kinds m.cell_vertices n) ≡ 4 * n) long (length_rows m.vertices s);
        padded = subst (λ (n : ℕ). Padded m.vertices (rows_of m.vertices m.kinds m.cell_vertices n)) long (rows_padded m.vertices s below);
        below = subst (λ (n : ℕ). Below (rows_of m.vertices m.kinds m.cell_vertices n) (m.vertices + 1)) long (record { below = rows_below m.vertices s below });
        apart = all_of m.cells (λ i. distinct_in m.vertices mesh_rows i) (λ i h. subst (λ (xs : List ℕ). distinct xs ≡ true) (sym (cells_in i h)) (apart i h));
        patterns = patterns;
      }
