-- The proofs to `specs/ByCell.antt`. Assumes nothing.
use Prim.Native.Nat.{ℕ, zero, suc, ◌+◌, ◌*◌, ◌-◌, ◌<◌, ◌≤◌}
use Rattle.std.proofs.Common.{zero-mul, suc-mul, le_refl, not-suc-le-zero, add-one, ap₂, ◌∙◌, ⊎_elim, lt-ltb, le-ltb}
use Rattle.std.proofs.Math.Nat.{add-zero}
use native.Mathlib.Omega.{arith}
use Rattle.std.specs.Prelude.{cond, ◌≡◌, List, [], ◌∷◌, ◌++◌, get_or, eqb}
use Rattle.std.proofs.Math.Path.{refl, sym, ap}
use Rattle.std.proofs.Math.ListN.{length, length-append, get_or-append}
use Rattle.std.proofs.lemmas.List.{length-map}
use Rattle.std.proofs.Math.Seq.{get_or-append-add}
use Rattle.lists.specs.Bounded.{lt_or_le}
use Rattle.lists.specs.Range.{flat_map_range, flat_map_none}
use Rattle.grid.specs.Cells.{before, own}
use Rattle.grid.specs.CellsFacts.{part_inside, before_which, length_part, length_cells, cells_at}
use Rattle.function.specs.declared.Element.{Element}
use Rattle.function.specs.Elements.{dim_of, cell_dim, Space}
use Rattle.dof_numbering.specs.Numbering.{Visit, visit, visit_each, element_on, corners, sides, cell_visits, visits_of, visits, visit_at, dimension_of, entity_of, dofs_on, dofs_to, kind, visits_in, visit_of, on_place, dofs_before, dof_place}
use Rattle.dof_numbering.proofs.Facts.{Even, same_dimension, same_number, length_next}
use Rattle.dof_numbering.specs.ByCell.{Filled, Matched}

-- ---- one more cell

pub visits_none : (s : Space) → visits s 0 ≡ []
unfolding visits
visits_none s = flat_map_none (cell_visits s)

pub visits_more : (s : Space) (i : ℕ) → visits s (i + 1) ≡ visits s i ++ cell_visits s i
unfolding visits
visits_more s i = flat_map_range (cell_visits s) i

-- ---- visits of entities of one dimension

pub length_each : (d m : ℕ) (xs : List ℕ) → length (visit_each d m xs) ≡ length xs
length_each d m xs = length-map xs (λ x. visit d x m)

pub get_d_each : (d m : ℕ) (xs : List ℕ) (p : ℕ) → p < length xs → visit_at (visit_each d m xs) p ≡ visit d (get_or xs p 0) m
get_d_each d m (x ∷ xs) zero h = refl
get_d_each d m (x ∷ xs) (suc p) h = get_d_each d m xs p (omega arith)
get_d_each d m [] p h = absurd (not-suc-le-zero h)

-- ---- how many DOFs of a cell stand before a place

before_vertex : (e : Element) (n p : ℕ) → p ≤ n → dofs_before e n p ≡ p * e.a
unfolding dofs_before
before_vertex e n zero h = sym (zero-mul e.a)
before_vertex e n (suc p) h = rw (lt-ltb p n h, before_vertex e n p (omega arith)) (sym (suc-mul p e.a))

before_edge : (e : Element) (n p : ℕ) → p ≤ n → dofs_before e n (n + p) ≡ n * e.a + p * e.b
unfolding dofs_before
before_edge e n zero h = ap (λ (k : ℕ). dofs_before e n k) (add-zero n) ∙ before_vertex e n n (le_refl n) ∙ sym (ap (λ (k : ℕ). n * e.a + k) (zero-mul e.b) ∙ add-zero (n * e.a))
before_edge e n (suc p) h =
    let l : n ≤ n + p = omega arith in
    let m : n + p < n + n = omega arith in
    let q : n + suc p ≡ suc (n + p) = omega arith in
    rw (q, le-ltb (n + p) n l, lt-ltb (n + p) (n + n) m) (omega (arith, before_edge e n p (omega arith), suc-mul p e.b))

-- all of them
pub before_all : (e : Element) (n : ℕ) → dofs_before e n (visits_in n) ≡ dim_of e n
unfolding dofs_before dim_of
before_all e n =
    let q : n + n + 1 ≡ suc (n + n) = add-one (n + n) in
    let l : n ≤ n + n = omega arith in
    rw (q, le-ltb (n + n) n l, le-ltb (n + n) (n + n) (le_refl (n + n))) (ap (λ (k : ℕ). k + e.c) (before_edge e n n (le_refl n)))

-- ---- what each visit of a cell meets

-- place p of cell i is a vertex of it, an edge, or the interior
pub data Met (s : Space) (C i p : ℕ) : Type 0 where
  vertex : p < kind s i → visit_at (visits s C) (visit_of s i p) ≡ visit 0 (get_or (corners s i) p 0) (element_on s i).a → Met s C i p
  edge : (q : ℕ) → q < kind s i → p ≡ kind s i + q → visit_at (visits s C) (visit_of s i p) ≡ visit 1 (get_or (sides s i) q 0) (element_on s i).b → Met s C i p
  inside : p ≡ kind s i + kind s i → visit_at (visits s C) (visit_of s i p) ≡ visit 2 i (element_on s i).c → Met s C i p

module _ (s : Space) (C : ℕ) (h : Filled s C) where
  pub corners_length : (i : ℕ) → i < C → length (corners s i) ≡ kind s i
  corners_length i l = length_part own s.kinds s.cell_vertices C i h.vertices_long l

  pub sides_length : (i : ℕ) → i < C → length (sides s i) ≡ kind s i
  sides_length i l = length_part own s.kinds s.cell_edges C i h.edges_long l

  module _ (i : ℕ) (l : i < C) where
    abbrev at_vertices : List Visit
    at_vertices = visit_each 0 (element_on s i).a (corners s i)

    abbrev at_edges : List Visit
    at_edges = visit_each 1 (element_on s i).b (sides s i)

    abbrev within : List Visit
    within = visit 2 i (element_on s i).c ∷ []

    vertices_length : length at_vertices ≡ kind s i
    vertices_length = length_each 0 (element_on s i).a (corners s i) ∙ corners_length i l

    edges_length : length at_edges ≡ kind s i
    edges_length = length_each 1 (element_on s i).b (sides s i) ∙ sides_length i l

    both_length : length (at_vertices ++ at_edges) ≡ kind s i + kind s i
    both_length = length-append at_vertices at_edges ∙ ap₂ ◌+◌ vertices_length edges_length

    cell_edge : (p : ℕ) → p < kind s i → visit_at (cell_visits s i) (kind s i + p) ≡ visit 1 (get_or (sides s i) p 0) (element_on s i).b
    unfolding visits_of
    cell_edge p b =
        get_or-append (at_vertices ++ at_edges) within (visit 0 0 0) (kind s i + p) (omega (arith, both_length))
        ∙ ap (λ (n : ℕ). visit_at (at_vertices ++ at_edges) (n + p)) (sym vertices_length)
        ∙ get_or-append-add at_vertices at_edges p (visit 0 0 0)
        ∙ get_d_each 1 (element_on s i).b (sides s i) p (omega (arith, sides_length i l))

    cell_inside : visit_at (cell_visits s i) (kind s i + kind s i) ≡ visit 2 i (element_on s i).c
    unfolding visits_of
    cell_inside =
        ap (λ (n : ℕ). visit_at ((at_vertices ++ at_edges) ++ within) n) (sym (add-zero _ ∙ both_length))
        ∙ get_or-append-add (at_vertices ++ at_edges) within 0 (visit 0 0 0)

    cell_vertex : (p : ℕ) → p < kind s i → visit_at (cell_visits s i) p ≡ visit 0 (get_or (corners s i) p 0) (element_on s i).a
    unfolding visits_of
    cell_vertex p b =
        get_or-append (at_vertices ++ at_edges) within (visit 0 0 0) p (omega (arith, both_length))
        ∙ get_or-append at_vertices at_edges (visit 0 0 0) p (omega (arith, vertices_length))
        ∙ get_d_each 0 (element_on s i).a (corners s i) p (omega (arith, corners_length i l))

    cell_visits_holds : length (cell_visits s i) ≡ visits_in (kind s i)
    unfolding visits_of
    cell_visits_holds = length-append (at_vertices ++ at_edges) within ∙ ap (λ (n : ℕ). n + 1) both_length

  pub length_visits : length (visits s C) ≡ before visits_in s.kinds C
  unfolding visits
  length_visits = length_cells visits_in s.kinds (cell_visits s) C cell_visits_holds

  visit_at_holds : (i p : ℕ) → i < C → p < visits_in (kind s i) → visit_at (visits s C) (visit_of s i p) ≡ visit_at (cell_visits s i) p
  unfolding visits
  visit_at_holds i p l b = cells_at visits_in s.kinds (cell_visits s) C i p (visit 0 0 0) cell_visits_holds l b

  -- places below n are its vertices, then n edges, then the interior
  pub visit_vertex : (i p : ℕ) → i < C → p < kind s i
      → visit_at (visits s C) (visit_of s i p) ≡ visit 0 (get_or (corners s i) p 0) (element_on s i).a
  visit_vertex i p l b = visit_at_holds i p l (omega arith) ∙ cell_vertex i l p b

  pub visit_edge : (i p : ℕ) → i < C → p < kind s i
      → visit_at (visits s C) (visit_of s i (kind s i + p)) ≡ visit 1 (get_or (sides s i) p 0) (element_on s i).b
  visit_edge i p l b = visit_at_holds i (kind s i + p) l (omega arith) ∙ cell_edge i l p b

  pub visit_inside : (i : ℕ) → i < C → visit_at (visits s C) (visit_of s i (kind s i + kind s i)) ≡ visit 2 i (element_on s i).c
  visit_inside i l = visit_at_holds i (kind s i + kind s i) l (omega arith) ∙ cell_inside i l

  pub met : (i p : ℕ) → i < C → p < visits_in (kind s i) → Met s C i p
  met i p l b =
      ⊎_elim (λ a. vertex a (visit_vertex i p l a))
      (λ a. ⊎_elim (λ m. let e : p ≡ kind s i + (p - kind s i) = omega arith in
      edge (p - kind s i) (omega arith) e (ap (λ (k : ℕ). visit_at (visits s C) (visit_of s i k)) e ∙ visit_edge i (p - kind s i) l (omega arith)))
      (λ m. let e : p ≡ kind s i + kind s i = omega arith in
      inside e (ap (λ (k : ℕ). visit_at (visits s C) (visit_of s i k)) e ∙ visit_inside i l))
      (lt_or_le p (kind s i + kind s i)))
      (lt_or_le p (kind s i))

  -- place p of a cell is one of the visits
  pub visit_below : (i p : ℕ) → i < C → p < visits_in (kind s i) → visit_of s i p < length (visits s C)
  visit_below i p l b = omega (arith, length_visits, part_inside visits_in s.kinds C i l)

  -- ---- where its DOFs stand in the DOF list

  place_dofs : (i p : ℕ) → i < C → p < visits_in (kind s i) → dofs_on (visits s C) (visit_of s i p) ≡ on_place (element_on s i) (kind s i) p
  place_dofs i p l b = go (met i p l b)
    where
      n : ℕ
      n = kind s i

      go : Met s C i p → dofs_on (visits s C) (visit_of s i p) ≡ on_place (element_on s i) n p
      go (vertex v e) = ap (λ (v : Visit). v.dofs) e ∙ rw (lt-ltb p n v)
      go (edge q v f e) =
          let a : n ≤ p = omega arith in
          let z : p < n + n = omega arith in
          ap (λ (v : Visit). v.dofs) e ∙ rw (le-ltb p n a, lt-ltb p (n + n) z)
      go (inside f e) =
          let a : n ≤ p = omega arith in
          let z : n + n ≤ p = omega arith in
          ap (λ (v : Visit). v.dofs) e ∙ rw (le-ltb p n a, le-ltb p (n + n) z)

  -- those of place p of cell i, where those of the cells before it are known
  from_start : (i p : ℕ) → i < C → p ≤ visits_in (kind s i) → length (dofs_to (visits s C) (visit_of s i 0)) ≡ before (cell_dim s.elements) s.kinds i
      → length (dofs_to (visits s C) (visit_of s i p)) ≡ dof_place s i p
  unfolding dofs_before
  from_start i zero l b e = e ∙ sym (add-zero _)
  from_start i (suc p) l b e =
      omega (
        arith,
        from_start i p l (omega arith) e,
        length_next (visits s C) (visit_of s i p) (visit_of s i (suc p)) (omega arith),
        place_dofs i p l b,
      )

  pub cells_start : (i : ℕ) → i ≤ C → length (dofs_to (visits s C) (visit_of s i 0)) ≡ before (cell_dim s.elements) s.kinds i
  unfolding before dofs_to
  cells_start zero l = refl
  cells_start (suc i) l =
      let e : visit_of s (suc i) 0 ≡ visit_of s i (visits_in (kind s i)) = add-zero _ in
      ap (λ (k : ℕ). length (dofs_to (visits s C) k)) e
      ∙ from_start i (visits_in (kind s i)) l (le_refl _) (cells_start i (omega arith))
      ∙ ap (λ (k : ℕ). before (cell_dim s.elements) s.kinds i + k) (before_all (element_on s i) (kind s i))

  pub length_place : (i p : ℕ) → i < C → p ≤ visits_in (kind s i) → length (dofs_to (visits s C) (visit_of s i p)) ≡ dof_place s i p
  length_place i p l b = from_start i p l b (cells_start i (omega arith))

  pub length_dofs : length (dofs_to (visits s C) (length (visits s C))) ≡ before (cell_dim s.elements) s.kinds C
  length_dofs = ap (λ (k : ℕ). length (dofs_to (visits s C) k)) (length_visits ∙ sym (add-zero _)) ∙ cells_start C (le_refl C)

  -- each visit is one of a cell
  pub visit_which : (k : ℕ) → k < length (visits s C) → (i : ℕ) × (p : ℕ) × (i < C) × (p < visits_in (kind s i)) × (k ≡ visit_of s i p)
  visit_which k b = before_which visits_in s.kinds C k (omega (arith, length_visits))

  -- ---- how many DOFs are on an entity goes by its dimension, and inside a cell by the cell

  module _ (m : Matched s C) where
    abbrev on_entity : ℕ → ℕ → ℕ
    on_entity d x = cond (eqb d 0) (element_on s 0).a (cond (eqb d 1) (element_on s 0).b (element_on s x).c)

    dofs_by_entity : (k : ℕ) → k < length (visits s C) → dofs_on (visits s C) k ≡ on_entity (dimension_of (visits s C) k) (entity_of (visits s C) k)
    dofs_by_entity k b =
        let r : (i : ℕ) × (p : ℕ) × (i < C) × (p < visits_in (kind s i)) × (k ≡ visit_of s i p) = visit_which k b in
        go r.0 r.1 r.2 r.4 (met r.0 r.1 r.2 r.3)
      where
        by : (j : ℕ) (v : Visit) → k ≡ j → visit_at (visits s C) j ≡ v → v.dofs ≡ on_entity v.dimension v.entity
            → dofs_on (visits s C) k ≡ on_entity (dimension_of (visits s C) k) (entity_of (visits s C) k)
        by j v f e h =
            let g : visit_at (visits s C) k ≡ v = ap (visit_at (visits s C)) f ∙ e in
            ap (λ (v : Visit). v.dofs) g ∙ h ∙ sym (ap (λ (v : Visit). on_entity v.dimension v.entity) g)

        go : (i p : ℕ) → i < C → k ≡ visit_of s i p → Met s C i p → dofs_on (visits s C) k ≡ on_entity (dimension_of (visits s C) k) (entity_of (visits s C) k)
        go i p l f (vertex v e) = by _ _ f e (m.vertices i 0 l (omega arith))
        go i p l f (edge q v g e) = by _ _ f e (m.edges i 0 l (omega arith))
        go i p l f (inside g e) = by _ _ f e refl

    pub even : Even (visits s C)
    even j k bj bk same =
        dofs_by_entity j bj
        ∙ ap₂ (λ (d x : ℕ). on_entity d x) (same_dimension (visits s C) j k same) (same_number (visits s C) j k same)
        ∙ sym (dofs_by_entity k bk)
