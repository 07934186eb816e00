-- What planning's checks come to. Assumes nothing.
use Rattle.std.specs.Prelude.{ℕ, ◌+◌, ◌*◌, ◌<◌, ◌≤◌, ◌≡◌, refl, Bool, true, List, [], ◌∷◌, length, eqb}
use Rattle.std.proofs.Common.{mul-le-mul, mul-le-mul_right, arith, sym, ap, subst, ◌∙◌}
use Rattle.lists.specs.Bool.{every, and_left, and_right}
use Rattle.lists.specs.Refusals.{check, refusal, Answers, answers, refusal_first, refusal_rest}
use Rattle.numbers.specs.Ranges.{within_high}
use Rattle.grid.specs.declared.Sizes.{Sizes}
use Rattle.grid.specs.Cells.{distinct}
use Rattle.grid.specs.CellsFacts.{before_most}
use Rattle.grid.specs.Rows.{rows_of, cell_in}
use Rattle.grid.specs.RowsFacts.{Padded, length_rows, cell_rows, rows_below, rows_padded}
use Rattle.grid.specs.Mesh.{most_cells, Mesh, mesh_with, corners, cells_of, mesh_checks}
use Rattle.grid.specs.Facts.{Fine, vertices_shaped}
use Rattle.grid.specs.KindsFacts.{Kinded, kinds_sum, before_cells}
use Rattle.cells_by_key.specs.Groups.{Below}
use Rattle.function.specs.declared.Elements.{Elements}
use Rattle.function.specs.Elements.{most_dim, cell_dim, elements_right, dims_right}
use Rattle.function.specs.ElementsFacts.{dim_within}
use Rattle.integrands.specs.Terms.{integrand_right}
use Rattle.cell_pairs.specs.Records.{width}
use Rattle.cell_pairs.specs.Patterns.{patterns_right}
use Rattle.cell_patterns.specs.Flat.{distinct_in, patterns_in}
use Rattle.cell_patterns.specs.PatternFacts.{mesh_patterns}
use Rattle.plans.specs.Planning.{Planning, Lists, places_on, elements_fit, batch_right, lengths_right, plan_refusal}

-- ---- check 8

-- of C cells that have so many places of DOFs on either side
unfoldable pub lengths_by : ℕ → ℕ → ℕ → Lists → Bool
lengths_by C rows columns l =
    every (eqb (length l.test_dofs) rows
    ∷ eqb (length l.trial_dofs) columns
    ∷ eqb (length l.test_colours) C
    ∷ eqb (length l.trial_colours) C
    ∷ eqb (length l.test_owners) (3 * rows)
    ∷ eqb (length l.trial_owners) (3 * columns)
    ∷ eqb (length l.work) (width * (C * C))
    ∷ [])

pub lengths_by_lem : (m : Mesh) (test trial : Elements) (l : Lists) {rows columns : ℕ} → rows ≡ places_on m test → columns ≡ places_on m trial
    → lengths_by m.cells rows columns l ≡ lengths_right m test trial l
unfolding lengths_by lengths_right
lengths_by_lem m test trial l r c = rw (r, c)

pub pairs_few : (C : ℕ) → C ≤ most_cells → C * C ≤ most_cells * most_cells
pairs_few C c = mul-le-mul c c

-- ---- the numbers of a mesh that checks 1 to 3 pass

pub fine_kinded : {m : Mesh} → Fine m → Kinded m.cells m.kinds
fine_kinded h = record { long = h.kinds_long; each = h.each }

pub vertices_below : {m : Mesh} → Fine m → Below m.cell_vertices m.vertices
vertices_below h = record { below = h.vertex_below }

pub edges_below : {m : Mesh} → Fine m → Below m.cell_edges m.edges
edges_below h = record { below = h.edge_below }

module _ (m : Mesh) (f : Fine m) where
  -- the cells of a kind are at most all
  pub kinds_few : (length m.kinds ≤ most_cells) × (cells_of m.kinds 3 ≤ most_cells) × (cells_of m.kinds 4 ≤ most_cells)
  kinds_few =
      let sum = kinds_sum m.cells m.kinds (fine_kinded f) in
      (omega (arith, f.kinds_long, f.few_cells), omega (arith, sum, f.few_cells), omega (arith, sum, f.few_cells))

  module _ (es : Elements) where
    pub places_are : cells_of m.kinds 3 * cell_dim es 3 + cells_of m.kinds 4 * cell_dim es 4 ≡ places_on m es
    places_are = sym (before_cells m.cells m.kinds (fine_kinded f) (cell_dim es))

    pub places_few : elements_right (cells_of m.kinds 3) (cells_of m.kinds 4) es ≡ true → places_on m es ≤ most_cells * most_dim
    places_few right =
        let each = before_most (cell_dim es) m.kinds most_dim m.cells (λ i h. within_high 1 most_dim _ (dim_within m.cells m.kinds (fine_kinded f) es right i h)) in
        omega (arith, each, mul-le-mul_right most_dim f.few_cells)

-- 4: both sides
pub both_right : (t q : ℕ) (test trial : Elements) → dims_right t q test trial ≡ true → (elements_right t q test ≡ true) × (elements_right t q trial ≡ true)
unfolding dims_right
both_right t q test trial h = (and_left _ _ h, and_right (elements_right t q test) _ h)

-- with the two counts that the code has in hand
pub dims_by : {t q t' q' : ℕ} (test trial : Elements) {b : Bool} → t ≡ t' → q ≡ q' → b ≡ dims_right t q test trial → b ≡ dims_right t' q' test trial
dims_by test trial e f h = rw (e, f) at h

module _ (m : Mesh) (f : Fine m) {t q : ℕ} (es : Elements) (e : t ≡ cells_of m.kinds 3) (g : q ≡ cells_of m.kinds 4) where
  pub places_by : {n : ℕ} → n ≡ t * cell_dim es 3 + q * cell_dim es 4 → n ≡ places_on m es
  places_by h = h ∙ rw (e, g) (places_are m f es)

  pub places_few_by : {n : ℕ} → elements_right t q es ≡ true → n ≡ t * cell_dim es 3 + q * cell_dim es 4 → n ≤ most_cells * most_dim
  places_few_by right h = omega (arith, places_by h, places_few m f es (rw (e, g) at right))

-- ---- check 7, by the rows of the cells

module _ {m : Mesh} (f : Fine m) {rows : List ℕ} (are : rows ≡ rows_of m.vertices m.kinds m.cell_vertices (length m.kinds)) where
  cells_in : (i : ℕ) → i < m.cells → cell_in m.vertices rows i ≡ corners m i
  unfolding corners
  cells_in i h =
      ap (λ (l : List ℕ). cell_in m.vertices l i) are
      ∙ cell_rows m.vertices (vertices_shaped m f) f.vertex_below i (omega (arith, f.kinds_long))

  pub rows_below_top : Below rows (m.vertices + 1)
  rows_below_top = subst (λ (l : List ℕ). Below l (m.vertices + 1)) (sym are) (record { below = rows_below m.vertices (vertices_shaped m f) f.vertex_below })

  pub rows_are_padded : Padded m.vertices rows
  rows_are_padded = subst (Padded m.vertices) (sym are) (rows_padded m.vertices (vertices_shaped m f) f.vertex_below)

  pub rows_distinct : (k : ℕ) → k < m.cells → distinct_in m.vertices rows k ≡ true
  rows_distinct k h = ap distinct (cells_in k h) ∙ f.apart k h

  pub rows_long : length rows ≡ 4 * m.cells
  rows_long = ap length are ∙ length_rows m.vertices (vertices_shaped m f) ∙ ap (λ (n : ℕ). 4 * n) f.kinds_long

  pub patterns_are : patterns_in m.vertices m.cells rows ≡ patterns_right m
  patterns_are = mesh_patterns m m.vertices rows cells_in

-- check 7 does not read the edges
pub patterns_bare : (s : Sizes) (ks vs es : List ℕ) → patterns_right (mesh_with s ks vs []) ≡ patterns_right (mesh_with s ks vs es)
unfolding patterns_right corners
patterns_bare s ks vs es = refl

-- ---- all checks

-- checks 1 to 3 turn the mesh down
pub mesh_fails : (x : Planning) (l : Lists) (v : ℕ) → v ≡ refusal (mesh_checks x.mesh) → (v ≡ 0 → ⊥) → v ≡ plan_refusal x l
unfolding plan_refusal
mesh_fails x l v e h = refusal_first (mesh_checks x.mesh) _ v e h

-- they pass, and 4 to 8 answer
pub mesh_passes : (x : Planning) (l : Lists) {v : ℕ} → 0 ≡ refusal (mesh_checks x.mesh)
    → Answers
    (check 4 (elements_fit x)
    ∷ check 5 (batch_right x.batch)
    ∷ check 6 (integrand_right x.integrand)
    ∷ check 7 (patterns_right x.mesh)
    ∷ check 8 (lengths_right x.mesh x.test x.trial l)
    ∷ [])
    v
    → v ≡ plan_refusal x l
unfolding plan_refusal
mesh_passes x l fine a = answers a ∙ sym (refusal_rest (mesh_checks x.mesh) _ (sym fine) refl)
