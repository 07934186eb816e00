-- Laws of shared vertices: two cells share a vertex where some number is a vertex of both; the smallest such number is found below V where every
-- vertex number is below V. Assumes nothing.
use Prim.Native.Nat.{ℕ, ◌<◌}
use Rattle.std.proofs.Common.{arith, sym, subst, ◌∙◌}
use Rattle.std.specs.Prelude.{◌≡◌, false, List, length, get_or}
use Rattle.std.proofs.Math.Logic.{⊎_elim}
use Rattle.std.proofs.Math.Bool.{Bool, true}
use Rattle.lists.specs.Bool.{◌and◌, true≢false, cases, every_at, and_left, and_right, and_both}
use Rattle.lists.specs.Bounded.{least, lt_or_le, least_holds, least_before, least_none}
use Rattle.grid.specs.Cells.{own, has, share}
use Rattle.grid.specs.CellsFacts.{part_each, has_place, share_which, share_at}
use Rattle.grid.specs.Mesh.{Mesh, corners, vertices_right}
use Rattle.numbers.specs.Ranges.{below_at}
use Rattle.cell_pairs.specs.Patterns.{smallest_shared}

-- ---- a vertex of a cell

-- each vertex of each cell of a mesh that passes check 2 is below V
pub vertex_below_lem : (m : Mesh) → vertices_right m ≡ true → (i p : ℕ) → p < length (corners m i) → get_or (corners m i) p 0 < m.vertices
unfolding vertices_right corners
vertex_below_lem m e i p h = part_each (λ x. x < m.vertices) own m.kinds m.cell_vertices (λ k l. below_at _ _ (every_at _ e 1) k l) i p h

-- a vertex of a cell is below V where each number of the cell is
has_below : (xs : List ℕ) (top : ℕ) → ((p : ℕ) → p < length xs → get_or xs p 0 < top) → (x : ℕ) → has xs x ≡ true → x < top
has_below xs top below x e =
    let w = has_place xs x e in
    subst (λ (y : ℕ). y < top) w.2 (below w.0 w.1)

-- ---- the smallest shared vertex

module _ (top : ℕ) (xs ys : List ℕ) where
  -- where it is found, it is a vertex of both cells
  pub smallest_test : smallest_shared top xs ys < top → has xs (smallest_shared top xs ys) ≡ true
  unfolding smallest_shared
  smallest_test h = and_left _ _ (least_holds top (λ x. has xs x and has ys x) h)

  pub smallest_trial : smallest_shared top xs ys < top → has ys (smallest_shared top xs ys) ≡ true
  unfolding smallest_shared
  smallest_trial h = and_right (has xs (smallest_shared top xs ys)) _ (least_holds top (λ x. has xs x and has ys x) h)

  -- so the cells share one
  pub smallest_shares : smallest_shared top xs ys < top → share xs ys ≡ true
  smallest_shares h = share_at xs ys (smallest_shared top xs ys) (smallest_test h) (smallest_trial h)

  -- cells that share a vertex have a smallest one
  pub smallest_found : ((p : ℕ) → p < length xs → get_or xs p 0 < top) → share xs ys ≡ true → smallest_shared top xs ys < top
  unfolding smallest_shared
  smallest_found below e =
      let f : ℕ → Bool = λ x. has xs x and has ys x in
      let w = share_which xs ys e in
      let here : f w.0 ≡ true = and_both _ _ w.1 w.2 in
      let x<top : w.0 < top = has_below xs top below w.0 w.1 in
      ⊎_elim (λ l. l) (λ l. absurd (true≢false (sym here ∙ least_before top f w.0 (omega arith)))) (lt_or_le (least top f) top)

  -- cells that share none have none
  pub smallest_none : share xs ys ≡ false → smallest_shared top xs ys ≡ top
  unfolding smallest_shared
  smallest_none e = least_none top (λ x. has xs x and has ys x) (λ k l. ⊎_elim (λ t. absurd (never k t)) (λ f. f) (cases (has xs k and has ys k)))
    where
      never : (x : ℕ) → has xs x and has ys x ≡ true → ⊥
      never x t = true≢false (sym (share_at xs ys x (and_left _ _ t) (and_right (has xs x) _ t)) ∙ e)
