-- What check 4 says of one side: of the dim of a kind that is present, and of both elements where both kinds are. Assumes nothing.
use Rattle.std.specs.Prelude.{ℕ, ◌<◌, Bool, true, false, ◌≡◌, refl, ◌⊎◌, List, get_or}
use Rattle.std.proofs.Common.{arith, sym, ap, ◌∙◌, inl, inr}
use Rattle.std.proofs.Math.Logic.{⊎_elim}
use Rattle.std.proofs.Math.Dec.{eqb}
use borrow.Author.Tests.{eqb-true, eq-eqb, ne_eqb}
use Rattle.lists.specs.Bool.{◌and◌, ◌or◌, every, every_at, and_left, and_right, or_cases}
use Rattle.numbers.specs.Ranges.{within}
use Rattle.grid.specs.Mesh.{cells_of}
use Rattle.grid.specs.KindsFacts.{Kinded, kind_present}
use Rattle.function.specs.declared.Element.{Element}
use Rattle.function.specs.declared.Elements.{Elements}
use Rattle.function.specs.Elements.{element_of, cell_dim, most_dim, elements_right}

-- a count that is not 0
some : (n : ℕ) → 0 < n → eqb n 0 ≡ true → ⊥
some n h e = let z : n ≡ 0 = eqb-true n 0 e in omega arith

module _ (triangles quads : ℕ) (es : Elements) (right : elements_right triangles quads es ≡ true) where
  pub dim_three : 0 < triangles → within 1 most_dim (cell_dim es 3) ≡ true
  unfolding elements_right
  dim_three h = ⊎_elim (λ e. absurd (some triangles h e)) (λ e. e) (or_cases _ _ (every_at _ right 0))

  pub dim_four : 0 < quads → within 1 most_dim (cell_dim es 4) ≡ true
  unfolding elements_right
  dim_four h = ⊎_elim (λ e. absurd (some quads h e)) (λ e. e) (or_cases _ _ (every_at _ right 1))

  both : 0 < triangles → 0 < quads → eqb es.triangle.a es.quad.a and eqb es.triangle.b es.quad.b ≡ true
  unfolding elements_right
  both h k =
      ⊎_elim (λ e. ⊎_elim (λ t. absurd (some triangles h t)) (λ q. absurd (some quads k q)) (or_cases _ _ e)) (λ e. e)
      (or_cases (eqb triangles 0 or eqb quads 0) _ (every_at _ right 2))

-- what is left of it where a kind is not present, and where both are
first_alone : (a w m s : Bool) → (a or w) and (true or m) and (a or true or s) ≡ (a or w)
unfolding ◌and◌ ◌or◌
first_alone true w m s = refl
first_alone false true m s = refl
first_alone false false m s = refl

second_alone : (w m s : Bool) → (true or w) and (false or m) and (true or false or s) ≡ m
unfolding ◌and◌ ◌or◌
second_alone w true s = refl
second_alone w false s = refl

two_kinds : (w m s : Bool) → (false or w) and (false or m) and (false or false or s) ≡ w and m and s
unfolding ◌or◌
two_kinds w m s = refl

module _ (triangles quads : ℕ) (es : Elements) where
  -- the dims as they are worked out
  pub right_triangles : {m : ℕ} {w : Bool} → w ≡ within 1 most_dim m → m ≡ cell_dim es 3 → quads ≡ 0 → eqb triangles 0 or w ≡ elements_right triangles quads es
  unfolding elements_right every
  right_triangles d e q = rw (d, e, eq-eqb quads 0 q) (sym (first_alone (eqb triangles 0) _ _ _))

  pub right_quads : {n : ℕ} {v : Bool} → v ≡ within 1 most_dim n → n ≡ cell_dim es 4 → (quads ≡ 0 → ⊥) → triangles ≡ 0 → v ≡ elements_right triangles quads es
  unfolding elements_right every
  right_quads d e q t = rw (d, e, ne_eqb quads 0 q, eq-eqb triangles 0 t) (sym (second_alone _ _ _))

  pub right_both : {m n : ℕ} {w v : Bool} → w ≡ within 1 most_dim m → m ≡ cell_dim es 3 → v ≡ within 1 most_dim n → n ≡ cell_dim es 4 → (quads ≡ 0 → ⊥) → (triangles ≡ 0 → ⊥)
      → w and v and (eqb es.triangle.a es.quad.a and eqb es.triangle.b es.quad.b) ≡ elements_right triangles quads es
  unfolding elements_right every
  right_both d e f g q t = rw (d, e, f, g, ne_eqb quads 0 q, ne_eqb triangles 0 t) (sym (two_kinds _ _ _))

-- on cells of kinds 3 and 4
module _ (C : ℕ) (ks : List ℕ) (known : Kinded C ks) (es : Elements) (right : elements_right (cells_of ks 3) (cells_of ks 4) es ≡ true) where
  present : (n i : ℕ) → i < C → get_or ks i 0 ≡ n → 0 < cells_of ks n
  present n i h e = kind_present ks n i (omega (arith, known.long)) e

  -- the dim of each cell is from 1 to 10
  pub dim_within : (i : ℕ) → i < C → within 1 most_dim (cell_dim es (get_or ks i 0)) ≡ true
  dim_within i h =
      ⊎_elim
      (λ e. ap (λ (n : ℕ). within 1 most_dim (cell_dim es n)) e ∙ dim_three _ _ es right (present 3 i h e))
      (λ e. ap (λ (n : ℕ). within 1 most_dim (cell_dim es n)) e ∙ dim_four _ _ es right (present 4 i h e))
      (known.each i h)

  -- what the elements of both kinds have in common, all cells have
  common : (f : Element → ℕ) → (0 < cells_of ks 3 → 0 < cells_of ks 4 → f es.triangle ≡ f es.quad)
      → (i j : ℕ) → i < C → j < C → f (element_of es (get_or ks i 0)) ≡ f (element_of es (get_or ks j 0))
  unfolding element_of
  common f same i j hi hj = go (known.each i hi) (known.each j hj)
    where
      go : (get_or ks i 0 ≡ 3) ⊎ (get_or ks i 0 ≡ 4) → (get_or ks j 0 ≡ 3) ⊎ (get_or ks j 0 ≡ 4) → f (element_of es (get_or ks i 0)) ≡ f (element_of es (get_or ks j 0))
      go (inl p) (inl q) = rw (p, q)
      go (inl p) (inr q) = let e : f es.triangle ≡ f es.quad = same (present 3 i hi p) (present 4 j hj q) in rw (p, q) e
      go (inr p) (inl q) = let e : f es.triangle ≡ f es.quad = same (present 3 j hj q) (present 4 i hi p) in rw (p, q) (sym e)
      go (inr p) (inr q) = rw (p, q)

  pub same_vertices_holds : (i j : ℕ) → i < C → j < C → (element_of es (get_or ks i 0)).a ≡ (element_of es (get_or ks j 0)).a
  same_vertices_holds = common (λ e. e.a) (λ t q. eqb-true _ _ (and_left _ _ (both _ _ es right t q)))

  pub same_edges : (i j : ℕ) → i < C → j < C → (element_of es (get_or ks i 0)).b ≡ (element_of es (get_or ks j 0)).b
  same_edges = common (λ e. e.b) (λ t q. eqb-true _ _ (and_right (eqb es.triangle.a es.quad.a) _ (both _ _ es right t q)))
