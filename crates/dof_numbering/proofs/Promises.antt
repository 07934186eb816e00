-- The proofs to `specs/Promises.antt`. Assumes nothing.
use Prim.Native.Nat.{ℕ, zero, suc, ◌+◌, ◌*◌, ◌-◌, ◌<◌, ◌≤◌}
use Rattle.std.proofs.Common.{not-suc-le-zero, eq-or-lt_of_le, le_of_suc-le-suc, lt_irrefl, add-zero, le_refl, arith, sym, ap, ◌∙◌, get_or-append-add}
use Rattle.std.proofs.Math.Bool.{true}
use Rattle.std.specs.Prelude.{cond, ◌≡◌, refl, List, [], ◌∷◌, ◌++◌}
use Rattle.std.proofs.Math.Path.{subst}
use Rattle.std.proofs.Math.Logic.{⊎_elim}
use Rattle.std.proofs.Math.ListN.{length, get_or, get_or-append}
use Rattle.lists.specs.Bool.{cases}
use Rattle.lists.specs.Bounded.{lt_or_le}
use Rattle.lists.specs.Stores.{each_append}
use Rattle.grid.specs.Cells.{before}
use Rattle.function.specs.Elements.{cell_dim, Space}
use Rattle.dof_numbering.specs.Numbering.{Visit, corners, sides, element_on, visits, visit_at, dimension_of, entity_of, dofs_on, same_entity, first_visit, is_first, free, start, up_from, owners_on, dofs_to, owners_to, dof_list, owner_list, dof_count, kind, visits_in, visit_of, dof_place}
use Rattle.dof_numbering.proofs.Facts.{Even, length_up_from, length_owners_on, get_d_up_from, same_dimension, same_number, first_le, first_meets, first_is, start_below, start_first, length_next, length_mono, free_le_length, length_owners, numbers_differ, starts_agree, number_used}
use Rattle.dof_numbering.proofs.ByCell.Met.{vertex, edge, inside}
use Rattle.dof_numbering.specs.ByCell.{Filled, Matched}
use Rattle.dof_numbering.proofs.ByCell.{Met, met, corners_length, sides_length, visit_below, before_all, cells_start, length_place, length_dofs, even}
use Rattle.dof_numbering.specs.Promises.{Distinct}

-- ---- any list of visits

-- DOF i of visit k stands after the DOFs of the visits before it
dof_at : (vs : List Visit) (n k i : ℕ) → k < n → i < dofs_on vs k → get_or (dofs_to vs n) (length (dofs_to vs k) + i) 0 ≡ start vs k + i
unfolding dofs_to
dof_at vs zero k i h b = absurd (not-suc-le-zero h)
dof_at vs (suc n) k i h b =
    ⊎_elim (λ e. subst (λ (j : ℕ). i < dofs_on vs j → get_or (dofs_to vs n ++ up_from (start vs n) (dofs_on vs n)) (length (dofs_to vs j) + i) 0 ≡ start vs j + i) (sym e)
    (λ l. get_or-append-add (dofs_to vs n) (up_from (start vs n) (dofs_on vs n)) i 0 ∙ get_d_up_from (start vs n) (dofs_on vs n) i l) b)
    (λ l. get_or-append (dofs_to vs n) (up_from (start vs n) (dofs_on vs n)) 0 (length (dofs_to vs k) + i) (omega (arith, length_next vs k (suc k) refl, length_mono vs (suc k) n l))
    ∙ dof_at vs n k i l b)
    (eq-or-lt_of_le (le_of_suc-le-suc h))

-- a place of the DOF list from visit j's first on and before visit j + m's is a DOF of a visit between
covers : (vs : List Visit) (j m x : ℕ) → length (dofs_to vs j) ≤ x → x < length (dofs_to vs (j + m))
    → (p : ℕ) × (p < m) × (length (dofs_to vs (j + p)) ≤ x) × (x < length (dofs_to vs (j + p)) + dofs_on vs (j + p))
covers vs j zero x a b = absurd (lt_irrefl x (omega (arith, ap (λ (n : ℕ). length (dofs_to vs n)) (add-zero j))))
covers vs j (suc m) x a b =
    ⊎_elim (λ l. let r : (p : ℕ) × (p < m) × (length (dofs_to vs (j + p)) ≤ x) × (x < length (dofs_to vs (j + p)) + dofs_on vs (j + p)) = covers vs j m x a l in (r.0, omega arith, r.2, r.3))
    (λ l. (m, omega arith, l, omega (arith, length_next vs (j + m) (j + suc m) (omega arith), b)))
    (lt_or_le x (length (dofs_to vs (j + m))))

-- number q of record i of m
get_d_owners_on : (d x m i q : ℕ) → i < m → q < 3 → get_or (owners_on d x m) (3 * i + q) 0 ≡ get_or (d ∷ x ∷ i ∷ []) q 0
unfolding owners_on
get_d_owners_on d x zero i q h b = absurd (not-suc-le-zero h)
get_d_owners_on d x (suc m) i q h b =
    ⊎_elim (λ e. rw e (let f : 3 * m + q ≡ length (owners_on d x m) + q = omega (arith, length_owners_on d x m) in
    rw f (get_or-append-add (owners_on d x m) (d ∷ x ∷ m ∷ []) q 0)))
    (λ l. get_or-append (owners_on d x m) (d ∷ x ∷ m ∷ []) 0 (3 * i + q) (omega (arith, length_owners_on d x m)) ∙ get_d_owners_on d x m i q l b)
    (eq-or-lt_of_le (le_of_suc-le-suc h))

-- DOF i of visit k, where that is the first of its entity: its record among those of the visits up to it
owner_last : (vs : List Visit) (k i q : ℕ) → is_first vs k ≡ true → i < dofs_on vs k → q < 3
    → get_or (owners_to vs (suc k)) (3 * (free vs k + i) + q) 0 ≡ get_or (dimension_of vs k ∷ entity_of vs k ∷ i ∷ []) q 0
unfolding owners_to
owner_last vs k i q f b c =
    let p : 3 * (free vs k + i) + q ≡ length (owners_to vs k) + (3 * i + q) = omega (arith, length_owners vs k) in
    rw (f, p)
    (get_or-append-add (owners_to vs k) (owners_on (dimension_of vs k) (entity_of vs k) (dofs_on vs k)) (3 * i + q) 0
    ∙ get_d_owners_on (dimension_of vs k) (entity_of vs k) (dofs_on vs k) i q b c)

module _ (vs : List Visit) (same : Even vs) where
  numbers_below : (n k : ℕ) → n ≤ length vs → k ≤ n → (i : ℕ) → i < length (dofs_to vs k) → get_or (dofs_to vs k) i 0 < free vs n
  unfolding dofs_to
  numbers_below n zero b h i l = absurd (not-suc-le-zero l)
  numbers_below n (suc k) b h i l =
      each_append (λ x. x < free vs n) (dofs_to vs k) (up_from (start vs k) (dofs_on vs k)) (numbers_below n k b (omega arith))
      (λ j m. let c : j < dofs_on vs k = omega (arith, length_up_from (start vs k) (dofs_on vs k)) in
      rw (get_d_up_from (start vs k) (dofs_on vs k) j c) (omega (arith, start_below vs same k n (omega arith) h)))
      i l

  -- DOF i of visit j and DOF m of visit k have the same number: they are the same place on the same entity
  numbers_apart : (j k i m : ℕ) → j < length vs → k < length vs → i < dofs_on vs j → m < dofs_on vs k → start vs j + i ≡ start vs k + m
      → (same_entity vs j k ≡ true) × (i ≡ m)
  numbers_apart j k i m bj bk hi hm e =
      ⊎_elim (λ t. (t, omega (arith, starts_agree vs j k t))) (λ f. absurd (numbers_differ vs same j k i m bj bk f hi hm e)) (cases (same_entity vs j k))

  -- the record of DOF i of visit k among those of n visits, where visit k is the first of its entity
  owner_first : (n k i q : ℕ) → k < length vs → k < n → is_first vs k ≡ true → i < dofs_on vs k → q < 3
      → get_or (owners_to vs n) (3 * (free vs k + i) + q) 0 ≡ get_or (dimension_of vs k ∷ entity_of vs k ∷ i ∷ []) q 0
  unfolding owners_to
  owner_first zero k i q v h f b c = absurd (not-suc-le-zero h)
  owner_first (suc n) k i q v h f b c =
      ⊎_elim (λ e. subst (λ (j : ℕ). get_or (owners_to vs (suc j)) (3 * (free vs k + i) + q) 0 ≡ get_or (dimension_of vs k ∷ entity_of vs k ∷ i ∷ []) q 0) e (owner_last vs k i q f b c))
      (λ l. get_or-append (owners_to vs n) (cond (is_first vs n) (owners_on (dimension_of vs n) (entity_of vs n) (dofs_on vs n)) []) 0 (3 * (free vs k + i) + q)
      (omega (arith, length_owners vs n, start_below vs same k n v l, start_first vs k f))
      ∙ owner_first n k i q v l f b c)
      (eq-or-lt_of_le (le_of_suc-le-suc h))

  -- number q of the owner record of DOF i of visit k: dimension, entity, place on it
  owner_at : (k i q : ℕ) → k < length vs → i < dofs_on vs k → q < 3
      → get_or (owners_to vs (length vs)) (3 * (start vs k + i) + q) 0 ≡ get_or (dimension_of vs k ∷ entity_of vs k ∷ i ∷ []) q 0
  unfolding start
  owner_at k i q h b c =
      let m : same_entity vs (first_visit vs k) k ≡ true = first_meets vs k in
      let f : first_visit vs k < length vs = omega (arith, first_le vs k) in
      owner_first (length vs) (first_visit vs k) i q f f (first_is vs k) (omega (arith, same (first_visit vs k) k f h m)) c
      ∙ rw (same_dimension vs (first_visit vs k) k m, same_number vs (first_visit vs k) k m)

-- ---- lengths

-- three numbers a DOF
pub owner_list_length : (s : Space) (C : ℕ) → length (owner_list s C) ≡ 3 * dof_count s C
owner_list_length s C = length_owners (visits s C) (length (visits s C))

module _ (s : Space) (C : ℕ) (h : Filled s C) where
  -- the DOF list has as many numbers for each cell as the cell has local DOFs
  pub dof_list_length : length (dof_list s C) ≡ before (cell_dim s.elements) s.kinds C
  dof_list_length = length_dofs s C h

  pub dof_count_le : dof_count s C ≤ before (cell_dim s.elements) s.kinds C
  dof_count_le = omega (arith, free_le_length (visits s C) (length (visits s C)), dof_list_length)

  -- ---- the numbers are those below the count

  -- each number of the DOF list is below the count
  pub dof_below : Matched s C → (x : ℕ) → x < before (cell_dim s.elements) s.kinds C → get_or (dof_list s C) x 0 < dof_count s C
  dof_below m x b = numbers_below (visits s C) (even s C h m) (length (visits s C)) (length (visits s C)) (le_refl _) (le_refl _) x (omega (arith, dof_list_length))

  -- each number below the count stands in the DOF list
  pub number_written : (n : ℕ) → n < dof_count s C → (x : ℕ) × (x < before (cell_dim s.elements) s.kinds C) × (get_or (dof_list s C) x 0 ≡ n)
  number_written n b =
      let vs : List Visit = visits s C in
      let r : (j : ℕ) × (i : ℕ) × (j < length vs) × (i < dofs_on vs j) × (start vs j + i ≡ n) = number_used vs (length vs) n b in
      (length (dofs_to vs r.0) + r.1, omega (arith, length_next vs r.0 (suc r.0) refl, length_mono vs (suc r.0) (length vs) r.2, r.3, dof_list_length), dof_at vs (length vs) r.0 r.1 r.2 r.3 ∙ r.4)

  -- ---- by cell and place

  module _ (i p q : ℕ) (hi : i < C) (hp : p < visits_in (kind s i)) (hq : q < dofs_on (visits s C) (visit_of s i p)) where
    -- DOF q there
    place_number : get_or (dof_list s C) (dof_place s i p + q) 0 ≡ start (visits s C) (visit_of s i p) + q
    place_number =
        ap (λ (k : ℕ). get_or (dof_list s C) (k + q) 0) (sym (length_place s C h i p hi (omega arith)))
        ∙ dof_at (visits s C) (length (visits s C)) (visit_of s i p) q (visit_below s C h i p hi hp) hq

    -- it is below the count
    pub number_below : Matched s C → get_or (dof_list s C) (dof_place s i p + q) 0 < dof_count s C
    number_below m =
        let b : visit_of s i p < length (visits s C) = visit_below s C h i p hi hp in
        rw place_number (omega (arith, start_below (visits s C) (even s C h m) (visit_of s i p) (length (visits s C)) b b))

    -- its owner record says dimension, entity and place on it
    pub owner_names : Matched s C → (d : ℕ) → d < 3
        → get_or (owner_list s C) (3 * get_or (dof_list s C) (dof_place s i p + q) 0 + d) 0
        ≡ get_or (dimension_of (visits s C) (visit_of s i p) ∷ entity_of (visits s C) (visit_of s i p) ∷ q ∷ []) d 0
    owner_names m d hd = rw place_number (owner_at (visits s C) (even s C h m) (visit_of s i p) q d (visit_below s C h i p hi hp) hq hd)

  -- places of the same entity have the same DOFs
  pub shared_numbers : Matched s C → (i p j r q : ℕ) → i < C → p < visits_in (kind s i) → j < C → r < visits_in (kind s j)
      → same_entity (visits s C) (visit_of s i p) (visit_of s j r) ≡ true → q < dofs_on (visits s C) (visit_of s i p)
      → get_or (dof_list s C) (dof_place s i p + q) 0 ≡ get_or (dof_list s C) (dof_place s j r + q) 0
  shared_numbers m i p j r q hi hp hj hr same hq =
      let e : dofs_on (visits s C) (visit_of s i p) ≡ dofs_on (visits s C) (visit_of s j r) =
      even s C h m (visit_of s i p) (visit_of s j r) (visit_below s C h i p hi hp) (visit_below s C h j r hj hr) same in
      place_number i p q hi hp hq
      ∙ ap (λ (n : ℕ). n + q) (starts_agree (visits s C) (visit_of s i p) (visit_of s j r) same)
      ∙ sym (place_number j r q hj hr (omega arith))

module _ (s : Space) (C t : ℕ) (h : Filled s C) (g : Matched s C) (b : t < C) (vertices : Distinct (corners s t)) (edges : Distinct (sides s t)) where
  abbrev n : ℕ
  n = kind s t

  -- two places of the cell meet two entities
  places_apart : (p q : ℕ) → p < visits_in n → q < visits_in n → same_entity (visits s C) (visit_of s t p) (visit_of s t q) ≡ true → p ≡ q
  places_apart p q hp hq same = go (met s C h t p b hp) (met s C h t q b hq)
    where
      -- what they meet has the same dimension and number
      d : (v w : Visit) → visit_at (visits s C) (visit_of s t p) ≡ v → visit_at (visits s C) (visit_of s t q) ≡ w → v.dimension ≡ w.dimension
      d v w e f = sym (ap (λ (v : Visit). v.dimension) e) ∙ same_dimension (visits s C) (visit_of s t p) (visit_of s t q) same ∙ ap (λ (v : Visit). v.dimension) f

      x : (v w : Visit) → visit_at (visits s C) (visit_of s t p) ≡ v → visit_at (visits s C) (visit_of s t q) ≡ w → v.entity ≡ w.entity
      x v w e f = sym (ap (λ (v : Visit). v.entity) e) ∙ same_number (visits s C) (visit_of s t p) (visit_of s t q) same ∙ ap (λ (v : Visit). v.entity) f

      go : Met s C t p → Met s C t q → p ≡ q
      go (vertex a e) (vertex a' e') = vertices p q (rw (corners_length s C h t b) a) (rw (corners_length s C h t b) a') (x _ _ e e')
      go (vertex a e) (edge r a' f e') = absurd (lt_irrefl 0 (omega (arith, d _ _ e e')))
      go (vertex a e) (inside f e') = absurd (lt_irrefl 0 (omega (arith, d _ _ e e')))
      go (edge r a f e) (vertex a' e') = absurd (lt_irrefl 0 (omega (arith, d _ _ e e')))
      go (edge r a f e) (edge r' a' f' e') =
          let z : r ≡ r' = edges r r' (rw (sides_length s C h t b) a) (rw (sides_length s C h t b) a') (x _ _ e e') in omega arith
      go (edge r a f e) (inside f' e') = absurd (lt_irrefl 0 (omega (arith, d _ _ e e')))
      go (inside f e) (vertex a e') = absurd (lt_irrefl 0 (omega (arith, d _ _ e e')))
      go (inside f e) (edge r a f' e') = absurd (lt_irrefl 0 (omega (arith, d _ _ e e')))
      go (inside f e) (inside f' e') = omega arith

  -- place x of the DOF list is a DOF of place p of the cell
  abbrev Local : ℕ → Type 0
  Local x = (p : ℕ) × (p < visits_in n) × (length (dofs_to (visits s C) (visit_of s t p)) ≤ x) × (x < length (dofs_to (visits s C) (visit_of s t p)) + dofs_on (visits s C) (visit_of s t p))

  -- so is that of local DOF l
  local : (l : ℕ) → l < cell_dim s.elements n → Local (before (cell_dim s.elements) s.kinds t + l)
  local l hl =
      let e : before visits_in s.kinds t + 0 ≡ before visits_in s.kinds t = add-zero _ in
      let first : length (dofs_to (visits s C) (before visits_in s.kinds t)) ≡ before (cell_dim s.elements) s.kinds t =
      ap (λ (k : ℕ). length (dofs_to (visits s C) k)) (sym e) ∙ cells_start s C h t (omega arith) in
      covers (visits s C) (before visits_in s.kinds t) (visits_in n) (before (cell_dim s.elements) s.kinds t + l) (omega arith)
      (omega (arith, length_place s C h t (visits_in n) b (le_refl _), before_all (element_on s t) n))

  -- the number at place x of the list, by its visit
  number_at : (x k : ℕ) → k < length (visits s C) → length (dofs_to (visits s C) k) ≤ x → x < length (dofs_to (visits s C) k) + dofs_on (visits s C) k
      → get_or (dof_list s C) x 0 ≡ start (visits s C) k + (x - length (dofs_to (visits s C) k))
  number_at x k l lo hi =
      let i : length (dofs_to (visits s C) k) + (x - length (dofs_to (visits s C) k)) ≡ x = omega arith in
      ap (λ (q : ℕ). get_or (dof_list s C) q 0) (sym i) ∙ dof_at (visits s C) (length (visits s C)) k (x - length (dofs_to (visits s C) k)) l (omega arith)

  numbers_apart_in : (x y : ℕ) → Local x → Local y → get_or (dof_list s C) x 0 ≡ get_or (dof_list s C) y 0 → x ≡ y
  numbers_apart_in x y u v e =
      let vs : List Visit = visits s C in
      let j : ℕ = visit_of s t u.0 in
      let k : ℕ = visit_of s t v.0 in
      let bj : j < length vs = visit_below s C h t u.0 b u.1 in
      let bk : k < length vs = visit_below s C h t v.0 b v.1 in
      let z : start vs j + (x - length (dofs_to vs j)) ≡ start vs k + (y - length (dofs_to vs k)) =
      sym (number_at x j bj u.2 u.3) ∙ e ∙ number_at y k bk v.2 v.3 in
      let r : (same_entity vs j k ≡ true) × (x - length (dofs_to vs j) ≡ y - length (dofs_to vs k)) =
      numbers_apart vs (even s C h g) j k (x - length (dofs_to vs j)) (y - length (dofs_to vs k)) bj bk (omega arith) (omega arith) z in
      let f : length (dofs_to vs j) ≡ length (dofs_to vs k) = ap (λ (p : ℕ). length (dofs_to vs (visit_of s t p))) (places_apart u.0 v.0 u.1 v.1 r.0) in
      omega arith

  -- local DOFs l and m of cell t have different numbers
  pub cell_numbers_differ : (l m : ℕ) → l < cell_dim s.elements n → m < cell_dim s.elements n
      → get_or (dof_list s C) (before (cell_dim s.elements) s.kinds t + l) 0 ≡ get_or (dof_list s C) (before (cell_dim s.elements) s.kinds t + m) 0 → l ≡ m
  cell_numbers_differ l m hl hm e =
      let D : ℕ = before (cell_dim s.elements) s.kinds t in
      let z : D + l ≡ D + m = numbers_apart_in (D + l) (D + m) (local l hl) (local m hm) e in
      omega arith
