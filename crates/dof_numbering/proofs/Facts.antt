-- What follows from the definition of the numbering, for any list of visits: who meets an entity first, which numbers are free, how long the lists are.
-- Assumes nothing.
use Rattle.std.specs.Prelude.{ℕ, zero, suc, ◌+◌, ◌*◌, ◌-◌, ◌<◌, ◌≤◌, Bool, true, false, cond, ◌≡◌, refl, List, [], ◌∷◌, ◌++◌, length, get_or, eqb}
use Rattle.std.proofs.Common.{zero-le, not-suc-le-zero, le_refl, le_of_suc-le-suc, eq-or-lt_of_le, lt_irrefl, arith, sym, ap, subst, ◌∙◌, ⊎_elim, length-append, eqb-true, eq-eqb, ne_eqb}
use Rattle.std.proofs.Math.ListN.{get_or-append}
use Rattle.std.proofs.lemmas.List.{get_or_at}
use Rattle.lists.specs.Bool.{true≢false, cases, and_left, and_right, and_both}
use Rattle.lists.specs.Bounded.{least_is, least_le, least_holds, least_before, lt_or_le}
use Rattle.dof_numbering.specs.Numbering.{Visit, dimension_of, entity_of, dofs_on, same_entity, first_visit, is_first, free, start, up_from, owners_on, dofs_to, owners_to}

-- ---- the two runs of numbers

pub length_up_from : (n m : ℕ) → length (up_from n m) ≡ m
unfolding up_from
length_up_from n zero = refl
length_up_from n (suc m) = length-append (up_from n m) ((n + m) ∷ []) ∙ rw (length_up_from n m) (omega arith)

pub length_owners_on : (d x m : ℕ) → length (owners_on d x m) ≡ 3 * m
unfolding owners_on
length_owners_on d x zero = refl
length_owners_on d x (suc m) = length-append (owners_on d x m) (d ∷ x ∷ m ∷ []) ∙ rw (length_owners_on d x m) (omega arith)

pub get_d_up_from : (n m i : ℕ) → i < m → get_or (up_from n m) i 0 ≡ n + i
unfolding up_from
get_d_up_from n zero i h = absurd (not-suc-le-zero h)
get_d_up_from n (suc m) i h =
    ⊎_elim (λ e. ap (λ (j : ℕ). get_or (up_from n m ++ ((n + m) ∷ [])) j 0) e ∙ get_or_at (up_from n m) (n + m) [] 0 m (length_up_from n m) ∙ ap (λ (j : ℕ). n + j) (sym e))
    (λ l. get_or-append (up_from n m) ((n + m) ∷ []) 0 i (rw length_up_from l) ∙ get_d_up_from n m i l)
    (eq-or-lt_of_le (le_of_suc-le-suc h))

-- ---- the same entity

pub same_dimension : (vs : List Visit) (j k : ℕ) → same_entity vs j k ≡ true → dimension_of vs j ≡ dimension_of vs k
unfolding same_entity
same_dimension vs j k h =
    eqb-true (dimension_of vs j) (dimension_of vs k) (and_left (eqb (dimension_of vs j) (dimension_of vs k)) (eqb (entity_of vs j) (entity_of vs k)) h)

pub same_number : (vs : List Visit) (j k : ℕ) → same_entity vs j k ≡ true → entity_of vs j ≡ entity_of vs k
unfolding same_entity
same_number vs j k h =
    eqb-true (entity_of vs j) (entity_of vs k) (and_right (eqb (dimension_of vs j) (dimension_of vs k)) (eqb (entity_of vs j) (entity_of vs k)) h)

pub same_of : (vs : List Visit) (j k : ℕ) → dimension_of vs j ≡ dimension_of vs k → entity_of vs j ≡ entity_of vs k → same_entity vs j k ≡ true
unfolding same_entity
same_of vs j k p q =
    and_both (eqb (dimension_of vs j) (dimension_of vs k)) (eqb (entity_of vs j) (entity_of vs k)) (eq-eqb (dimension_of vs j) (dimension_of vs k) p)
    (eq-eqb (entity_of vs j) (entity_of vs k) q)

-- i and j each meet what k meets
same_join : (vs : List Visit) (i j k : ℕ) → same_entity vs i k ≡ true → same_entity vs j k ≡ true → same_entity vs i j ≡ true
same_join vs i j k p q =
    same_of vs i j (same_dimension vs i k p ∙ sym (same_dimension vs j k q)) (same_number vs i k p ∙ sym (same_number vs j k q))

-- k meets what i and j each meet
same_join' : (vs : List Visit) (i j k : ℕ) → same_entity vs k i ≡ true → same_entity vs k j ≡ true → same_entity vs i j ≡ true
same_join' vs i j k p q =
    same_of vs i j (sym (same_dimension vs k i p) ∙ same_dimension vs k j q) (sym (same_number vs k i p) ∙ same_number vs k j q)

same_trans : (vs : List Visit) (i j k : ℕ) → same_entity vs i j ≡ true → same_entity vs j k ≡ true → same_entity vs i k ≡ true
same_trans vs i j k p q =
    same_of vs i k (same_dimension vs i j p ∙ same_dimension vs j k q) (same_number vs i j p ∙ same_number vs j k q)

-- visits of the same entity find the same number of DOFs on it
abbrev pub Even : List Visit → Type 0
Even vs = (j k : ℕ) → j < length vs → k < length vs → same_entity vs j k ≡ true → dofs_on vs j ≡ dofs_on vs k

-- ---- the first visit

pub first_le : (vs : List Visit) (k : ℕ) → first_visit vs k ≤ k
unfolding first_visit
first_le vs k = least_le k (λ j. same_entity vs j k)

-- an earlier visit of the same entity has the same first visit
first_same : (vs : List Visit) (j k : ℕ) → j < k → same_entity vs j k ≡ true → first_visit vs j ≡ first_visit vs k
unfolding first_visit
first_same vs j k l h =
    sym (least_is k (λ i. same_entity vs i k) (first_visit vs j) (omega (arith, first_le vs j)) before here)
  where
    before : (i : ℕ) → i < first_visit vs j → same_entity vs i k ≡ false
    before i b =
        ⊎_elim (λ t. absurd (true≢false (sym (same_join vs i j k t h) ∙ least_before j (λ n. same_entity vs n j) i b))) (λ f. f) (cases (same_entity vs i k))

    here : first_visit vs j < k → same_entity vs (first_visit vs j) k ≡ true
    here b =
        ⊎_elim (λ e. subst (λ (n : ℕ). same_entity vs n k ≡ true) (sym e) h)
        (λ t. same_trans vs (first_visit vs j) j k (least_holds j (λ n. same_entity vs n j) t) h)
        (eq-or-lt_of_le (first_le vs j))

-- the first visit meets the same entity, and is its own first visit
pub first_meets : (vs : List Visit) (k : ℕ) → same_entity vs (first_visit vs k) k ≡ true
unfolding first_visit
first_meets vs k =
    ⊎_elim (λ e. same_of vs (first_visit vs k) k (ap (λ (n : ℕ). dimension_of vs n) e) (ap (λ (n : ℕ). entity_of vs n) e)) (λ l. least_holds k (λ j. same_entity vs j k) l)
    (eq-or-lt_of_le (first_le vs k))

pub first_first : (vs : List Visit) (k : ℕ) → first_visit vs (first_visit vs k) ≡ first_visit vs k
first_first vs k =
    ⊎_elim (λ e. ap (λ (n : ℕ). first_visit vs n) e) (λ l. first_same vs (first_visit vs k) k l (first_meets vs k)) (eq-or-lt_of_le (first_le vs k))

pub first_is : (vs : List Visit) (k : ℕ) → is_first vs (first_visit vs k) ≡ true
unfolding is_first
first_is vs k = eq-eqb (first_visit vs (first_visit vs k)) (first_visit vs k) (first_first vs k)

-- an earlier visit meets the entity: visit k is not the first
pub first_old : (vs : List Visit) (j k : ℕ) → j < k → same_entity vs j k ≡ true → is_first vs k ≡ false
unfolding is_first
first_old vs j k l h = ne_eqb (first_visit vs k) k (λ e. lt_irrefl k (omega (arith, first_same vs j k l h, first_le vs j)))

-- ---- the free numbers

pub free_step : (vs : List Visit) (k : ℕ) → is_first vs k ≡ true → free vs (suc k) ≡ free vs k + dofs_on vs k
unfolding free
free_step vs k h = rw h

pub free_stays : (vs : List Visit) (k : ℕ) → is_first vs k ≡ false → free vs (suc k) ≡ free vs k
unfolding free
free_stays vs k h = rw h (omega arith)

free_grows : (vs : List Visit) (k : ℕ) → free vs k ≤ free vs (suc k)
free_grows vs k = ⊎_elim (λ e. omega (arith, free_step vs k e)) (λ e. omega (arith, free_stays vs k e)) (cases (is_first vs k))

free_mono : (vs : List Visit) (j k : ℕ) → j ≤ k → free vs j ≤ free vs k
free_mono vs zero zero h = le_refl (free vs zero)
free_mono vs (suc j) zero h = absurd (not-suc-le-zero h)
free_mono vs j (suc k) h =
    ⊎_elim (λ e. subst (λ (n : ℕ). free vs j ≤ free vs n) e (le_refl (free vs j))) (λ l. omega (arith, free_mono vs j k (le_of_suc-le-suc l), free_grows vs k)) (eq-or-lt_of_le h)

-- ---- the lists' lengths

pub length_next : (vs : List Visit) (j k : ℕ) → k ≡ suc j → length (dofs_to vs k) ≡ length (dofs_to vs j) + dofs_on vs j
unfolding dofs_to
length_next vs j k e =
    ap (λ (n : ℕ). length (dofs_to vs n)) e ∙ length-append (dofs_to vs j) (up_from (start vs j) (dofs_on vs j)) ∙ ap (λ (n : ℕ). length (dofs_to vs j) + n) (length_up_from (start vs j) (dofs_on vs j))

pub length_mono : (vs : List Visit) (j k : ℕ) → j ≤ k → length (dofs_to vs j) ≤ length (dofs_to vs k)
length_mono vs zero zero h = le_refl (length (dofs_to vs zero))
length_mono vs (suc j) zero h = absurd (not-suc-le-zero h)
length_mono vs j (suc k) h =
    ⊎_elim (λ e. subst (λ (n : ℕ). length (dofs_to vs j) ≤ length (dofs_to vs n)) e (le_refl (length (dofs_to vs j))))
    (λ l. omega (arith, length_mono vs j k (le_of_suc-le-suc l), length_next vs k (suc k) refl))
    (eq-or-lt_of_le h)

pub free_le_length : (vs : List Visit) (k : ℕ) → free vs k ≤ length (dofs_to vs k)
unfolding free
free_le_length vs zero = zero-le
free_le_length vs (suc k) =
    ⊎_elim (λ e. omega (arith, free_step vs k e, free_le_length vs k, length_next vs k (suc k) refl))
    (λ e. omega (arith, free_stays vs k e, free_le_length vs k, length_next vs k (suc k) refl)) (cases (is_first vs k))

pub length_owners : (vs : List Visit) (k : ℕ) → length (owners_to vs k) ≡ 3 * free vs k
unfolding owners_to free
length_owners vs zero = refl
length_owners vs (suc k) = length-append (owners_to vs k) (more (is_first vs k)) ∙ rw (length_owners vs k) (grown (is_first vs k))
  where
    more : Bool → List ℕ
    more t = cond t (owners_on (dimension_of vs k) (entity_of vs k) (dofs_on vs k)) []

    grown : (t : Bool) → 3 * free vs k + length (more t) ≡ 3 * (free vs k + cond t (dofs_on vs k) 0)
    grown true = omega (arith, length_owners_on (dimension_of vs k) (entity_of vs k) (dofs_on vs k))
    grown false = omega arith

-- ---- two visits

-- visits of one entity write the same numbers
pub starts_agree : (vs : List Visit) (j k : ℕ) → same_entity vs j k ≡ true → start vs j ≡ start vs k
unfolding start
starts_agree vs j k h =
    ⊎_elim (λ l. ap (λ (n : ℕ). free vs n) (first_same vs j k l h))
    (λ l. ⊎_elim (λ e. ap (λ (n : ℕ). free vs (first_visit vs n)) (sym e)) (λ g. ap (λ (n : ℕ). free vs n) (sym (first_same vs k j g back))) (eq-or-lt_of_le l))
    (lt_or_le j k)
  where
    back : same_entity vs k j ≡ true
    back = same_of vs k j (sym (same_dimension vs j k h)) (sym (same_number vs j k h))

-- where an entity is met first, it gets the next free numbers
pub start_first : (vs : List Visit) (k : ℕ) → is_first vs k ≡ true → start vs k ≡ free vs k
unfolding start is_first
start_first vs k f = ap (λ (n : ℕ). free vs n) (eqb-true (first_visit vs k) k f)

-- every number below the count is written
pub number_used : (vs : List Visit) (k n : ℕ) → n < free vs k → (j : ℕ) × (i : ℕ) × (j < k) × (i < dofs_on vs j) × (start vs j + i ≡ n)
unfolding free
number_used vs zero n h = absurd (not-suc-le-zero h)
number_used vs (suc k) n h =
    ⊎_elim (λ l. let r : (j : ℕ) × (i : ℕ) × (j < k) × (i < dofs_on vs j) × (start vs j + i ≡ n) = number_used vs k n l in (r.0, r.1, omega arith, r.3, r.4))
    (λ l. ⊎_elim (λ f. (k, n - free vs k, omega arith, omega (arith, free_step vs k f, h), omega (arith, start_first vs k f)))
    (λ f. absurd (lt_irrefl n (omega (arith, free_stays vs k f, h)))) (cases (is_first vs k)))
    (lt_or_le n (free vs k))

module _ (vs : List Visit) (even : Even vs) where
  -- the numbers of the entity of visit k end where the next free number stood after its first visit
  start_ends : (k : ℕ) → k < length vs → start vs k + dofs_on vs k ≡ free vs (suc (first_visit vs k))
  unfolding start
  start_ends k b =
      rw (← even (first_visit vs k) k (omega (arith, first_le vs k)) b (first_meets vs k)) (sym (free_step vs (first_visit vs k) (first_is vs k)))

  -- a number that visit k writes is below the count, from the next visit on
  pub start_below : (k n : ℕ) → k < length vs → k < n → start vs k + dofs_on vs k ≤ free vs n
  start_below k n b h = omega (arith, start_ends k b, free_mono vs (suc (first_visit vs k)) n (omega (arith, first_le vs k)))

  -- the entity of visit j was met before that of visit k: its numbers are smaller
  numbers_rise : (j k i m : ℕ) → j < length vs → first_visit vs j < first_visit vs k → i < dofs_on vs j → start vs j + i ≡ start vs k + m → ⊥
  unfolding start
  numbers_rise j k i m b l h q = omega (arith, start_ends j b, free_mono vs (suc (first_visit vs j)) (first_visit vs k) l)

  -- visits of two entities write different numbers
  pub numbers_differ : (j k i m : ℕ) → j < length vs → k < length vs → same_entity vs j k ≡ false → i < dofs_on vs j → m < dofs_on vs k → start vs j + i ≡ start vs k + m → ⊥
  numbers_differ j k i m bj bk d hi hm e =
      ⊎_elim (λ l. numbers_rise j k i m bj l hi e) (λ l. ⊎_elim meet (λ g. numbers_rise k j m i bk g hm (sym e)) (eq-or-lt_of_le l)) (lt_or_le (first_visit vs j) (first_visit vs k))
    where
      meet : first_visit vs k ≡ first_visit vs j → ⊥
      meet q =
          true≢false (sym (same_join' vs j k (first_visit vs j) (first_meets vs j) (subst (λ (n : ℕ). same_entity vs n k ≡ true) q (first_meets vs k))) ∙ d)
