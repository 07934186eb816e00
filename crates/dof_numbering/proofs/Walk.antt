-- The proofs to `specs/Walk.antt`. Assumes nothing.
use Rattle.std.specs.Prelude.{ℕ, suc, ◌+◌, ◌*◌, ◌-◌, ◌<◌, ◌≤◌, ◌≡◌, refl, List, [], ◌∷◌, ◌++◌, get_or, set, take, drop}
use Rattle.std.proofs.Common.{zero-le, suc-mul, add-one, ap₂, ◌∙◌, ⊎_elim, take-suc, take_all, get_or-set_same, get_or-set_other, eq-eqb, ne_eqb}
use native.Mathlib.Omega.{arith}
use Rattle.std.proofs.Math.Path.{sym, ap, subst}
use Rattle.std.proofs.Math.ListN.{length}
use Rattle.std.proofs.lemmas.List.Edits.{sets, sets-eq}
use Rattle.std.proofs.Math.Seq.{length-sets, set_out, take-length}
use borrow.Rule.Slice.PartMut.{put_mid}
use Rattle.std.proofs.lemmas.Slice.{put_mid-paste}
use Rattle.lists.specs.Bounded.{lt_or_le, eq_or_ne}
use Rattle.lists.specs.Stores.{sets_append, sets_more}
use Rattle.function.specs.declared.Element.{Element}
use Rattle.dof_numbering.specs.Numbering.{Visit, visit, visit_each, visits_of, visit_at, up_from, owners_on}
use Rattle.dof_numbering.proofs.Facts.{length_up_from, length_owners_on}
use Rattle.dof_numbering.proofs.ByCell.{length_each, get_d_each}
use Rattle.dof_numbering.specs.Walk.{Room, State, cell_dofs, met_again, met_first, seen, slot, step, walk}

same_state : (s t : State) → s.met ≡ t.met → s.dofs ≡ t.dofs → s.owners ≡ t.owners → s.at ≡ t.at → s.next ≡ t.next → s ≡ t
same_state s t p q r a f = rw (p, q, r, a, f)

pub step_first : (st : State) (v : Visit) → seen st v ≡ 0 → step st v ≡ met_first st v
unfolding step
step_first st v e = rw (eq-eqb (seen st v) 0 e)

pub step_again : (st : State) (v : Visit) → (seen st v ≡ 0 → ⊥) → step st v ≡ met_again st v
unfolding step
step_again st v e = rw (ne_eqb (seen st v) 0 e)

-- with the numbers that the program has at hand: the slot i of entity x, and w, its m DOFs as an index
module _ (st st' : State) (d x m i w : ℕ) (slots : i ≡ slot d x) (wide : w ≡ m) where
  pub visited_first : get_or st.met i 0 ≡ 0 → st'.met ≡ set st.met i (st.next + 1) → st'.dofs ≡ sets st.dofs st.at (up_from st.next m)
      → st'.owners ≡ sets st.owners (3 * st.next) (owners_on d x m) → st'.at ≡ st.at + w → st'.next ≡ st.next + m → st' ≡ step st (visit d x m)
  visited_first z p q r a f =
      same_state st' (met_first st (visit d x m)) (rw (← slots) p) q r (rw (← wide) a) f ∙ sym (step_first st (visit d x m) (ap (λ (j : ℕ). get_or st.met j 0) (sym slots) ∙ z))

  pub visited_again : (get_or st.met i 0 ≡ 0 → ⊥) → st'.met ≡ st.met → st'.dofs ≡ sets st.dofs st.at (up_from (get_or st.met i 0 - 1) m) → st'.owners ≡ st.owners
      → st'.at ≡ st.at + w → st'.next ≡ st.next → st' ≡ step st (visit d x m)
  visited_again z p q r a f =
      same_state st' (met_again st (visit d x m)) p (rw (← slots) q) r (rw (← wide) a) f ∙ sym (step_again st (visit d x m) (λ e. z (ap (λ (j : ℕ). get_or st.met j 0) slots ∙ e)))

-- a turn of the loop that writes the numbers, and of the one that writes the owner records; w is the loop's count, as an index
pub numbers_step : (l d : List ℕ) (at n i w : ℕ) → d ≡ sets l at (up_from n i) → w ≡ i → set d (at + w) (n + i) ≡ sets l at (up_from n (i + 1))
unfolding up_from
numbers_step l d at n i w e f =
    let g : at + w ≡ at + length (up_from n i) = omega (arith, length_up_from n i) in
    rw (e, g, add-one) (sets_more l at (up_from n i) (n + i))

pub owners_step : (l o : List ℕ) (at d x i w : ℕ) → o ≡ sets l at (owners_on d x i) → w ≡ i
    → set (set (set o (at + 3 * w) d) (at + 3 * w + 1) x) (at + 3 * w + 2) i ≡ sets l at (owners_on d x (i + 1))
unfolding owners_on
owners_step l o at d x i w e f =
    let L : ℕ = at + length (owners_on d x i) in
    let g : at + 3 * w ≡ L = omega (arith, length_owners_on d x i) in
    let g₁ : at + 3 * w + 1 ≡ suc L = omega (arith, length_owners_on d x i) in
    let g₂ : at + 3 * w + 2 ≡ suc (suc L) = omega (arith, length_owners_on d x i) in
    rw (e, g₁, g₂, g, add-one) (sym (sets_append l at (owners_on d x i) (d ∷ x ∷ i ∷ [])))

-- the same where the three numbers are pasted as one part
pub owners_pasted : (l o ys : List ℕ) (at d x i w k : ℕ) → o ≡ sets l at (owners_on d x i) → w ≡ i → at + 3 * w + k ≤ length o → k ≡ 3 → ys ≡ d ∷ x ∷ i ∷ []
    → put_mid (at + 3 * w) k o ys ≡ sets l at (owners_on d x (i + 1))
unfolding owners_on
owners_pasted l o ys at d x i w k e f room three is =
    let g : at + 3 * w ≡ at + length (owners_on d x i) = omega (arith, length_owners_on d x i) in
    put_mid-paste (at + 3 * w) k o ys ys (length ys) refl (ap length is ∙ sym three) refl
    ∙ ap (λ (r : List ℕ). take (at + 3 * w) o ++ r ++ drop (at + 3 * w + length ys) o) (take-length ys)
    ∙ sym (sets-eq ys o (at + 3 * w) (omega (arith, ap length is)))
    ∙ rw (is, e, g, add-one) (sym (sets_append l at (owners_on d x i) (d ∷ x ∷ i ∷ [])))

pub walk_append : (st : State) (us vs : List Visit) → walk st (us ++ vs) ≡ walk (walk st us) vs
unfolding walk
walk_append st [] vs = refl
walk_append st (u ∷ us) vs = walk_append (step st u) us vs

walk_one : (st : State) (v : Visit) → walk st (v ∷ []) ≡ step st v
unfolding walk
walk_one st v = refl

-- a walk by one visit more
pub walk_more : (st : State) (vs : List Visit) (k : ℕ) → k < length vs → walk st (take (suc k) vs) ≡ step (walk st (take k vs)) (visit_at vs k)
walk_more st vs k h =
    ap (walk st) (take-suc vs k (visit 0 0 0) h) ∙ walk_append st (take k vs) (visit_at vs k ∷ []) ∙ walk_one (walk st (take k vs)) (visit_at vs k)

pub room_less : (st : State) (m n : ℕ) → m ≤ n → Room st n → Room st m
room_less st m n h r =
    record { kept = r.kept; dofs_long = omega (arith, r.dofs_long); owners_long = omega (arith, r.owners_long); few = omega (arith, r.few) }

-- a mark that is small leaves all marks small
marks_small : (l : List ℕ) (i a top : ℕ) → a ≤ top → ((x : ℕ) → get_or l x 0 ≤ top) → (x : ℕ) → get_or (set l i a) x 0 ≤ top
marks_small l i a top h f x =
    ⊎_elim (λ e. ⊎_elim (λ b. omega (arith, ap (λ (y : ℕ). get_or (set l i a) y 0) e ∙ get_or-set_same l i a 0 b)) (λ b. omega (arith, ap (λ (r : List ℕ). get_or r x 0) (set_out l i a b), f x)) (lt_or_le i (length l)))
    (λ n. omega (arith, get_or-set_other l i x a 0 n, f x)) (eq_or_ne x i)

room_step : (st : State) (v : Visit) (n : ℕ) → Room st (v.dofs + n) → Room (step st v) n
room_step st v n r =
    ⊎_elim (λ e. subst (λ (t : State). Room t n) (sym (step_first st v e)) (record {
      kept = marks_small st.met (slot v.dimension v.entity) (st.next + 1) (st.next + v.dofs + 1) (omega arith) (λ x. omega (arith, r.kept x));
      dofs_long = rw length-sets (omega (arith, r.dofs_long));
      owners_long = rw length-sets (omega (arith, r.owners_long));
      few = omega (arith, r.few);
    }))
    (λ e. subst (λ (t : State). Room t n) (sym (step_again st v e)) (record {
      kept = r.kept;
      dofs_long = rw length-sets (omega (arith, r.dofs_long));
      owners_long = omega (arith, r.owners_long);
      few = omega (arith, r.few);
    }))
    (eq_or_ne (seen st v) 0)

-- after visits of entities of one dimension
room_each : (st : State) (d m : ℕ) (xs : List ℕ) (n : ℕ) → Room st (length xs * m + n) → Room (walk st (visit_each d m xs)) n
unfolding walk
room_each st d m [] n r = room_less st n (0 * m + n) (omega arith) r
room_each st d m (x ∷ xs) n r =
    room_each (step st (visit d x m)) d m xs n
    (room_step st (visit d x m) (length xs * m + n) (room_less st (m + (length xs * m + n)) (suc (length xs) * m + n) (omega (arith, suc-mul (length xs) m)) r))

-- the loop over these entities: the first k are visited
pub record Visiting (from : State) (d m : ℕ) (xs : List ℕ) (k : ℕ) (st : State) : Type 0 where
  pub below : k ≤ length xs
  pub walked : st ≡ walk from (take k (visit_each d m xs))
  pub room : Room st ((length xs - k) * m)

module _ (from : State) (d m : ℕ) (xs : List ℕ) where
  pub visiting_none : Room from (length xs * m) → Visiting from d m xs 0 from
  unfolding walk
  visiting_none r =
      let e : length xs ≡ length xs - 0 = omega arith in
      record { below = zero-le; walked = refl; room = subst (λ (n : ℕ). Room from (n * m)) e r }

  module _ (k : ℕ) (st : State) (h : k < length xs) (v : Visiting from d m xs k st) where
    -- what is left, with the next entity and without
    left : (length xs - k) * m ≡ m + (length xs - (k + 1)) * m
    left =
        let e : length xs - k ≡ suc (length xs - (k + 1)) = omega arith in
        ap (λ (n : ℕ). n * m) e ∙ suc-mul (length xs - (k + 1)) m ∙ omega arith

    pub visiting_room : Room st m
    visiting_room = room_less st m ((length xs - k) * m) (omega (arith, left)) v.room

    pub visiting_turn : (st' : State) → st' ≡ step st (visit d (get_or xs k 0) m) → Visiting from d m xs (k + 1) st'
    visiting_turn st' e =
        record {
          below = omega arith;
          walked =
              e
              ∙ ap₂ step v.walked (sym (get_d_each d m xs k h))
              ∙ sym (walk_more from (visit_each d m xs) k (omega (arith, length_each d m xs)))
              ∙ ap (λ (n : ℕ). walk from (take n (visit_each d m xs))) (sym (add-one k));
          room = subst (λ (t : State). Room t ((length xs - (k + 1)) * m)) (sym e) (room_step st (visit d (get_or xs k 0) m) _ (room_less st _ _ (omega (arith, left)) v.room));
        }

  pub visiting_ends : (k : ℕ) (st : State) → length xs ≤ k → Visiting from d m xs k st → st ≡ walk from (visit_each d m xs)
  visiting_ends k st h v = v.walked ∙ ap (walk from) (take_all k (visit_each d m xs) (omega (arith, length_each d m xs)))

module _ (st : State) (vertices edges : List ℕ) (e : Element) where
  pub vertices_room : Room st (cell_dofs vertices edges e) → Room st (length vertices * e.a)
  unfolding cell_dofs
  vertices_room r = room_less st _ (cell_dofs vertices edges e) (omega arith) r

  module _ (st₁ : State) (w₁ : st₁ ≡ walk st (visit_each 0 e.a vertices)) where
    both_room : (n : ℕ) → Room st (cell_dofs vertices edges e + n) → Room st₁ (length edges * e.b + (e.c + n))
    unfolding cell_dofs
    both_room n r =
        subst (λ (t : State). Room t (length edges * e.b + (e.c + n))) (sym w₁)
        (room_each st 0 e.a vertices _ (room_less st _ (cell_dofs vertices edges e + n) (omega arith) r))

    pub edges_room : Room st (cell_dofs vertices edges e) → Room st₁ (length edges * e.b)
    edges_room r = room_less st₁ _ _ (omega arith) (both_room 0 (room_less st _ _ (omega arith) r))

    module _ (st₂ : State) (w₂ : st₂ ≡ walk st₁ (visit_each 1 e.b edges)) where
      cell_room : (n : ℕ) → Room st (cell_dofs vertices edges e + n) → Room st₂ (e.c + n)
      cell_room n r = subst (λ (t : State). Room t (e.c + n)) (sym w₂) (room_each st₁ 1 e.b edges (e.c + n) (both_room n r))

      pub inside_room : Room st (cell_dofs vertices edges e) → Room st₂ e.c
      inside_room r = room_less st₂ _ _ (omega arith) (cell_room 0 (room_less st _ _ (omega arith) r))

      pub cell_walked : (cell : ℕ) (st₃ : State) → st₃ ≡ step st₂ (visit 2 cell e.c) → st₃ ≡ walk st (visits_of cell vertices edges e)
      unfolding visits_of
      cell_walked cell st₃ w₃ =
          w₃
          ∙ ap (λ (t : State). step t (visit 2 cell e.c)) (w₂ ∙ ap (λ (t : State). walk t (visit_each 1 e.b edges)) w₁ ∙ sym (walk_append st (visit_each 0 e.a vertices) (visit_each 1 e.b edges)))
          ∙ sym (walk_append st (visit_each 0 e.a vertices ++ visit_each 1 e.b edges) (visit 2 cell e.c ∷ []) ∙ walk_one _ (visit 2 cell e.c))

  -- room that is left after them
  pub room_cell : (cell n : ℕ) → Room st (cell_dofs vertices edges e + n) → Room (walk st (visits_of cell vertices edges e)) n
  room_cell cell n r =
      let st₁ : State = walk st (visit_each 0 e.a vertices) in
      let st₂ : State = walk st₁ (visit_each 1 e.b edges) in
      subst (λ (t : State). Room t n) (cell_walked st₁ refl st₂ refl cell (step st₂ (visit 2 cell e.c)) refl) (room_step st₂ (visit 2 cell e.c) n (cell_room st₁ refl st₂ refl n r))
