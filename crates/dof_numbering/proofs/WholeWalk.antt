-- The walk over the visits of all cells leaves the numbers and the owner records of the definition; and the loop over the cells, which is this walk.
-- Assumes nothing.
use Prim.Native.Nat.{ℕ, zero, suc, ◌+◌, ◌*◌, ◌-◌, ◌<◌, ◌≤◌, zero-le}
use Rattle.std.proofs.Common.{not-suc-le-zero, le_refl, le_of_suc-le-suc, eq-or-lt_of_le, lt_irrefl, zero-add, mul-le-mul, ap₂, subst, ◌∙◌, append-nil, length-set, take_all, get_or-set_same, get_or-set_other}
use Rattle.std.proofs.Math.Nat.{le_trans}
use native.Mathlib.Omega.{arith}
use Rattle.std.specs.Prelude.{true, false, ◌≡◌, refl, List, ◌++◌, set, take, drop, replicate}
use Rattle.std.proofs.Math.Path.{sym, ap}
use Rattle.std.proofs.Math.Logic.{⊎_elim}
use Rattle.std.proofs.Math.ListN.{length, get_or, get_or-replicate, length-replicate, get_or-eq_default}
use Rattle.std.proofs.lemmas.List.Edits.{sets}
use borrow.Author.Tests.{eqb-false}
use Rattle.lists.specs.Bool.{true≢false, cases}
use Rattle.lists.specs.Bounded.{lt_or_le}
use Rattle.lists.specs.Stores.{sets_append, sets_all, sets_front}
use Rattle.grid.specs.Cells.{before, own}
use Rattle.grid.specs.CellsFacts.{before_most, before_more, part_inside, part_from, part_each}
use Rattle.grid.specs.Mesh.{most_cells, most_vertices, most_edges}
use Rattle.function.specs.declared.Element.{Element}
use Rattle.function.specs.Elements.{most_dim, dim_of, cell_dim, Space}
use Rattle.dof_numbering.specs.Numbering.{Visit, corners, sides, element_on, cell_visits, visits_of, visits, visit_at, dimension_of, entity_of, dofs_on, same_entity, first_visit, is_first, free, start, up_from, owners_on, dofs_to, owners_to, dof_list, owner_list, dof_count, kind, visit_of}
use Rattle.dof_numbering.proofs.Facts.{same_dimension, same_number, same_of, first_le, first_meets, first_first, first_old, free_step, free_stays, start_first, length_next, free_le_length, length_owners}
use Rattle.dof_numbering.proofs.ByCell.Met.{vertex, edge, inside}
use Rattle.dof_numbering.proofs.ByCell.{Met, met, visits_none, visits_more, corners_length, sides_length, visit_which, length_dofs}
use Rattle.dof_numbering.specs.Walk.{Sized, Slots, most_entities, slot, State, seen, met_first, met_again, step, walk, Room, cell_dofs}
use Rattle.dof_numbering.proofs.Walk.{step_first, step_again, walk_append, walk_more, room_less, room_cell}

-- ---- an entity has a slot of its own

abbrev slot_at : List Visit → ℕ → ℕ
slot_at vs k = slot (dimension_of vs k) (entity_of vs k)

same_slot : (vs : List Visit) (j k : ℕ) → same_entity vs j k ≡ true → slot_at vs j ≡ slot_at vs k
same_slot vs j k e = ap (λ (d : ℕ). slot d (entity_of vs j)) (same_dimension vs j k e) ∙ ap (λ (x : ℕ). slot (dimension_of vs k) x) (same_number vs j k e)

-- visits whose slots lie in `met`, different ones for different entities
record Slotted (vs : List Visit) : Type 0 where
  below : (k : ℕ) → k < length vs → slot_at vs k < most_entities
  same : (j k : ℕ) → j < length vs → k < length vs → slot_at vs j ≡ slot_at vs k → same_entity vs j k ≡ true

-- ---- what the lists hold before visit k

record Walked (vs : List Visit) (k : ℕ) (dofs₀ owners₀ : List ℕ) (st : State) : Type 0 where
  at_is : st.at ≡ length (dofs_to vs k)
  next_is : st.next ≡ free vs k
  dofs_are : st.dofs ≡ sets dofs₀ 0 (dofs_to vs k)
  owners_are : st.owners ≡ sets owners₀ 0 (owners_to vs k)
  size : length st.met ≡ most_entities
  marked : (j : ℕ) → j < k → get_or st.met (slot_at vs j) 0 ≡ suc (start vs j)
  unmarked : (x : ℕ) → x < most_entities → ((j : ℕ) → j < k → slot_at vs j ≡ x → ⊥) → get_or st.met x 0 ≡ 0

-- nothing is met yet
abbrev pub begun : List ℕ → List ℕ → State
begun dofs owners = record { met = replicate most_entities 0; dofs = dofs; owners = owners; at = 0; next = 0 }

walked_none : (vs : List Visit) (dofs owners : List ℕ) → Walked vs 0 dofs owners (begun dofs owners)
unfolding dofs_to owners_to free
walked_none vs dofs owners =
    record {
      at_is = refl;
      next_is = refl;
      dofs_are = refl;
      owners_are = refl;
      size = length-replicate {A = ℕ} most_entities 0;
      marked = λ j l. absurd (not-suc-le-zero l);
      unmarked = λ x b f. get_or-replicate most_entities x 0 0 b;
    }

-- ---- a visit takes them to the next one

module _ (vs : List Visit) (slots : Slotted vs) {k : ℕ} {dofs₀ owners₀ : List ℕ} {st : State} (b : k < length vs) (w : Walked vs k dofs₀ owners₀ st) where
  abbrev v : Visit
  v = visit_at vs k

  -- what it finds at its slot
  finds_new : is_first vs k ≡ true → seen st v ≡ 0
  finds_new f =
      w.unmarked (slot_at vs k) (slots.below k b)
      (λ j l e. true≢false (sym f ∙ first_old vs j k l (slots.same j k (omega arith) b e)))

  finds_old : is_first vs k ≡ false → seen st v ≡ suc (start vs k)
  unfolding is_first start
  finds_old f =
      let l : first_visit vs k < k = omega (arith, first_le vs k, eqb-false (first_visit vs k) k f) in
      ap (λ (x : ℕ). get_or st.met x 0) (sym (same_slot vs (first_visit vs k) k (first_meets vs k)))
      ∙ w.marked (first_visit vs k) l
      ∙ ap (λ (x : ℕ). suc (free vs x)) (first_first vs k)

  -- the numbers that it writes are those of the definition
  numbers : (z : ℕ) → z ≡ start vs k → sets st.dofs st.at (up_from z (dofs_on vs k)) ≡ sets dofs₀ 0 (dofs_to vs (suc k))
  unfolding dofs_to
  numbers z e =
      rw (e, w.dofs_are, w.at_is) (sym (sets_append dofs₀ 0 (dofs_to vs k) (up_from (start vs k) (dofs_on vs k)) ∙ rw zero-add))

  at_next : st.at + dofs_on vs k ≡ length (dofs_to vs (suc k))
  at_next = omega (arith, w.at_is, length_next vs k (suc k) refl)

  -- it is met here first: the next free numbers, and a mark at its slot
  module _ (f : is_first vs k ≡ true) where
    owned : sets st.owners (3 * st.next) (owners_on (dimension_of vs k) (entity_of vs k) (dofs_on vs k)) ≡ sets owners₀ 0 (owners_to vs (suc k))
    unfolding owners_to
    owned =
        let g : 3 * st.next ≡ length (owners_to vs k) = omega (arith, w.next_is, length_owners vs k) in
        rw (f, w.owners_are, g) (sym (sets_append owners₀ 0 (owners_to vs k) (owners_on (dimension_of vs k) (entity_of vs k) (dofs_on vs k)) ∙ rw zero-add))

    marks : (j : ℕ) → j < suc k → get_or (set st.met (slot_at vs k) (st.next + 1)) (slot_at vs j) 0 ≡ suc (start vs j)
    marks j l = ⊎_elim here before (eq-or-lt_of_le (le_of_suc-le-suc l))
      where
        here : j ≡ k → get_or (set st.met (slot_at vs k) (st.next + 1)) (slot_at vs j) 0 ≡ suc (start vs j)
        here e =
            rw e (get_or-set_same st.met (slot_at vs k) (st.next + 1) 0 (rw w.size (slots.below k b)) ∙ omega (arith, w.next_is, start_first vs k f))

        before : j < k → get_or (set st.met (slot_at vs k) (st.next + 1)) (slot_at vs j) 0 ≡ suc (start vs j)
        before lt =
            get_or-set_other st.met (slot_at vs k) (slot_at vs j) (st.next + 1) 0 (λ e. true≢false (sym f ∙ first_old vs j k lt (slots.same j k (omega arith) b e)))
            ∙ w.marked j lt

    first_walked : Walked vs (suc k) dofs₀ owners₀ (met_first st v)
    first_walked =
        record {
          at_is = at_next;
          next_is = omega (arith, w.next_is, free_step vs k f);
          dofs_are = numbers st.next (w.next_is ∙ sym (start_first vs k f));
          owners_are = owned;
          size = length-set st.met (slot_at vs k) (st.next + 1) ∙ w.size;
          marked = marks;
          unmarked = λ x bx fx. get_or-set_other st.met (slot_at vs k) x (st.next + 1) 0 (λ e. fx k (omega arith) (sym e)) ∙ w.unmarked x bx (λ j l. fx j (omega arith));
        }

  -- it was met before: the numbers that it has
  module _ (f : is_first vs k ≡ false) where
    not_owned : st.owners ≡ sets owners₀ 0 (owners_to vs (suc k))
    unfolding owners_to
    not_owned = rw (f, append-nil) w.owners_are

    again_walked : Walked vs (suc k) dofs₀ owners₀ (met_again st v)
    again_walked =
        record {
          at_is = at_next;
          next_is = w.next_is ∙ sym (free_stays vs k f);
          dofs_are = numbers (seen st v - 1) (omega (arith, finds_old f));
          owners_are = not_owned;
          size = w.size;
          marked = λ j l. ⊎_elim (λ e. rw e (finds_old f)) (λ lt. w.marked j lt) (eq-or-lt_of_le (le_of_suc-le-suc l));
          unmarked = λ x bx fx. w.unmarked x bx (λ j l. fx j (omega arith));
        }

  walked_step : Walked vs (suc k) dofs₀ owners₀ (step st v)
  walked_step =
      ⊎_elim (λ f. subst (λ (t : State). Walked vs (suc k) dofs₀ owners₀ t) (sym (step_first st v (finds_new f))) (first_walked f))
      (λ f. subst (λ (t : State). Walked vs (suc k) dofs₀ owners₀ t) (sym (step_again st v (λ e. lt_irrefl 0 (omega (arith, finds_old f))))) (again_walked f))
      (cases (is_first vs k))

-- so does the walk of all visits
walked : (vs : List Visit) → Slotted vs → (dofs owners : List ℕ) (k : ℕ) → k ≤ length vs → Walked vs k dofs owners (walk (begun dofs owners) (take k vs))
unfolding walk
walked vs slots dofs owners zero h = walked_none vs dofs owners
walked vs slots dofs owners (suc k) h =
    subst (λ (t : State). Walked vs (suc k) dofs owners t) (sym (walk_more (begun dofs owners) vs k h)) (walked_step vs slots h (walked vs slots dofs owners k (omega arith)))

-- ---- the slots of the visits of a mesh

-- what visit k meets, by its dimension
data View (vs : List Visit) (k : ℕ) : Type 0 where
  a_vertex : dimension_of vs k ≡ 0 → entity_of vs k < most_vertices → slot_at vs k ≡ entity_of vs k → View vs k
  an_edge : dimension_of vs k ≡ 1 → entity_of vs k < most_edges → slot_at vs k ≡ most_vertices + entity_of vs k → View vs k
  a_cell : dimension_of vs k ≡ 2 → entity_of vs k < most_cells → slot_at vs k ≡ most_vertices + most_edges + entity_of vs k → View vs k

slots_below : (vs : List Visit) (k : ℕ) → View vs k → slot_at vs k < most_entities
slots_below vs k (a_vertex d e f) = omega arith
slots_below vs k (an_edge d e f) = omega arith
slots_below vs k (a_cell d e f) = omega arith

slots_same : (vs : List Visit) (j k : ℕ) → View vs j → View vs k → slot_at vs j ≡ slot_at vs k → same_entity vs j k ≡ true
slots_same vs j k (a_vertex d e f) (a_vertex d' e' f') q = same_of vs j k (omega arith) (omega arith)
slots_same vs j k (a_vertex d e f) (an_edge d' e' f') q = absurd (lt_irrefl 0 (omega arith))
slots_same vs j k (a_vertex d e f) (a_cell d' e' f') q = absurd (lt_irrefl 0 (omega arith))
slots_same vs j k (an_edge d e f) (a_vertex d' e' f') q = absurd (lt_irrefl 0 (omega arith))
slots_same vs j k (an_edge d e f) (an_edge d' e' f') q = same_of vs j k (omega arith) (omega arith)
slots_same vs j k (an_edge d e f) (a_cell d' e' f') q = absurd (lt_irrefl 0 (omega arith))
slots_same vs j k (a_cell d e f) (a_vertex d' e' f') q = absurd (lt_irrefl 0 (omega arith))
slots_same vs j k (a_cell d e f) (an_edge d' e' f') q = absurd (lt_irrefl 0 (omega arith))
slots_same vs j k (a_cell d e f) (a_cell d' e' f') q = same_of vs j k (omega arith) (omega arith)

module _ (s : Space) (C : ℕ) (h : Sized s C) where
  corner_below : (i p : ℕ) → p < length (corners s i) → get_or (corners s i) p 0 < most_vertices
  corner_below i p b = part_each (λ x. x < most_vertices) own s.kinds s.cell_vertices h.vertices_below i p b

  side_below : (i p : ℕ) → p < length (sides s i) → get_or (sides s i) p 0 < most_edges
  side_below i p b = part_each (λ x. x < most_edges) own s.kinds s.cell_edges h.edges_below i p b

  view : (k : ℕ) → k < length (visits s C) → View (visits s C) k
  view k b =
      let r = visit_which s C h.filled k b in
      subst (View (visits s C)) (sym r.4) (go r.0 r.1 r.2 (met s C h.filled r.0 r.1 r.2 r.3))
    where
      -- the slot of what it meets
      at : (k : ℕ) (u : Visit) → visit_at (visits s C) k ≡ u → slot_at (visits s C) k ≡ slot u.dimension u.entity
      at k u e = ap (λ (v : Visit). slot v.dimension v.entity) e

      go : (i p : ℕ) → i < C → Met s C i p → View (visits s C) (visit_of s i p)
      go i p l (vertex a e) =
          let x = ap (λ (v : Visit). v.entity) e in
          a_vertex (ap (λ (v : Visit). v.dimension) e) (omega (arith, x, corner_below i p (omega (arith, corners_length s C h.filled i l)))) (at _ _ e ∙ sym x)
      go i p l (edge q a f e) =
          let x = ap (λ (v : Visit). v.entity) e in
          an_edge (ap (λ (v : Visit). v.dimension) e) (omega (arith, x, side_below i q (omega (arith, sides_length s C h.filled i l)))) (at _ _ e ∙ omega (arith, x))
      go i p l (inside f e) =
          let x = ap (λ (v : Visit). v.entity) e in
          a_cell (ap (λ (v : Visit). v.dimension) e) (omega (arith, x, h.few)) (at _ _ e ∙ omega (arith, x))

  slotted : Slotted (visits s C)
  slotted =
      record {
        below = λ k b. slots_below (visits s C) k (view k b);
        same = λ j k bj bk e. slots_same (visits s C) j k (view j bj) (view k bk) e;
      }

  -- after the last visit
  walk_ends : (dofs₀ owners₀ : List ℕ) (st : State) → length dofs₀ ≡ before (cell_dim s.elements) s.kinds C → length owners₀ ≡ 3 * before (cell_dim s.elements) s.kinds C
      → st ≡ walk (begun dofs₀ owners₀) (visits s C) → (st.next ≡ dof_count s C) × (st.dofs ≡ dof_list s C) × (st.owners ≡ owner_list s C ++ drop (3 * dof_count s C) owners₀)
  walk_ends dofs₀ owners₀ st ld lo e =
      let vs : List Visit = visits s C in
      let w : Walked vs (length vs) dofs₀ owners₀ st =
      subst (Walked vs (length vs) dofs₀ owners₀) (ap (walk (begun dofs₀ owners₀)) (take_all (length vs) vs (le_refl _)) ∙ sym e) (walked vs slotted dofs₀ owners₀ (length vs) (le_refl _)) in
      let D = length_dofs s C h.filled in (
        w.next_is,
        w.dofs_are ∙ sets_all dofs₀ (dofs_to vs (length vs)) (D ∙ sym ld),
        w.owners_are
            ∙ sets_front owners₀ (owners_to vs (length vs)) (omega (arith, length_owners vs (length vs), free_le_length vs (length vs), D))
            ∙ rw length_owners,
      )

-- ---- the loop over the cells

abbrev dims_to : Space → ℕ → ℕ
dims_to s i = before (cell_dim s.elements) s.kinds i

-- the first i are numbered, and the numbers of cell i begin at `first` of the vertex list and of the edge list
pub record Numbered (s : Space) (C : ℕ) (dofs₀ owners₀ : List ℕ) (i first : ℕ) (st : State) : Type 0 where
  pub below : i ≤ C
  pub first_is : first ≡ before own s.kinds i
  pub walk_is : st ≡ walk (begun dofs₀ owners₀) (visits s i)
  pub room : Room st (dims_to s C - dims_to s i)

module _ (s : Space) (C : ℕ) (h : Sized s C) (dofs₀ owners₀ : List ℕ) where
  pub numbered_none : length dofs₀ ≡ dims_to s C → length owners₀ ≡ 3 * dims_to s C → Numbered s C dofs₀ owners₀ 0 0 (begun dofs₀ owners₀)
  unfolding before walk
  numbered_none ld lo =
      let most : dims_to s C ≤ most_cells * most_dim = le_trans (before_most (cell_dim s.elements) s.kinds most_dim C h.small) (mul-le-mul h.few (le_refl most_dim)) in
      record {
        below = zero-le;
        first_is = refl;
        walk_is = sym (ap (walk (begun dofs₀ owners₀)) (visits_none s));
        room = record { kept = unmet; dofs_long = omega arith; owners_long = omega arith; few = omega arith };
      }
    where
      unmet : (x : ℕ) → get_or (replicate most_entities 0) x 0 ≤ 0 + 1
      unmet x =
          ⊎_elim (λ b. omega (arith, get_or-replicate {A = ℕ} most_entities x 0 0 b))
          (λ b. omega (arith, get_or-eq_default {A = ℕ} (replicate most_entities 0) 0 {n = x} (omega (arith, length-replicate {A = ℕ} most_entities 0))))
          (lt_or_le x most_entities)

  -- a turn: n is the kind of cell i, and e the element on it
  module _ (i first : ℕ) (st : State) (b : i < C) (w : Numbered s C dofs₀ owners₀ i first st) (n : ℕ) (read : n ≡ kind s i) where
    pub vertices_reach : first + n ≤ length s.cell_vertices
    vertices_reach = omega (arith, w.first_is, h.filled.vertices_long, part_inside own s.kinds C i b)

    pub edges_reach : first + n ≤ length s.cell_edges
    edges_reach = omega (arith, w.first_is, h.filled.edges_long, part_inside own s.kinds C i b)

    module _ (vertices edges : List ℕ) (vs : vertices ≡ take ((first + n) - first) (drop first s.cell_vertices)) (es : edges ≡ take ((first + n) - first) (drop first s.cell_edges))
        (e : Element) (on : e ≡ element_on s i) where
      corners_are : vertices ≡ corners s i
      corners_are = vs ∙ part_from s.kinds i w.first_is (ap (λ (m : ℕ). first + m) read) s.cell_vertices

      sides_are : edges ≡ sides s i
      sides_are = es ∙ part_from s.kinds i w.first_is (ap (λ (m : ℕ). first + m) read) s.cell_edges

      -- what is left, with this cell and without
      rest : dims_to s C - dims_to s i ≡ cell_dofs vertices edges e + (dims_to s C - dims_to s (i + 1))
      unfolding cell_dofs dim_of
      rest =
          let x : length vertices ≡ kind s i = ap length corners_are ∙ corners_length s C h.filled i b in
          let y : length edges ≡ kind s i = ap length sides_are ∙ sides_length s C h.filled i b in
          rw (x, y, on) (omega (arith, part_inside (cell_dim s.elements) s.kinds C i b, before_more (cell_dim s.elements) s.kinds i))

      -- what `visit_cell` asks
      pub cell_asks : ((i < most_cells) × Slots 0 vertices × Slots 1 edges) × Room st (cell_dofs vertices edges e)
      cell_asks = (
        (
          omega (arith, h.few),
          subst (Slots 0) (sym corners_are) (record { below = λ p l. omega (arith, corner_below s C h i p l) }),
          subst (Slots 1) (sym sides_are) (record { below = λ p l. omega (arith, side_below s C h i p l) }),
        ),
        room_less st _ _ (omega (arith, rest)) w.room,
      )

      -- what it gives
      pub cell_gives : (st' : State) → st' ≡ walk st (visits_of i vertices edges e) → Numbered s C dofs₀ owners₀ (i + 1) (first + n) st'
      cell_gives st' w' =
          record {
            below = omega arith;
            first_is = ap₂ ◌+◌ w.first_is read ∙ sym (before_more own s.kinds i);
            walk_is =
                w'
                ∙ ap₂ (λ (us vs : List ℕ). walk st (visits_of i us vs e)) corners_are sides_are
                ∙ ap (λ (d : Element). walk st (visits_of i (corners s i) (sides s i) d)) on
                ∙ ap (λ (t : State). walk t (cell_visits s i)) w.walk_is
                ∙ sym (ap (walk (begun dofs₀ owners₀)) (visits_more s i) ∙ walk_append (begun dofs₀ owners₀) (visits s i) (cell_visits s i));
            room = subst (λ (t : State). Room t (dims_to s C - dims_to s (i + 1))) (sym w') (room_cell st vertices edges e i _ (room_less st _ _ (omega (arith, rest)) w.room));
          }

  -- the end
  pub numbered_ends : (i first : ℕ) (st : State) → length dofs₀ ≡ dims_to s C → length owners₀ ≡ 3 * dims_to s C → C ≤ i → Numbered s C dofs₀ owners₀ i first st
      → (st.next ≡ dof_count s C) × (st.dofs ≡ dof_list s C) × (st.owners ≡ owner_list s C ++ drop (3 * dof_count s C) owners₀)
  numbered_ends i first st ld lo e w =
      let all : i ≡ C = omega (arith, w.below) in
      walk_ends s C h dofs₀ owners₀ st ld lo (w.walk_is ∙ ap (λ (n : ℕ). walk (begun dofs₀ owners₀) (visits s n)) all)
