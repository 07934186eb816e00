-- The edge rule as the code reads it: each two vertices have a key, and each edge number keeps the key of its first place. Assumes nothing.
use Prim.Native.Nat.{ℕ, ◌+◌, ◌-◌, ◌*◌, ◌<◌, ◌≤◌}
use Rattle.std.proofs.Common.{not-suc-le-zero, lt_irrefl, add-one, arith, ◌∙◌, length-set, get_or-set_same, get_or-set_other}
use Rattle.std.proofs.Math.Nat.{zero-add}
use Rattle.std.specs.Prelude.{Bool, false, cond, ◌≡◌, refl, ◌⊎◌, set, take, drop, replicate, eqb}
use Rattle.std.proofs.Math.Bool.{true, not}
use Rattle.std.proofs.Math.Path.{sym, ap, ap₂, subst}
use Rattle.std.proofs.Math.Logic.{inl, inr, ⊎_elim}
use mathlib.Core.List.{List, [], ◌∷◌, ◌++◌, flat_map, map}
use Rattle.std.proofs.Math.ListN.{length, get_or}
use Rattle.std.proofs.lemmas.List.{length-replicate, get_or-replicate, length-map, map-append}
use Rattle.std.proofs.Math.Seq.{sets, length-sets}
use Rattle.std.proofs.Math.Dec.{ltb}
use borrow.Author.Tests.{lt-ltb, le-ltb, eqb-true, eqb-false, eq-eqb, not-true, not-false}
use Rattle.lists.specs.Bool.{◌and◌, ◌or◌, iff, true≢false, same_test, every, every_at, and_left, and_right, and_both, and_no_left, or_cases, or_left, or_right, or_no_left, or_no_right}
use Rattle.lists.specs.Bounded.{all, all_of, all_fails, all_ext, some, some_at, some_not, some_which, lt_or_le, eq_or_ne}
use Rattle.lists.specs.Range.{range, length_range, map_at, part_all, flat_map_none, flat_map_range}
use Rattle.lists.specs.Stores.{sets_append, sets_more, sets_all}
use Rattle.numbers.specs.Ranges.{within, all_below, within_high, below_at}
use Rattle.grid.specs.Cells.{before, part, own, ends_of, same_two}
use Rattle.grid.specs.CellsFacts.{Shaped, shaped_length, Begins, begins_first, begins_next, begins_part, part_each, get_d_part, length_cells, cells_at, all_cells}
use Rattle.grid.specs.Mesh.{most_vertices, most_edges, Mesh, kind, corners, sides, places_agree, edge_rule, edges_right}
use Rattle.grid.specs.Facts.{same_two_cases, first_below, second_below}

-- the key of two vertex numbers, in either order
unfoldable pub pair_key : ℕ → ℕ → ℕ
pair_key a b = cond (ltb a b) (most_vertices * a + b) (most_vertices * b + a)

-- the keys of the local edges of a cell of kind n with the vertices xs
unfoldable pub cell_keys : ℕ → List ℕ → List ℕ
cell_keys n xs = map (λ e. pair_key (get_or xs (ends_of n e).first 0) (get_or xs (ends_of n e).second 0)) (range n)

-- the keys of the edge places of the first n cells, in the order of the edge list
unfoldable pub edge_keys : List ℕ → List ℕ → ℕ → List ℕ
edge_keys ks vs n = flat_map (λ i. cell_keys (get_or ks i 0) (part own ks vs i)) (range n)

-- any two edge places have the same number exactly when they have the same key
unfoldable pub keys_agree : List ℕ → List ℕ → Bool
keys_agree ps es = all (length es) (λ k. all (length es) (λ l. iff (eqb (get_or es k 0) (get_or es l 0)) (eqb (get_or ps k 0) (get_or ps l 0))))

-- no key: an edge that no place has had yet
abbrev pub no_key : ℕ
no_key = most_vertices * most_vertices

-- one of the first n edges has the key
abbrev pub has_key : List ℕ → ℕ → ℕ → Bool
has_key keys n key = some n (λ e. eqb (get_or keys e 0) key)

-- edge e, of n, may have the key: it has it already, or it has none and no edge has this one
unfoldable pub may_have : List ℕ → ℕ → ℕ → ℕ → Bool
may_have keys n e key = eqb (get_or keys e 0) key or (eqb (get_or keys e 0) no_key and not (has_key keys n key))

-- what the reading of the edge rule asks for: the keys of the edge places, and their numbers
pub record Numbered (ps es : List ℕ) (count : ℕ) : Type 0 where
  pub long : length ps ≡ length es
  pub keys_are_below : all_below ps no_key ≡ true
  pub edge_below : all_below es count ≡ true
  pub few : count ≤ most_edges

-- the keys of the edges after the first k places: each place's number has its key, each key is that of a place with the number, and places with the
-- same key have the same number
pub record Known (ps es keys : List ℕ) (count k : ℕ) : Type 0 where
  pub long : length keys ≡ most_edges
  pub kept : (p : ℕ) → p < k → get_or keys (get_or es p 0) 0 ≡ get_or ps p 0
  pub source : (e : ℕ) → e < count → (get_or keys e 0 ≡ no_key → ⊥) → (p : ℕ) × (p < k) × (get_or es p 0 ≡ e) × (get_or ps p 0 ≡ get_or keys e 0)
  pub apart : (p q : ℕ) → p < k → q < k → get_or ps p 0 ≡ get_or ps q 0 → get_or es p 0 ≡ get_or es q 0

-- from top on no edge has a key
pub record Unmarked (keys : List ℕ) (top count : ℕ) : Type 0 where
  pub below : top ≤ count
  pub none : (e : ℕ) → top ≤ e → e < count → get_or keys e 0 ≡ no_key

pub unmarked_first : (count : ℕ) → count ≤ most_edges → Unmarked (replicate most_edges no_key) 0 count
unmarked_first count few = record { below = omega arith; none = λ e h l. get_or-replicate most_edges e no_key 0 (omega arith) }

pub unmarked_later : {keys : List ℕ} {top next count : ℕ} → Unmarked keys top count → top ≤ next → next ≤ count → Unmarked keys next count
unmarked_later w h l = record { below = l; none = λ e g k. w.none e (omega arith) k }

pub unmarked_set : {keys : List ℕ} {top count : ℕ} (e x : ℕ) → Unmarked keys top count → e < top → Unmarked (set keys e x) top count
unmarked_set {keys} e x w h = record { below = w.below; none = λ f g k. get_or-set_other keys e f x 0 (λ q. absurd (omega arith)) ∙ w.none f g k }

-- so only those below need be looked at
pub may_short : {keys : List ℕ} {top count : ℕ} (e x : ℕ) → Unmarked keys top count → x < no_key → may_have keys top e x ≡ may_have keys count e x
unfolding may_have
may_short {keys} {top} {count} e x w small =
    ap (λ (b : Bool). eqb (get_or keys e 0) x or (eqb (get_or keys e 0) no_key and not b)) (same_test (has_key keys top x) (has_key keys count x) there back)
  where
    there : has_key keys top x ≡ true → has_key keys count x ≡ true
    there t = let f : (f : ℕ) × (f < top) × (eqb (get_or keys f 0) x ≡ true) = some_which top (λ y. eqb (get_or keys y 0) x) t in some_at count (λ y. eqb (get_or keys y 0) x) f.0 (omega (arith, f.1, w.below)) f.2

    back : has_key keys count x ≡ true → has_key keys top x ≡ true
    back t =
        let f : (f : ℕ) × (f < count) × (eqb (get_or keys f 0) x ≡ true) = some_which count (λ y. eqb (get_or keys y 0) x) t in
        ⊎_elim (λ l. some_at top (λ y. eqb (get_or keys y 0) x) f.0 l f.2)
        (λ l. absurd (omega (arith, small, eqb-true (get_or keys f.0 0) x f.2, w.none f.0 l f.1))) (lt_or_le f.0 top)

-- ---- two pairs are the same two exactly when their keys are the same

pub key_up : (a b : ℕ) → a ≤ b → pair_key a b ≡ most_vertices * a + b
unfolding pair_key
key_up a b h =
    ⊎_elim (λ l. rw (lt-ltb a b l)) (λ l. let e : most_vertices * b + a ≡ most_vertices * a + b = omega arith in rw (le-ltb a b l) e) (lt_or_le a b)

pub key_down : (a b : ℕ) → b ≤ a → pair_key a b ≡ most_vertices * b + a
unfolding pair_key
key_down a b h = rw (le-ltb a b h)

key_turned : (a b : ℕ) → pair_key a b ≡ pair_key b a
key_turned a b =
    ⊎_elim (λ l. key_up a b (omega arith) ∙ sym (key_down b a (omega arith))) (λ l. key_down a b l ∙ sym (key_up b a l)) (lt_or_le a b)

key_below : (a b : ℕ) → a < most_vertices → b < most_vertices → pair_key a b < no_key
key_below a b la lb =
    ⊎_elim (λ l. omega (arith, key_up a b (omega arith))) (λ l. omega (arith, key_down a b l)) (lt_or_le a b)

same_key : (a b c d : ℕ) → a < most_vertices → b < most_vertices → c < most_vertices → d < most_vertices → pair_key a b ≡ pair_key c d → ((a ≡ c) × (b ≡ d)) ⊎ ((a ≡ d) × (b ≡ c))
same_key a b c d la lb lc ld e = go (lt_or_le a b) (lt_or_le c d)
  where
    go : (a < b) ⊎ (b ≤ a) → (c < d) ⊎ (d ≤ c) → ((a ≡ c) × (b ≡ d)) ⊎ ((a ≡ d) × (b ≡ c))
    go (inl x) (inl y) = let s : most_vertices * a + b ≡ most_vertices * c + d = sym (key_up a b (omega arith)) ∙ e ∙ key_up c d (omega arith) in inl (omega arith, omega arith)
    go (inl x) (inr y) = let s : most_vertices * a + b ≡ most_vertices * d + c = sym (key_up a b (omega arith)) ∙ e ∙ key_down c d y in inr (omega arith, omega arith)
    go (inr x) (inl y) = let s : most_vertices * b + a ≡ most_vertices * c + d = sym (key_down a b x) ∙ e ∙ key_up c d (omega arith) in inr (omega arith, omega arith)
    go (inr x) (inr y) = let s : most_vertices * b + a ≡ most_vertices * d + c = sym (key_down a b x) ∙ e ∙ key_down c d y in inl (omega arith, omega arith)

same_two_keys : (a b c d : ℕ) → a < most_vertices → b < most_vertices → c < most_vertices → d < most_vertices → same_two a b c d ≡ eqb (pair_key a b) (pair_key c d)
unfolding same_two
same_two_keys a b c d la lb lc ld = same_test (same_two a b c d) (eqb (pair_key a b) (pair_key c d)) there back
  where
    there : same_two a b c d ≡ true → eqb (pair_key a b) (pair_key c d) ≡ true
    there h =
        eq-eqb (pair_key a b) (pair_key c d)
        (⊎_elim (λ w. ap₂ pair_key w.0 w.1) (λ w. key_turned a b ∙ ap₂ pair_key w.1 w.0) (same_two_cases a b c d h))

    both : (x y z w : ℕ) → x ≡ y → z ≡ w → eqb x y and eqb z w ≡ true
    both x y z w p q = and_both (eqb x y) (eqb z w) (eq-eqb x y p) (eq-eqb z w q)

    back : eqb (pair_key a b) (pair_key c d) ≡ true → same_two a b c d ≡ true
    back h =
        ⊎_elim (λ w. or_left (eqb a c and eqb b d) (eqb a d and eqb b c) (both a c b d w.0 w.1))
        (λ w. or_right (eqb a c and eqb b d) (eqb a d and eqb b c) (both a d b c w.0 w.1))
        (same_key a b c d la lb lc ld (eqb-true (pair_key a b) (pair_key c d) h))

iff_same : (a b : Bool) → a ≡ b → iff a b ≡ true
unfolding iff
iff_same true b e = sym e
iff_same false b e = ap not (sym e)

iff_other : (a b : Bool) → (a ≡ b → ⊥) → iff a b ≡ false
unfolding iff
iff_other true true h = absurd (h refl)
iff_other true false h = refl
iff_other false true h = refl
iff_other false false h = absurd (h refl)

and_rest : (a b : Bool) → a ≡ true → a and b ≡ false → b ≡ false
unfolding ◌and◌
and_rest true b p q = q
and_rest false b p q = absurd (true≢false (sym p))

-- ---- the rule by keys

module _ (ps es : List ℕ) (count : ℕ) (h : Numbered ps es count) where
  a_key : (p : ℕ) → p < length es → get_or ps p 0 ≡ no_key → ⊥
  a_key p l e = lt_irrefl no_key (subst (λ (x : ℕ). x < no_key) e (below_at ps no_key h.keys_are_below p (omega (arith, h.long))))

  pub edge_under : (p : ℕ) → p < length es → {e : ℕ} → e ≡ get_or es p 0 → e < count
  edge_under p l q = subst (λ (e : ℕ). e < count) (sym q) (below_at es count h.edge_below p l)

  -- one pair of places that disagrees
  broken : (p q : ℕ) → p < length es → q < length es → (eqb (get_or es p 0) (get_or es q 0) ≡ eqb (get_or ps p 0) (get_or ps q 0) → ⊥) → keys_agree ps es ≡ false
  unfolding keys_agree
  broken p q lp lq differ =
      all_fails (length es) _ p lp (all_fails (length es) _ q lq (iff_other (eqb (get_or es p 0) (get_or es q 0)) (eqb (get_or ps p 0) (get_or ps q 0)) differ))

  broken_number : (p q : ℕ) → p < length es → q < length es → get_or es p 0 ≡ get_or es q 0 → (get_or ps p 0 ≡ get_or ps q 0 → ⊥) → keys_agree ps es ≡ false
  broken_number p q lp lq e n =
      broken p q lp lq (λ s. n (eqb-true (get_or ps p 0) (get_or ps q 0) (sym s ∙ eq-eqb (get_or es p 0) (get_or es q 0) e)))

  broken_key : (p q : ℕ) → p < length es → q < length es → get_or ps p 0 ≡ get_or ps q 0 → (get_or es p 0 ≡ get_or es q 0 → ⊥) → keys_agree ps es ≡ false
  broken_key p q lp lq e n =
      broken p q lp lq (λ s. n (eqb-true (get_or es p 0) (get_or es q 0) (s ∙ eq-eqb (get_or ps p 0) (get_or ps q 0) e)))

  -- no place yet
  pub known_none : Known ps es (replicate most_edges no_key) count 0
  known_none =
      record {
        long = length-replicate {A = ℕ} most_edges no_key;
        kept = λ p l. absurd (not-suc-le-zero l);
        source = λ e l n. absurd (n (get_or-replicate most_edges e no_key 0 (omega (arith, h.few))));
        apart = λ p q l. absurd (not-suc-le-zero l);
      }

  -- all places
  pub known_all : (keys : List ℕ) (k : ℕ) → k ≡ length es → Known ps es keys count k → true ≡ keys_agree ps es
  unfolding keys_agree
  known_all keys k done w =
      sym (all_of (length es) _ (λ p lp. all_of (length es) _ (λ q lq. agree p q lp lq)))
    where
      agree : (p q : ℕ) → p < length es → q < length es → iff (eqb (get_or es p 0) (get_or es q 0)) (eqb (get_or ps p 0) (get_or ps q 0)) ≡ true
      agree p q lp lq =
          iff_same (eqb (get_or es p 0) (get_or es q 0)) (eqb (get_or ps p 0) (get_or ps q 0))
          (same_test (eqb (get_or es p 0) (get_or es q 0)) (eqb (get_or ps p 0) (get_or ps q 0))
          (λ e. eq-eqb (get_or ps p 0) (get_or ps q 0) (sym (w.kept p (omega arith)) ∙ ap (λ (x : ℕ). get_or keys x 0) (eqb-true (get_or es p 0) (get_or es q 0) e) ∙ w.kept q (omega arith)))
          (λ e. eq-eqb (get_or es p 0) (get_or es q 0) (w.apart p q (omega arith) (omega arith) (eqb-true (get_or ps p 0) (get_or ps q 0) e))))

  -- the next place k, where edge e and key x are its own
  module _ {keys : List ℕ} {k : ℕ} (w : Known ps es keys count k) (l : k < length es) {e x : ℕ} (ee : e ≡ get_or es k 0) (xx : x ≡ get_or ps k 0) where
    -- it has the key, or it has none and no edge has this one
    free : may_have keys count e x ≡ true → (get_or keys e 0 ≡ x) ⊎ ((get_or keys e 0 ≡ no_key) × (has_key keys count x ≡ false))
    unfolding may_have
    free m =
        ⊎_elim (λ y. inl (eqb-true (get_or keys e 0) x y))
        (λ y. inr (eqb-true (get_or keys e 0) no_key (and_left (eqb (get_or keys e 0) no_key) (not (has_key keys count x)) y), not-true (has_key keys count x) (and_right (eqb (get_or keys e 0) no_key) (not (has_key keys count x)) y)))
        (or_cases (eqb (get_or keys e 0) x) (eqb (get_or keys e 0) no_key and not (has_key keys count x)) m)

    under : e < count
    under = edge_under k l ee

    -- each earlier place's number has its key still
    still : may_have keys count e x ≡ true → (p : ℕ) → p < k → get_or (set keys e x) (get_or es p 0) 0 ≡ get_or ps p 0
    still m p lp = ⊎_elim here other (eq_or_ne (get_or es p 0) e)
      where
        here : get_or es p 0 ≡ e → get_or (set keys e x) (get_or es p 0) 0 ≡ get_or ps p 0
        here q =
            let at : get_or keys e 0 ≡ get_or ps p 0 = ap (λ (y : ℕ). get_or keys y 0) (sym q) ∙ w.kept p lp in
            ap (λ (y : ℕ). get_or (set keys e x) y 0) q
            ∙ get_or-set_same keys e x 0 (omega (arith, w.long, under, h.few))
            ∙ ⊎_elim (λ f. sym f ∙ at) (λ f. absurd (a_key p (omega arith) (sym at ∙ f.0))) (free m)

        other : (get_or es p 0 ≡ e → ⊥) → get_or (set keys e x) (get_or es p 0) 0 ≡ get_or ps p 0
        other n = get_or-set_other keys e (get_or es p 0) x 0 n ∙ w.kept p lp

    -- an earlier place with this key has this number
    same_number : may_have keys count e x ≡ true → (p : ℕ) → p < k → get_or ps p 0 ≡ x → get_or es p 0 ≡ e
    same_number m p lp q = ⊎_elim known new (free m)
      where
        known : get_or keys e 0 ≡ x → get_or es p 0 ≡ e
        known f =
            let s : (o : ℕ) × (o < k) × (get_or es o 0 ≡ e) × (get_or ps o 0 ≡ get_or keys e 0) = w.source e under (λ z. a_key k l (sym xx ∙ sym f ∙ z)) in
            w.apart p s.0 lp s.1 (q ∙ sym f ∙ sym s.3) ∙ s.2

        new : (get_or keys e 0 ≡ no_key) × (has_key keys count x ≡ false) → get_or es p 0 ≡ e
        new f =
            absurd (eqb-false (get_or keys (get_or es p 0) 0) x (some_not count (λ y. eqb (get_or keys y 0) x) f.1 (get_or es p 0) (edge_under p (omega arith) refl))
            (w.kept p lp ∙ q))

    last_number : (p : ℕ) → k ≤ p → p < k + 1 → get_or es p 0 ≡ e
    last_number p a b = let z : p ≡ k = omega arith in ap (λ (y : ℕ). get_or es y 0) z ∙ sym ee

    last_key : (p : ℕ) → k ≤ p → p < k + 1 → get_or ps p 0 ≡ x
    last_key p a b = let z : p ≡ k = omega arith in ap (λ (y : ℕ). get_or ps y 0) z ∙ sym xx

    stored : get_or (set keys e x) e 0 ≡ x
    stored = get_or-set_same keys e x 0 (omega (arith, w.long, under, h.few))

    -- a place that may have its key
    pub known_more : may_have keys count e x ≡ true → Known ps es (set keys e x) count (k + 1)
    known_more m = record { long = length-set keys e x ∙ w.long; kept = kept; source = source; apart = apart }
      where
        kept : (p : ℕ) → p < k + 1 → get_or (set keys e x) (get_or es p 0) 0 ≡ get_or ps p 0
        kept p lp =
            ⊎_elim (λ b. still m p b) (λ b. ap (λ (y : ℕ). get_or (set keys e x) y 0) (last_number p b lp) ∙ stored ∙ sym (last_key p b lp)) (lt_or_le p k)

        source : (f : ℕ) → f < count → (get_or (set keys e x) f 0 ≡ no_key → ⊥)
            → (p : ℕ) × (p < k + 1) × (get_or es p 0 ≡ f) × (get_or ps p 0 ≡ get_or (set keys e x) f 0)
        source f lf n =
            ⊎_elim (λ z. (k, omega arith, sym ee ∙ sym z, sym xx ∙ sym stored ∙ ap (λ (y : ℕ). get_or (set keys e x) y 0) (sym z)))
            (λ z. let same : get_or (set keys e x) f 0 ≡ get_or keys f 0 = get_or-set_other keys e f x 0 z in
            let s : (o : ℕ) × (o < k) × (get_or es o 0 ≡ f) × (get_or ps o 0 ≡ get_or keys f 0) = w.source f lf (λ y. n (same ∙ y)) in
            (s.0, omega (arith, s.1), s.2, s.3 ∙ sym same))
            (eq_or_ne f e)

        -- each place so far with this key has this number
        mine : (p : ℕ) → p < k + 1 → get_or ps p 0 ≡ x → get_or es p 0 ≡ e
        mine p lp q = ⊎_elim (λ b. same_number m p b q) (λ b. last_number p b lp) (lt_or_le p k)

        apart : (p q : ℕ) → p < k + 1 → q < k + 1 → get_or ps p 0 ≡ get_or ps q 0 → get_or es p 0 ≡ get_or es q 0
        apart p q lp lq s =
            ⊎_elim
            (λ a. ⊎_elim (λ b. w.apart p q a b s) (λ b. mine p lp (s ∙ last_key q b lq) ∙ sym (mine q lq (last_key q b lq))) (lt_or_le q k))
            (λ a. mine p lp (last_key p a lp) ∙ sym (mine q lq (sym s ∙ last_key p a lp)))
            (lt_or_le p k)

    -- a place that may not: its number has another key, or another number has its key
    pub known_fails : may_have keys count e x ≡ false → false ≡ keys_agree ps es
    unfolding may_have
    known_fails m = sym (⊎_elim new known (eq_or_ne (get_or keys e 0) no_key))
      where
        differs : get_or keys e 0 ≡ x → ⊥
        differs = eqb-false (get_or keys e 0) x (or_no_left (eqb (get_or keys e 0) x) (eqb (get_or keys e 0) no_key and not (has_key keys count x)) m)

        new : get_or keys e 0 ≡ no_key → keys_agree ps es ≡ false
        new z =
            let t : has_key keys count x ≡ true = has z (or_no_right (eqb (get_or keys e 0) x) (eqb (get_or keys e 0) no_key and not (has_key keys count x)) m) in
            let f : (f : ℕ) × (f < count) × (eqb (get_or keys f 0) x ≡ true) = some_which count (λ y. eqb (get_or keys y 0) x) t in
            let at : get_or keys f.0 0 ≡ x = eqb-true (get_or keys f.0 0) x f.2 in
            let s : (o : ℕ) × (o < k) × (get_or es o 0 ≡ f.0) × (get_or ps o 0 ≡ get_or keys f.0 0) = w.source f.0 f.1 (λ y. a_key k l (sym xx ∙ sym at ∙ y)) in
            broken_key s.0 k (omega (arith, s.1)) l (s.3 ∙ at ∙ xx) (λ y. differs (ap (λ (i : ℕ). get_or keys i 0) (ee ∙ sym y ∙ s.2) ∙ at))
          where
            has : get_or keys e 0 ≡ no_key → eqb (get_or keys e 0) no_key and not (has_key keys count x) ≡ false → has_key keys count x ≡ true
            has y q = not-false (has_key keys count x) (and_rest (eqb (get_or keys e 0) no_key) (not (has_key keys count x)) (eq-eqb (get_or keys e 0) no_key y) q)

        known : (get_or keys e 0 ≡ no_key → ⊥) → keys_agree ps es ≡ false
        known z =
            let s : (o : ℕ) × (o < k) × (get_or es o 0 ≡ e) × (get_or ps o 0 ≡ get_or keys e 0) = w.source e under z in
            broken_number s.0 k (omega (arith, s.1)) l (s.2 ∙ ee) (λ y. differs (sym s.3 ∙ y ∙ sym xx))

-- ---- the rule of a mesh is that of the keys of its edge places

pub length_keys : (n : ℕ) (xs : List ℕ) → length (cell_keys n xs) ≡ n
unfolding cell_keys
length_keys n xs = length-map (range n) _ ∙ length_range n

length_edge_keys : (ks vs : List ℕ) (n : ℕ) → length (edge_keys ks vs n) ≡ before own ks n
unfolding edge_keys
length_edge_keys ks vs n = length_cells own ks _ n (λ i _. length_keys (get_or ks i 0) (part own ks vs i))

module _ {ks vs : List ℕ} (s : Shaped ks vs) (below : all_below vs most_vertices ≡ true) where
  -- the key of local edge e of cell i
  key_at_holds : (i e : ℕ) → i < length ks → e < get_or ks i 0
      → get_or (edge_keys ks vs (length ks)) (before own ks i + e) 0
      ≡ pair_key (get_or (part own ks vs i) (ends_of (get_or ks i 0) e).first 0) (get_or (part own ks vs i) (ends_of (get_or ks i 0) e).second 0)
  unfolding edge_keys cell_keys
  key_at_holds i e h he =
      cells_at own ks (λ i. cell_keys (get_or ks i 0) (part own ks vs i)) (length ks) i e 0 (λ j _. length_keys (get_or ks j 0) (part own ks vs j)) h he
      ∙ map_at _ 0 (get_or ks i 0) e he

  vertex_under : (i p : ℕ) → i < length ks → p < get_or ks i 0 → get_or (part own ks vs i) p 0 < most_vertices
  vertex_under i p h hp = part_each (λ x. x < most_vertices) own ks vs (λ k l. below_at vs most_vertices below k l) i p (omega (arith, shaped_length s i h))

  first_under : (i e : ℕ) → i < length ks → e < get_or ks i 0 → get_or (part own ks vs i) (ends_of (get_or ks i 0) e).first 0 < most_vertices
  first_under i e h he = vertex_under i _ h (first_below (get_or ks i 0) (s.kinds i h) e he)

  second_under : (i e : ℕ) → i < length ks → e < get_or ks i 0 → get_or (part own ks vs i) (ends_of (get_or ks i 0) e).second 0 < most_vertices
  second_under i e h he = vertex_under i _ h (second_below (get_or ks i 0) (s.kinds i h) e he)

  pub keys_below : all_below (edge_keys ks vs (length ks)) no_key ≡ true
  unfolding all_below
  keys_below =
      rw (length_edge_keys ks vs (length ks))
      (sym (all_cells own ks (λ k. ltb (get_or (edge_keys ks vs (length ks)) k 0) no_key) (length ks))
      ∙ all_of (length ks) _
      (λ i h. all_of (get_or ks i 0) _ (λ e he. lt-ltb _ _ (subst (λ (k : ℕ). k < no_key) (sym (key_at_holds i e h he)) (key_below _ _ (first_under i e h he) (second_under i e h he))))))

  -- what the reading of the rule asks for
  pub numbered : (es : List ℕ) (count : ℕ)
      → every (within 3 most_edges count ∷ eqb (length es) (before own ks (length ks)) ∷ all_below es count ∷ []) ≡ true → Numbered (edge_keys ks vs (length ks)) es count
  numbered es count e =
      record {
        long = length_edge_keys ks vs (length ks) ∙ sym (eqb-true _ _ (every_at _ e 1));
        keys_are_below = keys_below;
        edge_below = every_at _ e 2;
        few = within_high _ _ _ (every_at _ e 0);
      }

module _ (m : Mesh) (s : Shaped m.kinds m.cell_vertices) (below : all_below m.cell_vertices most_vertices ≡ true) (cells : length m.kinds ≡ m.cells) where
  -- the keys of all edge places
  abbrev keys : List ℕ
  keys = edge_keys m.kinds m.cell_vertices (length m.kinds)

  agree : ℕ → ℕ → Bool
  agree k l = iff (eqb (get_or m.cell_edges k 0) (get_or m.cell_edges l 0)) (eqb (get_or keys k 0) (get_or keys l 0))

  starts : ℕ → ℕ
  starts i = before own m.kinds i

  places_by_keys : (i e j g : ℕ) → i < m.cells → e < kind m i → j < m.cells → g < kind m j → places_agree m i e j g ≡ agree (starts i + e) (starts j + g)
  unfolding places_agree corners sides agree starts
  places_by_keys i e j g hi he hj hg =
      let li : i < length m.kinds = omega (arith, cells) in
      let lj : j < length m.kinds = omega (arith, cells) in
      rw (get_d_part own m.kinds m.cell_edges i e he, get_d_part own m.kinds m.cell_edges j g hg, key_at_holds s below i e li he, key_at_holds s below j g lj hg)
      (ap (λ (b : Bool). iff (eqb (get_or m.cell_edges (before own m.kinds i + e) 0) (get_or m.cell_edges (before own m.kinds j + g) 0)) b)
      (same_two_keys _ _ _ _ (first_under s below i e li he) (second_under s below i e li he) (first_under s below j g lj hg) (second_under s below j g lj hg)))

  pub rule_by_keys : length m.cell_edges ≡ before own m.kinds m.cells → edge_rule m ≡ keys_agree keys m.cell_edges
  unfolding edge_rule keys_agree agree starts
  rule_by_keys long =
      let n : ℕ = starts m.cells in
      all_ext m.cells _ _
      (λ i hi. all_ext (kind m i) _ (λ e. all n (λ l. agree (starts i + e) l))
      (λ e he. all_ext m.cells _ _ (λ j hj. all_ext (kind m j) _ _ (λ g hg. places_by_keys i e j g hi he hj hg))
      ∙ all_cells own m.kinds (λ l. agree (starts i + e) l) m.cells))
      ∙ all_cells own m.kinds (λ k. all n (λ l. agree k l)) m.cells
      ∙ ap (λ (n : ℕ). all n (λ k. all n (λ l. agree k l))) (sym long)

  -- check 3 but for the rule, where the cells' own counts are those of n cells
  abbrev sized : ℕ → Bool
  sized n = every (within 3 most_edges m.edges ∷ eqb (length m.cell_edges) (before own m.kinds n) ∷ all_below m.cell_edges m.edges ∷ [])

  sized_long : sized m.cells ≡ true → length m.cell_edges ≡ before own m.kinds m.cells
  sized_long e = eqb-true _ _ (every_at _ e 1)

  pub edges_right_by : sized (length m.kinds) ≡ true → {b : Bool} → b ≡ keys_agree keys m.cell_edges → b ≡ edges_right m
  unfolding edges_right every ◌and◌
  edges_right_by e f =
      let same : sized m.cells ≡ true = subst (λ (n : ℕ). sized n ≡ true) cells e in
      f ∙ sym (rule_by_keys (sized_long same)) ∙ ap (λ (b : Bool). b and edge_rule m) (sym same)

  pub edges_right_not : sized (length m.kinds) ≡ false → false ≡ edges_right m
  unfolding edges_right every
  edges_right_not e = sym (and_no_left _ _ (subst (λ (n : ℕ). sized n ≡ false) cells e))

-- the numbers of a cell are below what those of the list are below
pub begins_below : {ks : List ℕ} {at k e : ℕ} → Begins ks at k → e ≡ at + get_or ks k 0 → (l : List ℕ) (bound : ℕ) → all_below l bound ≡ true → all_below (take (e - at) (drop at l)) bound ≡ true
unfolding all_below
begins_below {ks} {at} {k} {e} w end l bound h = all_of _ _ (λ k lk. lt-ltb _ _ (part_all (λ x. x < bound) (e - at) at l (λ k l'. below_at l bound h k l') k lk))

-- ---- the keys, as they are written

-- those of the first e local edges of a cell
abbrev pub keys_upto : ℕ → ℕ → List ℕ → List ℕ
keys_upto e n xs = map (λ k. pair_key (get_or xs (ends_of n k).first 0) (get_or xs (ends_of n k).second 0)) (range e)

pub keys_whole : (n : ℕ) (xs : List ℕ) → keys_upto n n xs ≡ cell_keys n xs
unfolding cell_keys
keys_whole n xs = refl

pub keys_turn : (l xs : List ℕ) (at n e : ℕ) {x : ℕ} → x ≡ pair_key (get_or xs (ends_of n e).first 0) (get_or xs (ends_of n e).second 0)
    → set (sets l at (keys_upto e n xs)) (at + e) x ≡ sets l at (keys_upto (e + 1) n xs)
unfolding range
keys_turn l xs at n e {x} h =
    let f : ℕ → ℕ = λ k. pair_key (get_or xs (ends_of n k).first 0) (get_or xs (ends_of n k).second 0) in
    let long : length (keys_upto e n xs) ≡ e = length-map (range e) f ∙ length_range e in
    ap (λ (k : ℕ). set (sets l at (keys_upto e n xs)) (at + k) x) (sym long)
    ∙ sets_more l at (keys_upto e n xs) x
    ∙ ap (sets l at) (ap (λ (y : ℕ). keys_upto e n xs ++ (y ∷ [])) h ∙ sym (map-append f (range e) (e ∷ [])) ∙ ap (λ (k : ℕ). map f (range k)) (sym (add-one e)))

-- all of them: what is held before cell i
pub record Keyed (ks vs l l' : List ℕ) (at i : ℕ) : Type 0 where
  pub begins : Begins ks at i
  pub long : length l' ≡ length l
  pub written : l' ≡ sets l 0 (edge_keys ks vs i)

pub keyed_none : (ks vs l : List ℕ) → Keyed ks vs l l 0 0
unfolding edge_keys
keyed_none ks vs l = record { begins = begins_first ks; long = refl; written = ap (sets l 0) (sym (flat_map_none _)) }

module _ {ks vs l l' : List ℕ} {at i : ℕ} (s : Shaped ks vs) (w : Keyed ks vs l l' at i) where
  pub keyed_more : i < length ks → {e : ℕ} → e ≡ at + get_or ks i 0 → {l'' xs : List ℕ} → xs ≡ take (e - at) (drop at vs) → l'' ≡ sets l' at (cell_keys (length xs) xs) → Keyed ks vs l l'' e (i + 1)
  unfolding edge_keys
  keyed_more h {e} end {l''} {xs} x f =
      let part_is : xs ≡ part own ks vs i = x ∙ begins_part s w.begins h end in
      let keys : cell_keys (length xs) xs ≡ cell_keys (get_or ks i 0) (part own ks vs i) = ap₂ cell_keys (ap length part_is ∙ shaped_length s i h) part_is in
      let here : 0 + length (edge_keys ks vs i) ≡ at = zero-add _ ∙ length_edge_keys ks vs i ∙ sym w.begins.place in
      record {
        begins = begins_next w.begins h end;
        long = ap length f ∙ length-sets l' at (cell_keys (length xs) xs) ∙ w.long;
        written =
            f
            ∙ ap₂ (λ (m : List ℕ) (k : List ℕ). sets m at k) w.written keys
            ∙ ap (λ (n : ℕ). sets (sets l 0 (edge_keys ks vs i)) n (cell_keys (get_or ks i 0) (part own ks vs i))) (sym here)
            ∙ sym (sets_append l 0 (edge_keys ks vs i) (cell_keys (get_or ks i 0) (part own ks vs i)))
            ∙ ap (sets l 0) (sym (flat_map_range (λ j. cell_keys (get_or ks j 0) (part own ks vs j)) i));
      }

  pub keyed_all : length ks ≤ i → length l ≡ length vs → l' ≡ edge_keys ks vs (length ks)
  keyed_all h e =
      let n : i ≡ length ks = omega (arith, w.begins.below) in
      w.written ∙ ap (λ (k : ℕ). sets l 0 (edge_keys ks vs k)) n ∙ sets_all l (edge_keys ks vs (length ks)) (length_edge_keys ks vs (length ks) ∙ sym s.long ∙ sym e)
