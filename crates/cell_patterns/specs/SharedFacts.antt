-- Laws of the shared vertices of two cells, as the code makes their list. Assumes nothing.
use Rattle.std.specs.Prelude.{ℕ, ◌+◌, ◌<◌, ◌≤◌, ◌≡◌, refl, Bool, false, Option, None, Some, length, get_or, take, eqb, MatchOption, ◌||◌}
use Rattle.std.proofs.Common.{zero-le, arith, sym, ap₂, subst, ◌∙◌, ⊎_elim, length-append, eqb-true, eq-eqb, ne_eqb, lt-ltb, le-ltb}
use Rattle.std.proofs.Math.Path.{ap}
use Rattle.std.specs.Option.{is_some}
use Rattle.std.specs.List.{AllWithin, HoldsAt}
use Rattle.std.proofs.Math.Bool.{true}
use mathlib.Core.List.{List, [], ◌∷◌, ◌++◌, flat_map}
use Rattle.std.proofs.lemmas.List.{length-map, map-append}
use Rattle.std.proofs.lemmas.Bool.{eqb-false}
use Rattle.std.proofs.Math.Dec.{ltb}
use Rattle.lists.specs.Bool.{◌or◌, true≢false, cases}
use Rattle.lists.specs.Bounded.{least, least_is, least_none, least_holds, least_before, lt_or_le}
use Rattle.lists.specs.Range.{flat_map_pick, AllIn, all_in_append, range, when, flat_map_none, flat_map_range, flat_map_below, flat_map_nil, range_split}
use Rattle.grid.specs.Cells.{distinct, share}
use Rattle.grid.specs.CellsFacts.{has_place, has_at, share_which, share_at}
use Rattle.grid.specs.Facts.{vertices_differ}
use Rattle.cell_pairs.specs.Matches.{Match, ◌⇄◌, matches}
use Rattle.cell_pairs.specs.Records.{pattern_count, IsPattern}
use Rattle.cell_pairs.specs.Table.{pattern, number_of}
use Rattle.triangle_patterns.specs.Triangles.{cells_right}
use Rattle.cell_patterns.specs.Shared.{Small, matches_in, one_at, IsPlace, place_in}
use Rattle.cell_patterns.specs.declared.shared.SharedVertex.{SharedVertex}

-- ---- one place alone passes

-- at most one number below n passes: it is the least
pub flat_map_least : {B : Type 0} (f : ℕ → Bool) (g : ℕ → List B) (n : ℕ) → ((p q : ℕ) → p < n → q < n → f p ≡ true → f q ≡ true → p ≡ q)
    → flat_map (λ p. when (f p) (g p)) (range n) ≡ when (ltb (least n f) n) (g (least n f))
flat_map_least {B} f g n one = ⊎_elim found none (lt_or_le (least n f) n)
  where
    found : least n f < n → flat_map (λ p. when (f p) (g p)) (range n) ≡ when (ltb (least n f) n) (g (least n f))
    found l =
        flat_map_below _ (λ p. when (eqb p (least n f)) (g p)) n (λ p h. ap (λ (b : Bool). when b (g p)) (agree p h))
        ∙ flat_map_pick g (least n f) n l
        ∙ sym (ap (λ (b : Bool). when b (g (least n f))) (lt-ltb (least n f) n l))
      where
        agree : (p : ℕ) → p < n → f p ≡ eqb p (least n f)
        agree p h =
            ⊎_elim (λ t. t ∙ sym (eq-eqb p (least n f) (one p (least n f) h l t (least_holds n f l))))
            (λ e. e ∙ sym (ne_eqb p (least n f) (λ q. true≢false (sym (least_holds n f l) ∙ ap f (sym q) ∙ e)))) (cases (f p))

    none : n ≤ least n f → flat_map (λ p. when (f p) (g p)) (range n) ≡ when (ltb (least n f) n) (g (least n f))
    none l =
        flat_map_below _ (λ _. []) n (λ p h. ap (λ (b : Bool). when b (g p)) (least_before n f p (omega arith)))
        ∙ flat_map_nil (λ _. []) (λ _. refl) (range n)
        ∙ sym (ap (λ (b : Bool). when b (g (least n f))) (le-ltb (least n f) n l))

-- ---- the shared vertices, trial place by trial place

-- those of trial places below k
unfoldable pub matches_to : List ℕ → List ℕ → ℕ → List Match
matches_to xs ys k = flat_map (λ q. flat_map (λ p. when (eqb (get_or xs p 0) (get_or ys q 0)) (p ⇄ q ∷ [])) (range (length xs))) (range k)

pub matches_none : (xs ys : List ℕ) → matches_to xs ys 0 ≡ []
unfolding matches_to
matches_none xs ys = flat_map_none _

pub matches_more : (xs ys : List ℕ) (k : ℕ) → distinct xs ≡ true
    → matches_to xs ys (k + 1) ≡ matches_to xs ys k ++ when (ltb (place_in xs (get_or ys k 0)) (length xs)) (place_in xs (get_or ys k 0) ⇄ k ∷ [])
unfolding matches_to place_in
matches_more xs ys k d =
    flat_map_range _ k
    ∙ ap (λ (l : List Match). matches_to xs ys k ++ l)
    (flat_map_least (λ p. eqb (get_or xs p 0) (get_or ys k 0)) (λ p. p ⇄ k ∷ []) (length xs)
    (λ p q hp hq e f. vertices_differ xs d p q hp hq (eqb-true _ _ e ∙ sym (eqb-true _ _ f))))

pub matches_all : (xs ys : List ℕ) → matches_to xs ys (length ys) ≡ matches xs ys
unfolding matches_to matches
matches_all xs ys = refl

-- ---- the loops

-- a search for the place of a vertex, as the library's `position` answers it
pub place_told : (xs : List ℕ) (x : ℕ) (r : Option ℕ)
    → MatchOption r (AllWithin (λ y. eqb y x ≡ false) xs 0 (length xs)) (λ p. (p < length xs) × HoldsAt (λ y. eqb y x ≡ true) xs p × AllWithin (λ y. eqb y x ≡ false) xs 0 p)
    → IsPlace r (place_in xs x) (length xs)
unfolding place_in
place_told xs x None h = least_none (length xs) (λ p. eqb (get_or xs p 0) x) (λ k l. h k 0 zero-le l)
place_told xs x (Some p) h = (sym (least_is (length xs) (λ p. eqb (get_or xs p 0) x) p (omega (arith, h.0)) (λ k l. h.2 k 0 zero-le l) (λ _. h.1 0)), h.0)

-- the vertex at trial place q, as a match
one_match : (xs ys : List ℕ) (q : ℕ) (r : Option ℕ) → IsPlace r (place_in xs (get_or ys q 0)) (length xs)
    → matches_in (one_at r q) ≡ when (ltb (place_in xs (get_or ys q 0)) (length xs)) (place_in xs (get_or ys q 0) ⇄ q ∷ [])
one_match xs ys q None h =
    let none : length xs ≤ place_in xs (get_or ys q 0) = omega (arith, h) in
    rw (le-ltb _ _ none)
one_match xs ys q (Some p) h =
    let here : place_in xs (get_or ys q 0) < length xs = omega (arith, h.0, h.1) in
    rw (lt-ltb _ _ here, h.0)

one_most : (r : Option ℕ) (q : ℕ) → length (one_at r q) ≤ 1
one_most None q = omega arith
one_most (Some p) q = omega arith

one_small : (r : Option ℕ) (p n q : ℕ) → IsPlace r p n → n ≤ 4 → q < 4 → AllIn Small (one_at r q)
unfolding AllIn
one_small None p n q h l k = tt
one_small (Some x) p n q h l k = ((omega (arith, h.1), k), tt)

-- the shared vertices of the trial places below q, as the loop over the trial places has them
pub record Gathered (xs ys : List ℕ) (count : ℕ) (list : List SharedVertex) (q : ℕ) : Type 0 where
  pub below : q ≤ length ys
  pub few : count ≤ q
  pub size : length (take count list) ≡ count
  pub found : matches_in (take count list) ≡ matches_to xs ys q
  pub small : AllIn Small (take count list)

pub gathered_start : (xs ys : List ℕ) (list : List SharedVertex) → Gathered xs ys 0 list 0
unfolding AllIn
gathered_start xs ys list = record { below = omega arith; few = omega arith; size = refl; found = sym (matches_none xs ys); small = tt }

pub gathered_turn : {xs ys : List ℕ} {count : ℕ} {list : List SharedVertex} {q : ℕ} → Gathered xs ys count list q → q < length ys → (length xs ≤ 4) × (length ys ≤ 4) × (distinct xs ≡ true)
    → (r : Option ℕ) (count' : ℕ) (list' : List SharedVertex) → IsPlace r (place_in xs (get_or ys q 0)) (length xs) → take count' list' ≡ take count list ++ one_at r q → count' ≡ count + length (one_at r q)
    → Gathered xs ys count' list' (q + 1)
gathered_turn {xs} {ys} {count} {list} {q} g l h r count' list' place more few =
    record {
      below = omega arith;
      few = omega (arith, g.few, one_most r q);
      size = ap length more ∙ length-append (take count list) (one_at r q) ∙ omega (arith, g.size);
      found =
          ap matches_in more
          ∙ map-append (λ (v : SharedVertex). v.test ⇄ v.trial) (take count list) (one_at r q)
          ∙ ap₂ (λ (a b : List Match). a ++ b) g.found (one_match xs ys q r place)
          ∙ sym (matches_more xs ys q h.2);
      small = subst (AllIn Small) (sym more) (all_in_append Small (take count list) (one_at r q) g.small (one_small r _ _ q place h.0 (omega (arith, h.1))));
    }

pub gathered_done : {xs ys : List ℕ} {count : ℕ} {list : List SharedVertex} {q : ℕ} → Gathered xs ys count list q → length ys ≤ q → matches_in (take count list) ≡ matches xs ys
gathered_done {xs} {ys} {count} {list} {q} g l =
    let q=k : q ≡ length ys = omega (arith, g.below) in
    g.found ∙ ap (matches_to xs ys) q=k ∙ matches_all xs ys

-- ---- check 7

longer : (ls ms ns : List Match) → length ms ≤ length (ls ++ (ms ++ ns))
longer ls ms ns = omega (arith, length-append ls (ms ++ ns), length-append ms ns)

-- the list of shared vertices is empty exactly where the cells share none
share_some : (xs ys : List ℕ) → share xs ys ≡ ltb 0 (length (matches xs ys))
unfolding matches
share_some xs ys = ⊎_elim (λ s. s ∙ sym (lt-ltb 0 _ (more s))) (λ s. s ∙ sym (ap (λ (ms : List Match). ltb 0 (length ms)) (empty s))) (cases (share xs ys))
  where
    at_place : ℕ → ℕ → List Match
    at_place q p = when (eqb (get_or xs p 0) (get_or ys q 0)) (p ⇄ q ∷ [])

    at_trial : ℕ → List Match
    at_trial q = flat_map (at_place q) (range (length xs))

    more : share xs ys ≡ true → 0 < length (matches xs ys)
    more s =
        let w = share_which xs ys s in
        let a = has_place xs w.0 w.1 in
        let b = has_place ys w.0 w.2 in
        let one : at_place b.0 a.0 ≡ a.0 ⇄ b.0 ∷ [] = rw (eq-eqb (get_or xs a.0 0) (get_or ys b.0 0) (a.2 ∙ sym b.2)) in
        let inner = range_split (at_place b.0) a.0 (length xs) a.1 in
        let outer = range_split at_trial b.0 (length ys) b.1 in
        omega (
          arith,
          ap length one,
          longer (flat_map (at_place b.0) (range a.0)) (at_place b.0 a.0) inner.0,
          ap length inner.1,
          longer (flat_map at_trial (range b.0)) (at_trial b.0) outer.0,
          ap length outer.1,
        )

    empty : share xs ys ≡ false → matches xs ys ≡ []
    empty s =
        flat_map_below at_trial (λ _. []) (length ys)
        (λ q hq. flat_map_below (at_place q) (λ _. []) (length xs)
        (λ p hp. rw (ne_eqb (get_or xs p 0) (get_or ys q 0)
        (λ e. true≢false (sym (share_at xs ys (get_or xs p 0) (has_at xs p _ hp refl) (has_at ys q _ hq (sym e))) ∙ s))))
        ∙ flat_map_nil (λ _. []) (λ _. refl) (range (length xs)))
        ∙ flat_map_nil (λ _. []) (λ _. refl) (range (length ys))

-- there is a pattern where the number is one of the table
is_known : (r : Option ℕ) (n : ℕ) → IsPattern r n → is_some r ≡ ltb n pattern_count
is_known None n h = sym (le-ltb n pattern_count (omega arith))
is_known (Some p) n h = sym (lt-ltb n pattern_count (omega (arith, h.0, h.1)))

-- vs are the shared vertices, and n is how many
pub right_by : (xs ys : List ℕ) (vs : List SharedVertex) (n : ℕ) → n ≡ length vs → matches_in vs ≡ matches xs ys
    → (r : Option ℕ) → IsPattern r (number_of (pattern (length xs) (length ys) (matches_in vs))) → eqb n 0 || is_some r ≡ cells_right xs ys
unfolding ◌or◌
right_by xs ys vs n c e r f = go (eqb n 0) refl
  where
    shares : share xs ys ≡ ltb 0 n
    shares = share_some xs ys ∙ ap (ltb 0) (ap length (sym e) ∙ length-map vs (λ (v : SharedVertex). v.test ⇄ v.trial) ∙ sym c)

    go : (b : Bool) → eqb n 0 ≡ b → b || is_some r ≡ cells_right xs ys
    go true h =
        let z : n ≡ 0 = eqb-true n 0 h in
        let s : share xs ys ≡ false = shares ∙ ap (ltb 0) z in
        rw s
    go false h =
        let z : n ≡ 0 → ⊥ = eqb-false n 0 h in
        let s : share xs ys ≡ true = shares ∙ lt-ltb 0 n (⊎_elim (λ l. l) (λ l. absurd (z (omega arith))) (lt_or_le 0 n)) in
        rw s (is_known r _ f ∙ ap (λ (ms : List Match). ltb (number_of (pattern (length xs) (length ys) ms)) pattern_count) e)
