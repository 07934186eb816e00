-- Laws of the formula as its number is found: of the place inside a block; of the code of shared vertices; and of the row of the table where the formula
-- points. Assumes nothing.
use Rattle.std.specs.Prelude.{ℕ, zero, suc, ◌+◌, ◌*◌, ◌^◌, ◌<◌, ◌≤◌, ◌≡◌, refl, Bool, cond, List, [], ◌∷◌, ◌++◌, length, take, get_or, eqb}
use Rattle.std.proofs.Common.{add-zero, mul-le-mul_right, arith, ◌∙◌}
use Rattle.std.proofs.Math.Path.{sym, ap, subst}
use Rattle.std.proofs.Math.Nat.{one-le-pow, pow-succ', mul-le-mul_left}
use borrow.Author.Tests.{eq-eqb, ne_eqb, lt-ltb, le-ltb}
use Rattle.lists.specs.Bool.{◌and◌}
use Rattle.lists.specs.Range.{AllIn, all_in_at}
use Rattle.grid.specs.Cells.{ends_of, edge_joining}
use Rattle.cell_pairs.specs.Records.{pattern_count}
use Rattle.cell_pairs.specs.Matches.{Match, ◌⇄◌}
use Rattle.cell_pairs.specs.Table.{Pattern, pattern, number_of, block_start, in_block, formula_number}
use Rattle.cell_pairs.proofs.TableFacts.{number_by_formula}
use Rattle.pattern_table.specs.Numbers.{code_on, code_of, code_at}
use Rattle.cell_patterns.specs.Shared.{Small, matches_in}
use Rattle.cell_patterns.specs.declared.shared.SharedVertex.{SharedVertex}
use Rattle.std.proofs.lemmas.List.{take_more, map-append, length-take}
use Rattle.cell_patterns.specs.TableRows.{Decimal, row_same, first, rest, none, also}

-- ---- the place inside the block

pub sixteen : (a b : ℕ) → a ≤ 4 → b ≤ 4 → a * b ≤ 16
sixteen a b h k = omega (arith, mul-le-mul_right b h)

-- by how many vertices are shared
abbrev pub vertex : List SharedVertex → ℕ → SharedVertex
vertex vs i = get_or vs i (record { test = 0; trial = 0 })

module _ (n k : ℕ) where
  pub in_none : (vs : List SharedVertex) → length vs < 1 → 149 ≡ in_block n k (matches_in vs)
  unfolding in_block
  in_none [] e = refl
  in_none (v ∷ vs) e = absurd (omega arith)

  pub in_one : (vs : List SharedVertex) → 1 ≤ length vs → length vs < 2 → k * (vertex vs 0).test + (vertex vs 0).trial ≡ in_block n k (matches_in vs)
  unfolding in_block
  in_one [] e f = absurd (omega arith)
  in_one (v ∷ []) e f = refl
  in_one (v ∷ w ∷ vs) e f = absurd (omega arith)

  in_two : (vs : List SharedVertex) → 2 ≤ length vs → length vs < 3 → {e g second : ℕ} → e ≡ edge_joining n (vertex vs 0).test (vertex vs 1).test → g ≡ edge_joining k (vertex vs 0).trial (vertex vs 1).trial
      → second ≡ (ends_of n e).second → n * k + 2 * (k * e + g) + cond (eqb (vertex vs 0).test second) 1 0 ≡ in_block n k (matches_in vs)
  unfolding in_block
  in_two [] a b x y z = absurd (omega arith)
  in_two (v ∷ []) a b x y z = absurd (omega arith)
  in_two (v ∷ w ∷ []) a b x y z = rw (z, x, y)
  in_two (v ∷ w ∷ u ∷ vs) a b x y z = absurd (omega arith)

  module _ (vs : List SharedVertex) (a : 2 ≤ length vs) (b : length vs < 3) {e g second : ℕ} (x : e ≡ edge_joining n (vertex vs 0).test (vertex vs 1).test) (y : g ≡ edge_joining k (vertex vs 0).trial (vertex vs 1).trial)
      (z : second ≡ (ends_of n e).second) where
    pub in_turned : (vertex vs 0).test ≡ second → n * k + 2 * (k * e + g) + 1 ≡ in_block n k (matches_in vs)
    in_turned t = subst (λ (d : Bool). n * k + 2 * (k * e + g) + cond d 1 0 ≡ in_block n k (matches_in vs)) (eq-eqb _ _ t) (in_two vs a b x y z)

    pub in_straight : ((vertex vs 0).test ≡ second → ⊥) → n * k + 2 * (k * e + g) ≡ in_block n k (matches_in vs)
    in_straight t = sym (add-zero _) ∙ subst (λ (d : Bool). n * k + 2 * (k * e + g) + cond d 1 0 ≡ in_block n k (matches_in vs)) (ne_eqb _ _ t) (in_two vs a b x y z)

  pub in_more : (vs : List SharedVertex) → 3 ≤ length vs → 3 * (n * k) ≡ in_block n k (matches_in vs)
  unfolding in_block
  in_more [] e = absurd (omega arith)
  in_more (v ∷ []) e = absurd (omega arith)
  in_more (v ∷ w ∷ []) e = absurd (omega arith)
  in_more (v ∷ w ∷ u ∷ vs) e = refl

-- the places of a vertex that is shared
pub small_at : (vs : List SharedVertex) → AllIn Small vs → (i : ℕ) → i < length vs → Small (vertex vs i)
small_at vs h i l = all_in_at Small vs h (record { test = 0; trial = 0 }) i l

-- ---- the code of shared vertices

-- one more
code_more : (c : ℕ) (ms : List Match) (m : Match) → code_on c (ms ++ (m ∷ [])) ≡ 100 * code_on c ms + (10 * m.test + m.trial)
unfolding code_on
code_more c [] m = refl
code_more c (o ∷ ms) m = code_more (100 * c + (10 * o.test + o.trial)) ms m

pub code_turn : (c : ℕ) (vs : List SharedVertex) (i : ℕ) (d : SharedVertex) → i < length vs
    → 100 * code_on c (matches_in (take i vs)) + (10 * (get_or vs i d).test + (get_or vs i d).trial) ≡ code_on c (matches_in (take (i + 1) vs))
code_turn c vs i d l =
    sym
    (ap (λ (ws : List SharedVertex). code_on c (matches_in ws)) (take_more vs i d l)
    ∙ ap (code_on c) (map-append (λ (v : SharedVertex). v.test ⇄ v.trial) (take i vs) (get_or vs i d ∷ []))
    ∙ code_more c (matches_in (take i vs)) ((get_or vs i d).test ⇄ (get_or vs i d).trial))

one_or_more : (n : ℕ) → 1 ≤ 100 * 100 ^ n
one_or_more n = omega (arith, one-le-pow n 100 (omega arith))

-- of few vertices it is small
code_few : (n c : ℕ) (vs : List SharedVertex) → AllIn Small vs → length vs ≤ n → code_on c (matches_in vs) < (c + 1) * 100 ^ n
unfolding code_on
code_few zero c [] h l = omega arith
code_few zero c (v ∷ vs) h l = absurd (omega arith)
code_few (suc n) c [] h l = rw pow-succ' (omega (arith, mul-le-mul_left (c + 1) (one_or_more n)))
code_few (suc n) c (v ∷ vs) h l =
    let s : Small v = first v vs h in
    let more = code_few n (100 * c + (10 * v.test + v.trial)) vs (rest v vs h) (omega arith) in
    let low : 100 * c + (10 * v.test + v.trial) + 1 ≤ 100 * c + 100 = omega (arith, s.0, s.1) in
    rw pow-succ' (omega (arith, more, mul-le-mul_right (100 ^ n) low))

small_take : (i : ℕ) (vs : List SharedVertex) → AllIn Small vs → AllIn Small (take i vs)
small_take zero vs h = none
small_take (suc i) [] h = none
small_take (suc i) (v ∷ vs) h = also v (take i vs) (first v vs h) (small_take i vs (rest v vs h))

pub code_below : (c : ℕ) (vs : List SharedVertex) (i : ℕ) → c < 45 → AllIn Small vs → i ≤ 4 → code_on c (matches_in (take i vs)) < 4500000000
code_below c vs i h s l =
    let e = code_few 4 c (take i vs) (small_take i vs s) (omega (arith, length-take i vs)) in
    omega arith

-- ---- the number

pub formula_at : (n k : ℕ) (ms : List Match) {a b : ℕ} → a ≡ block_start n k → b ≡ in_block n k ms → a + b ≡ formula_number (pattern n k ms)
unfolding formula_number
formula_at n k ms e f = rw (e, f)

module _ (x : Pattern) {r : ℕ} (e : r ≡ formula_number x) where
  -- there is no such row
  pub number_past : pattern_count ≤ r → pattern_count ≡ number_of x
  unfolding ◌and◌
  number_past l = sym (number_by_formula x ∙ rw (← e, le-ltb r pattern_count l))

  -- the row is that of the pattern, or another's
  module _ (l : r < pattern_count) (d : Decimal x) {a b : ℕ} (f : a ≡ code_at r) (g : b ≡ code_of x) where
    pub number_here : a ≡ b → r ≡ number_of x
    unfolding ◌and◌
    number_here h = sym (number_by_formula x ∙ rw (← e, lt-ltb r pattern_count l, sym (row_same r x l d) ∙ eq-eqb _ _ (sym f ∙ h ∙ g)))

    pub number_other : (a ≡ b → ⊥) → pattern_count ≡ number_of x
    unfolding ◌and◌
    number_other h = sym (number_by_formula x ∙ rw (← e, lt-ltb r pattern_count l, sym (row_same r x l d) ∙ ne_eqb _ _ (λ q. h (f ∙ q ∙ sym g))))
