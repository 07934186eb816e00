-- Laws of the table as numbers: a code tells its pattern, so that row r is the code of pattern r and of no other. Assumes nothing.
use Rattle.std.specs.Prelude.{ℕ, ◌+◌, ◌*◌, ◌<◌, ◌≤◌, ◌≡◌, refl, Bool, true, List, [], ◌∷◌, length, get_or, eqb, ltb}
use Rattle.std.proofs.Common.{arith, sym, ap, ◌∙◌, eqb-true, eq-eqb, ltb-true}
use Rattle.std.proofs.Math.ListN.{get_or-map}
use Rattle.lists.specs.Bool.{◌and◌, every, every_at, and_left, and_right, same_test}
use Rattle.lists.specs.Bounded.{all, all_at}
use Rattle.lists.specs.Range.{AllIn, all_in_places}
use Rattle.cell_pairs.specs.Records.{pattern_count}
use Rattle.cell_pairs.specs.Matches.{Match, ◌⇄◌}
use Rattle.cell_pairs.specs.MatchesFacts.{joined}
use Rattle.cell_pairs.specs.Table.{Pattern, pattern, table, pattern_at, same}
use Rattle.cell_pairs.proofs.TableFacts.{built, same_eq, eq_same}
use Rattle.pattern_table.specs.Numbers.{code_on, code_of, table_rows, code_at}
use Rattle.cell_patterns.specs.Shared.{Small, matches_in}
use Rattle.cell_patterns.specs.declared.shared.SharedVertex.{SharedVertex}

-- ---- a code tells its pattern

-- the places of a shared vertex are digits
abbrev Digits : Match → Type 0
Digits m = (m.test < 10) × (m.trial < 10)

on_grows : (c : ℕ) (ms : List Match) → c ≤ code_on c ms
unfolding code_on
on_grows c [] = omega arith
on_grows c (m ∷ ms) = omega (arith, on_grows (100 * c + (10 * m.test + m.trial)) ms)

no_digits : AllIn Digits []
unfolding AllIn
no_digits = tt

pub none : AllIn Small []
unfolding AllIn
none = tt

pub also : (v : SharedVertex) (vs : List SharedVertex) → Small v → AllIn Small vs → AllIn Small (v ∷ vs)
unfolding AllIn
also v vs h k = (h, k)

one : (v : SharedVertex) (vs : List SharedVertex) → Small v → AllIn Digits (matches_in vs) → AllIn Digits (matches_in (v ∷ vs))
unfolding AllIn
one v vs h k = ((omega (arith, h.0), omega (arith, h.1)), k)

pub first : (v : SharedVertex) (vs : List SharedVertex) → AllIn Small (v ∷ vs) → Small v
unfolding AllIn
first v vs h = h.0

pub rest : (v : SharedVertex) (vs : List SharedVertex) → AllIn Small (v ∷ vs) → AllIn Small vs
unfolding AllIn
rest v vs h = h.1

-- where neither of c and d is a hundred times the other
on_tells : (c d : ℕ) (ms ns : List Match) → AllIn Digits ms → AllIn Digits ns → c < 100 * d → d < 100 * c → code_on c ms ≡ code_on d ns → (c ≡ d) × (ms ≡ ns)
unfolding code_on AllIn
on_tells c d [] [] p q a b e = (e, refl)
on_tells c d [] (n ∷ ns) p q a b e = absurd (omega (arith, on_grows (100 * d + (10 * n.test + n.trial)) ns))
on_tells c d (m ∷ ms) [] p q a b e = absurd (omega (arith, on_grows (100 * c + (10 * m.test + m.trial)) ms))
on_tells c d (m ∷ ms) (n ∷ ns) p q a b e =
    let more =
    on_tells (100 * c + (10 * m.test + m.trial)) (100 * d + (10 * n.test + n.trial)) ms ns p.1 q.1 (omega arith) (omega arith) e in
    (omega (arith, more.0), joined (omega (arith, more.0)) (omega (arith, more.0)) more.1)

-- the kinds and the places of a pattern are digits, the first not 0
pub record Decimal (x : Pattern) : Type 0 where
  pub first : 0 < x.test
  pub test : x.test < 10
  pub trial : x.trial < 10
  pub places : AllIn Digits x.shared

code_tells : {x y : Pattern} → Decimal x → Decimal y → code_of x ≡ code_of y → x ≡ y
unfolding code_of
code_tells {x} {y} p q e =
    let parts = on_tells (10 * x.test + x.trial) (10 * y.test + y.trial) x.shared y.shared p.places q.places (omega arith) (omega arith) e in
    built (omega (arith, parts.0)) (omega (arith, parts.0)) parts.1

-- of shared vertices the places are below 4
pub shared_decimal : (n k : ℕ) (vs : List SharedVertex) → 3 ≤ n → n ≤ 4 → k ≤ 4 → AllIn Small vs → Decimal (pattern n k (matches_in vs))
shared_decimal n k vs a b c s = record { first = omega arith; test = omega arith; trial = omega arith; places = digits vs s }
  where
    digits : (vs : List SharedVertex) → AllIn Small vs → AllIn Digits (matches_in vs)
    digits [] h = no_digits
    digits (v ∷ vs) h = one v vs (first v vs h) (digits vs (rest v vs h))

-- ---- the table

unfoldable decimal : Pattern → Bool
decimal x =
    every
    (ltb 0 x.test
    ∷ ltb x.test 10
    ∷ ltb x.trial 10
    ∷ all (length x.shared) (λ i. ltb (get_or x.shared i (0 ⇄ 0)).test 10 and ltb (get_or x.shared i (0 ⇄ 0)).trial 10)
    ∷ [])

decimal_holds : (x : Pattern) → decimal x ≡ true → Decimal x
unfolding decimal
decimal_holds x e =
    record {
      first = ltb-true _ _ (every_at _ e 0);
      test = ltb-true _ _ (every_at _ e 1);
      trial = ltb-true _ _ (every_at _ e 2);
      places =
          all_in_places Digits x.shared (0 ⇄ 0)
          (λ i l. let d = all_at (length x.shared) _ (every_at _ e 3) i l in (ltb-true _ _ (and_left _ _ d), ltb-true _ _ (and_right (ltb (get_or x.shared i (0 ⇄ 0)).test 10) _ d)));
    }

-- computed over the whole table
table_computed : all pattern_count (λ r. decimal (pattern_at r)) ≡ true
unfolding all ◌and◌ every decimal table
table_computed = refl

row_decimal : (r : ℕ) → r < pattern_count → Decimal (pattern_at r)
row_decimal r l = decimal_holds (pattern_at r) (all_at pattern_count (λ r. decimal (pattern_at r)) table_computed r l)

row_code : (r : ℕ) → code_at r ≡ code_of (pattern_at r)
unfolding table_rows code_of code_on
row_code r = get_or-map code_of table r (pattern 0 0 [])

-- row r is the code of a pattern exactly where this is pattern r
pub row_same : (r : ℕ) (x : Pattern) → r < pattern_count → Decimal x → eqb (code_at r) (code_of x) ≡ same (pattern_at r) x
row_same r x l d =
    same_test _ _ (λ e. eq_same (pattern_at r) x (code_tells (row_decimal r l) d (sym (row_code r) ∙ eqb-true _ _ e)))
    (λ e. eq-eqb _ _ (row_code r ∙ ap code_of (same_eq (pattern_at r) x e)))
