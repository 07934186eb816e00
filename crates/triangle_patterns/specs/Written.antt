-- The 27 cases as the code writes them: the test places of trial vertices 0, 1 and 2, two bits each. Assumes nothing.
use Rattle.std.specs.Prelude.{ℕ, ◌+◌, ◌*◌, ◌≡◌, refl, Bool, true, cond, Option, List, [], ◌∷◌, eqb, ltb}
use Rattle.std.proofs.Common.{sym, ap, subst, ◌∙◌, eqb-true, ne_eqb}
use Rattle.lists.specs.Bool.{◌and◌, ◌or◌}
use Rattle.lists.specs.Bounded.{all, least}
use Rattle.grid.specs.Cells.{same_two}
use Rattle.cell_pairs.specs.Records.{pattern_count, IsPattern}
use Rattle.cell_pairs.specs.Matches.{Match, triangle_count, edge_of, pattern_of}
use Rattle.cell_pairs.specs.Cases.{Case, cases, test_at}
use Rattle.cell_pairs.specs.Table.{pattern, number_of as table_number}
use Rattle.cell_pairs.specs.MatchesFacts.{Places, matches_at}
use Rattle.triangle_patterns.specs.TrianglesFacts.{three_pattern, clash, at_places, number_places}

-- two bits for each trial vertex
abbrev pub bits : List Match → ℕ
bits ms = 16 * test_at 3 ms 0 + 4 * test_at 3 ms 1 + test_at 3 ms 2

-- the number of the case with the bits n, or d where there is none
abbrev pub number_of : List Case → ℕ → ℕ → ℕ
number_of [] n d = d
number_of (c ∷ cs) n d = cond (eqb n (bits c.shared)) c.number (number_of cs n d)

-- the number that is found is the table's
abbrev right : ℕ → ℕ → ℕ → Bool
right a b c =
    eqb (number_of cases (16 * a + 4 * b + c) (three_pattern a b c))
    (cond (ltb (pattern_of (matches_at a b c)) triangle_count) (pattern_of (matches_at a b c)) pattern_count)

-- computed over all places
right_computed : all 4 (λ a. all 4 (λ b. all 4 (λ c. clash a b or clash a c or clash b c or right a b c))) ≡ true
unfolding all ◌and◌ ◌or◌ least same_two edge_of pattern_of matches_at
right_computed = refl

module _ {a b c : ℕ} (h : Places a b c) where
  number_is : number_of cases (16 * a + 4 * b + c) (three_pattern a b c) ≡ table_number (pattern 3 3 (matches_at a b c))
  number_is = eqb-true _ _ (at_places h right right_computed) ∙ sym (number_places h)

  -- an arm of the match
  pub arm : {n : ℕ} → 16 * a + 4 * b + c ≡ n → number_of cases n (three_pattern a b c) ≡ table_number (pattern 3 3 (matches_at a b c))
  arm k = sym (ap (λ (n : ℕ). number_of cases n (three_pattern a b c)) k) ∙ number_is

-- ---- the last arm

-- n has the bits of none of the cases, beside what T says
abbrev pub NoneOf : ℕ → Type 0 → List Case → Type 0
NoneOf n T [] = T
NoneOf n T (c ∷ cs) = NoneOf n (T × (n ≡ bits c.shared → ⊥)) cs

none_number : (n d : ℕ) (T : Type 0) (cs : List Case) → NoneOf n T cs → (d ≡ number_of cs n d) × T
none_number n d T [] h = (refl, h)
none_number n d T (c ∷ cs) h = let r = none_number n d (T × (n ≡ bits c.shared → ⊥)) cs h in (rw (ne_eqb _ _ r.1.1) r.0, r.1.0)

pub last_arm : {a b c : ℕ} → Places a b c → NoneOf (16 * a + 4 * b + c) (Unit {0}) cases → (r : Option ℕ) → IsPattern r (three_pattern a b c) → IsPattern r (table_number (pattern 3 3 (matches_at a b c)))
last_arm {a} {b} {c} h none r e = subst (IsPattern r) ((none_number (16 * a + 4 * b + c) (three_pattern a b c) (Unit {0}) cases none).0 ∙ number_is h) e
