-- What the calls answer on one cell with one DOF, on a quad and a triangle, and on runs and plans that no planning gave: record 0, 9, and 20 to 23. Assumes
-- nothing.
use Rattle.std.specs.Prelude.{ℕ, refl, Bool, true, false, List, [], ◌∷◌, replicate, Float}
use Rattle.lists.specs.Examples.{Example, example, Holds}
use Rattle.grid.specs.Mesh.{kinds_match}
use Rattle.function.specs.Examples.{elements, opened_function}
use Rattle.integrands.specs.declared.Term.TheVariants.{Bare}
use Rattle.integrands.specs.Examples.{1·}
use Rattle.lent_numbers.specs.Lent.{Touching, touching, Distant, distant}
use Rattle.lent_numbers.specs.Examples.{opened_lent_numbers}
use Rattle.cell_pairs.specs.Records.{rec, record_at}
use Rattle.cell_pairs.specs.Blocks.{block_at, entries_before}
use Rattle.plans.specs.declared.KindPairs.{KindPairs}
use Rattle.plans.specs.declared.PlanNumbers.{PlanNumbers}
use Rattle.runs.specs.Runs.{Run, Plan, plan_of, Answer, found, accepted, refused, entry_lists, entries_to, entry_place, ranges_right, counts_right, kinds_fit, plan_right, matrix_right, entries_right, pair_left, record_known, record_right, kinds_put, look_refusal, distant_refusal, touching_refusal, entries_refusal, look, add_distant, add_touching, add_entries}

-- opens the definitions that the calls cite
unfoldable pub opened_runs : Unit {0}
unfolding opened_function opened_lent_numbers kinds_match record_at block_at entries_before ranges_right counts_right kinds_fit plan_right matrix_right entries_right pair_left record_known record_right kinds_put look_refusal distant_refusal touching_refusal entries_refusal look add_distant add_touching add_entries
opened_runs = tt

-- so many touching pairs per two kinds
abbrev per_kinds : ℕ → ℕ → ℕ → ℕ → KindPairs
per_kinds a b c d = record { triangle_triangle = a; triangle_quad = b; quad_triangle = c; quad_quad = d }

-- one triangle with itself, one DOF inside (its quad element is not read), one bare term of kind 0
abbrev numbers : KindPairs → PlanNumbers
numbers pairs =
    record {
      cells = 1;
      vertices = 3;
      edges = 3;
      triangles = 1;
      quads = 0;
      touching = 1;
      distant = 0;
      pairs = pairs;
      rows = 1;
      columns = 1;
      test = elements 0 0 1 99;
      trial = elements 0 0 1 99;
      integrand = record { terms = 1; first = Bare 0; second = Bare 0 };
    }

abbrev at : Bool → ℕ → Run
at entries p = record { numbers = numbers (per_kinds 1 0 0 0); entries = entries; position = p }

abbrev right : Plan
right = plan_of (3 ∷ []) (0 ∷ []) (0 ∷ []) (27 ∷ 0 ∷ 0 ∷ [])

-- the paper's number of an answer: 0 where nothing is turned down
abbrev number : Answer → ℕ
number (found e) = 0
number accepted = 0
number (refused n) = n

abbrev looked : Run → Plan → ℕ
looked r l = number (look r l).answer

-- look answers record 0
abbrev pub first_look : Example
first_look = example (look (at false 0) right).answer (found (rec 27 0 0))

pub first_look_holds : Holds first_look
unfolding opened_runs
first_look_holds = refl

-- look: 20 after the last record, 21 past it; 21 where the plan has another length, before 20 too; 22 for another pattern, a cell not below 1, a DOF not below
-- 1
abbrev pub looks_answered : Example
looks_answered =
    example
    (looked (at false 1) right
    ∷ looked (at false 2) right
    ∷ looked (at false 1) (plan_of (3 ∷ []) (0 ∷ []) (0 ∷ []) [])
    ∷ looked (at false 0) (plan_of (3 ∷ []) (0 ∷ []) (0 ∷ []) [])
    ∷ looked (at false 0) (plan_of (3 ∷ []) (0 ∷ []) (0 ∷ []) (149 ∷ 0 ∷ 0 ∷ []))
    ∷ looked (at false 0) (plan_of (3 ∷ []) (0 ∷ []) (0 ∷ []) (27 ∷ 1 ∷ 0 ∷ []))
    ∷ looked (at false 0) (plan_of (3 ∷ []) (0 ∷ []) (0 ∷ []) (27 ∷ 0 ∷ 1 ∷ []))
    ∷ looked (at false 0) (plan_of (3 ∷ []) (1 ∷ []) (0 ∷ []) (27 ∷ 0 ∷ 0 ∷ []))
    ∷ looked (at false 0) (plan_of (3 ∷ []) (0 ∷ []) (1 ∷ []) (27 ∷ 0 ∷ 0 ∷ []))
    ∷ [])
    (20 ∷ 21 ∷ 21 ∷ 21 ∷ 22 ∷ 22 ∷ 22 ∷ 22 ∷ 22 ∷ [])

pub looks_answered_hold : Holds looks_answered
unfolding opened_runs
looks_answered_hold = refl

-- adds that are lent nothing: 9 where all before it passes; 23 for a record, or a run, of the other kind; 22 before 23, and 21 before both
abbrev nothing : Touching
nothing = touching 0 [] [] [] [] [] []

abbrev nothing_distant : Distant
nothing_distant = distant 0 0 [] [] [] [] [] [] []

abbrev pub adds_answered : Example
adds_answered =
    let M : List Float = 1· ∷ [] in
    example
    (number (add_touching (at false 0) right M nothing).answer
    ∷ number (add_touching (at true 0) right M nothing).answer
    ∷ number (add_touching (at true 0) right [] nothing).answer
    ∷ number (add_distant (at false 0) right M nothing_distant).answer
    ∷ number (add_distant (at false 0) (plan_of (3 ∷ []) (0 ∷ []) (1 ∷ []) (27 ∷ 0 ∷ 0 ∷ [])) M nothing_distant).answer
    ∷ number (add_distant (at true 0) (plan_of (3 ∷ []) (0 ∷ []) (0 ∷ []) (255 ∷ 0 ∷ 0 ∷ [])) M nothing_distant).answer
    ∷ number (add_distant (at false 0) (plan_of (3 ∷ []) (0 ∷ []) (0 ∷ []) (255 ∷ 0 ∷ 0 ∷ [])) M nothing_distant).answer
    ∷ number (add_touching (at true 0) (plan_of (3 ∷ []) (0 ∷ []) (1 ∷ []) (27 ∷ 0 ∷ 0 ∷ [])) [] nothing).answer
    ∷ [])
    (9 ∷ 23 ∷ 21 ∷ 23 ∷ 22 ∷ 23 ∷ 9 ∷ 21 ∷ [])

pub adds_answered_hold : Holds adds_answered
unfolding opened_runs
adds_answered_hold = refl

-- ---- a quad and a triangle

-- Cell 0 is a quad with two DOFs inside, cell 1 a triangle with one, and they share no vertex: S, N, and the touching pairs per two kinds
abbrev mixed_numbers : ℕ → ℕ → KindPairs → PlanNumbers
mixed_numbers S N pairs =
    record {
      cells = 2;
      vertices = 7;
      edges = 7;
      triangles = 1;
      quads = 1;
      touching = S;
      distant = N;
      pairs = pairs;
      rows = 3;
      columns = 3;
      test = elements 0 0 1 2;
      trial = elements 0 0 1 2;
      integrand = record { terms = 1; first = Bare 0; second = Bare 0 };
    }

abbrev mixed_at : KindPairs → Bool → ℕ → Run
mixed_at pairs entries p = record { numbers = mixed_numbers 2 2 pairs; entries = entries; position = p }

-- their plan: triangles come first
abbrev mixed : Plan
mixed = plan_of (4 ∷ 3 ∷ []) (0 ∷ 1 ∷ 2 ∷ []) (0 ∷ 1 ∷ 2 ∷ []) (255 ∷ 1 ∷ 0 ∷ 255 ∷ 0 ∷ 1 ∷ 27 ∷ 1 ∷ 1 ∷ 148 ∷ 0 ∷ 0 ∷ [])

-- look answers each record. 21 for a kind list that is short, that has a kind of 5 or other kinds; for pairs per two kinds that do not add up to S, and for
-- S + N that is not C·C
abbrev pub mixed_looked : Example
mixed_looked =
    let with : List ℕ → Plan = λ kinds. plan_of kinds mixed.test_dofs mixed.trial_dofs mixed.work in
    let pairs : KindPairs = per_kinds 1 0 0 1 in
    example
    (looked (mixed_at pairs false 0) mixed
    ∷ looked (mixed_at pairs false 1) mixed
    ∷ looked (mixed_at pairs false 2) mixed
    ∷ looked (mixed_at pairs false 3) mixed
    ∷ looked (mixed_at pairs false 4) mixed
    ∷ looked (mixed_at pairs false 0) (with (4 ∷ []))
    ∷ looked (mixed_at pairs false 0) (with (4 ∷ 5 ∷ []))
    ∷ looked (mixed_at pairs false 0) (with (4 ∷ 4 ∷ []))
    ∷ looked (mixed_at (per_kinds 1 0 0 2) false 0) mixed
    ∷ looked (record { numbers = mixed_numbers 2 1 pairs; entries = false; position = 0 }) mixed
    ∷ [])
    (0 ∷ 0 ∷ 0 ∷ 0 ∷ 20 ∷ 21 ∷ 21 ∷ 21 ∷ 21 ∷ 21 ∷ [])

pub mixed_looked_holds : Holds mixed_looked
unfolding opened_runs
mixed_looked_holds = refl

-- entries stand record after record: the triangle has one, the quad four behind it
abbrev pub mixed_places : Example
mixed_places =
    let r : ℕ → Run = mixed_at (per_kinds 1 0 0 1) true in
    example (entry_place (r 2) ∷ entry_place (r 3) ∷ entries_to (r 2).numbers 2 ∷ []) (0 ∷ 1 ∷ 5 ∷ [])

pub mixed_places_hold : Holds mixed_places
unfolding opened_runs
mixed_places_hold = refl

-- entries calls that are lent nothing: 9 where all before it passes; 21 for lists of another length; 22 where the numbers put two quads, or a triangle and a
-- quad, at the record of the triangle, before 23 too; 23 in a dense run, also before N, where the numbers put nothing
abbrev pub mixed_entered : Example
mixed_entered =
    let answer : KindPairs → Bool → ℕ → ℕ → ℕ =
    λ pairs entries p n. number (add_entries (mixed_at pairs entries p) mixed (entry_lists (replicate n 0) (replicate n 0) (replicate n 1·)) nothing).answer in
    example
    (answer (per_kinds 1 0 0 1) true 2 5
    ∷ answer (per_kinds 1 0 0 1) true 3 5
    ∷ answer (per_kinds 1 0 0 1) true 2 4
    ∷ answer (per_kinds 0 0 0 2) true 2 8
    ∷ answer (per_kinds 0 1 0 1) true 2 6
    ∷ answer (per_kinds 0 0 0 2) true 3 8
    ∷ answer (per_kinds 0 0 0 2) false 2 8
    ∷ answer (per_kinds 1 0 0 1) false 2 5
    ∷ answer (per_kinds 0 0 0 2) false 0 8
    ∷ [])
    (9 ∷ 9 ∷ 21 ∷ 22 ∷ 22 ∷ 9 ∷ 22 ∷ 23 ∷ 23 ∷ [])

pub mixed_entered_holds : Holds mixed_entered
unfolding opened_runs
mixed_entered_holds = refl

-- ---- a kind without cells

-- The triangle's numbers, forged: its touching pair is said to be one of quads, of which there are none. These have no DOFs, whatever their element says, so
-- that there are no entries: entries calls give 22 with empty lists, as the numbers put two quads at the record of the triangle, and 21 with others
abbrev pub absent_unread : Example
absent_unread =
    let r : Run = record { numbers = numbers (per_kinds 0 0 0 1); entries = true; position = 0 } in
    let answer : ℕ → ℕ = λ n. number (add_entries r right (entry_lists (replicate n 0) (replicate n 0) (replicate n 1·)) nothing).answer in
    example (entries_to r.numbers 1 ∷ answer 0 ∷ answer 1 ∷ []) (0 ∷ 22 ∷ 21 ∷ [])

pub absent_unread_holds : Holds absent_unread
unfolding opened_runs
absent_unread_holds = refl
