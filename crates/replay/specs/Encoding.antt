-- How a list of calls, and the answers to it, are encoded as numbers for `replay`. Assumes nothing.
use Rattle.std.specs.Prelude.{ℕ, ◌+◌, ◌-◌, ◌*◌, ◌/◌, cond, length, get_or, take, drop, leb, eqb, Float}
use mathlib.Core.List.{List, [], ◌∷◌, ◌++◌, flat_map}
use Rattle.lists.specs.Bool.{◌and◌}
use Rattle.lists.specs.Fold.{list_of}
use Rattle.lent_numbers.specs.Lent.{Touching, Distant}
use Rattle.runs.specs.Runs.{Answer, found, accepted, refused}
use Rattle.runs.specs.Calls.{Call, looks, adds_distant, adds_touching, adds_entries}

-- ---- calls

-- A call is eleven numbers: its kind (0 look, 1 distant, 2 touching, any other the entries call), two point counts (only an add of a distant pair reads the
-- second), and eight places, which part one pool of numbers into seven lists (a touching pair has six, a look none).

-- numbers a to e of the pool, or none where those are not there
unfoldable pub part_of : List Float → ℕ → ℕ → List Float
part_of pool a e = cond (leb a e and leb e (length pool)) (take (e - a) (drop a pool)) []

-- list j of a call: from place j to place j + 1
unfoldable pub list_in : List Float → List ℕ → ℕ → List Float
list_in pool call j = part_of pool (get_or call (j + 3) 0) (get_or call (j + 4) 0)

unfoldable pub distant_in : List Float → List ℕ → Distant
distant_in pool call =
    record {
      test_points = get_or call 1 0;
      trial_points = get_or call 2 0;
      test_weights = list_in pool call 0;
      trial_weights = list_in pool call 1;
      test_table = list_in pool call 2;
      trial_table = list_in pool call 3;
      kernel = list_in pool call 4;
      test_geometry = list_in pool call 5;
      trial_geometry = list_in pool call 6;
    }

unfoldable pub touching_in : List Float → List ℕ → Touching
touching_in pool call =
    record {
      points = get_or call 1 0;
      weights = list_in pool call 0;
      test_table = list_in pool call 1;
      trial_table = list_in pool call 2;
      kernel = list_in pool call 3;
      test_geometry = list_in pool call 4;
      trial_geometry = list_in pool call 5;
    }

-- the call that eleven numbers encode
unfoldable pub call_of : List Float → List ℕ → Call
call_of pool call =
    cond (eqb (get_or call 0 0) 0) looks
    (cond (eqb (get_or call 0 0) 1) (adds_distant (distant_in pool call))
    (cond (eqb (get_or call 0 0) 2) (adds_touching (touching_in pool call)) (adds_entries (touching_in pool call))))

-- call k
unfoldable pub call_at : List ℕ → List Float → ℕ → Call
call_at calls pool k = call_of pool (take 11 (drop (11 * k) calls))

-- the first n calls
unfoldable pub calls_of : List ℕ → List Float → ℕ → List Call
calls_of calls pool n = list_of (call_at calls pool) n

-- ---- answers

-- An answer is four numbers: 0 and a look's record, 1 for acceptance, or 2 and a refusal's number.
unfoldable pub answer_numbers : Answer → List ℕ
answer_numbers (found e) = 0 ∷ e.pattern ∷ e.test ∷ e.trial ∷ []
answer_numbers accepted = 1 ∷ 0 ∷ 0 ∷ 0 ∷ []
answer_numbers (refused n) = 2 ∷ n ∷ 0 ∷ 0 ∷ []

-- a list with the answers in front: what stands past the last one stays
unfoldable pub put_answers : List Answer → List ℕ → List ℕ
put_answers answers before = flat_map answer_numbers answers ++ drop (4 * length answers) before

-- how many calls are played: as many as the numbers encode whole, and no more than there is room to answer
unfoldable pub call_count : List ℕ → List ℕ → ℕ
call_count calls answers = cond (leb (length calls / 11) (length answers / 4)) (length calls / 11) (length answers / 4)
