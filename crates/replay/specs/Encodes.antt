-- Each list of calls, with any lists in their arguments, has an encoding. (Its numbers are of any size; that they fit the machine's words is the host's.)
-- Assumes nothing.
use Rattle.std.specs.Prelude.{ℕ, zero, suc, ◌+◌, ◌-◌, ◌*◌, ◌/◌, ◌<◌, ◌≤◌, ◌≡◌, refl, List, [], ◌∷◌, ◌++◌, length, get_or, take, drop, Float}
use Rattle.std.proofs.Common.{zero-add, suc-add, arith, sym, ap, ap₂, ◌∙◌, append_assoc, le-leb, length-append}
use Rattle.std.proofs.Math.Seq.{take-append_seam, drop-append_seam}
use Rattle.lists.specs.Bool.{◌and◌}
use Rattle.lists.specs.Fold.{list_of}
use Rattle.lent_numbers.specs.Lent.{Touching, Distant}
use Rattle.cell_pairs.specs.declared.WorkRecord.{WorkRecord}
use Rattle.runs.specs.Runs.{Answer, found, accepted, refused}
use Rattle.runs.specs.Calls.{Call, looks, adds_distant, adds_touching, adds_entries}
use Rattle.replay.specs.Encoding.{part_of, list_in, distant_in, touching_in, call_of, call_at, calls_of, call_count, answer_numbers}

-- ---- lists one after the other in a pool

-- all of them, joined
unfoldable joined : List (List Float) → List Float
joined [] = []
joined (x ∷ xs) = x ++ joined xs

-- the places between them, the first of which is n
unfoldable places : ℕ → List (List Float) → List ℕ
places n [] = n ∷ []
places n (x ∷ xs) = n ∷ places (n + length x) xs

first_place : (n : ℕ) (xs : List (List Float)) → get_or (places n xs) 0 0 ≡ n
unfolding places
first_place n [] = refl
first_place n (x ∷ xs) = refl

-- a part in the middle
part_middle : (p x q : List Float) → part_of (p ++ (x ++ q)) (length p) (length p + length x) ≡ x
unfolding part_of ◌and◌
part_middle p x q =
    let long : length (p ++ (x ++ q)) ≡ length p + (length x + length q) = length-append p (x ++ q) ∙ ap (λ (k : ℕ). length p + k) (length-append x q) in
    let size : length p + length x - length p ≡ length x = omega arith in
    rw (le-leb (length p) (length p + length x) (omega arith), le-leb (length p + length x) (length (p ++ (x ++ q))) (omega arith), size, drop-append_seam, take-append_seam)

-- list j stands between place j and place j + 1
between : (xs : List (List Float)) (p q : List Float) (j : ℕ) → j < length xs
    → part_of (p ++ (joined xs ++ q)) (get_or (places (length p) xs) j 0) (get_or (places (length p) xs) (suc j) 0) ≡ get_or xs j []
unfolding joined places
between [] p q j h = absurd (omega arith)
between (x ∷ xs) p q zero h = rw (first_place (length p + length x) xs, append_assoc) (part_middle p x (joined xs ++ q))
between (x ∷ xs) p q (suc j) h =
    let pool : p ++ ((x ++ joined xs) ++ q) ≡ (p ++ x) ++ (joined xs ++ q) = simp append_assoc in
    rw (pool, ← (length-append p x)) (between xs (p ++ x) q j (omega arith))

-- ---- one call

-- its kind, its point counts, and its lists: seven, the last of them empty where it has fewer
unfoldable kind_of : Call → ℕ
kind_of looks = 0
kind_of (adds_distant a) = 1
kind_of (adds_touching a) = 2
kind_of (adds_entries a) = 3

unfoldable first_count : Call → ℕ
first_count looks = 0
first_count (adds_distant a) = a.test_points
first_count (adds_touching a) = a.points
first_count (adds_entries a) = a.points

unfoldable second_count : Call → ℕ
second_count looks = 0
second_count (adds_distant a) = a.trial_points
second_count (adds_touching a) = 0
second_count (adds_entries a) = 0

abbrev touching_lists : Touching → List (List Float)
touching_lists a = a.weights ∷ a.test_table ∷ a.trial_table ∷ a.kernel ∷ a.test_geometry ∷ a.trial_geometry ∷ [] ∷ []

unfoldable lent_lists : Call → List (List Float)
lent_lists looks = [] ∷ [] ∷ [] ∷ [] ∷ [] ∷ [] ∷ [] ∷ []
lent_lists (adds_distant a) =
    a.test_weights ∷ a.trial_weights ∷ a.test_table ∷ a.trial_table ∷ a.kernel ∷ a.test_geometry ∷ a.trial_geometry ∷ []
lent_lists (adds_touching a) = touching_lists a
lent_lists (adds_entries a) = touching_lists a

-- its numbers, where its lists stand in the pool from place n on
unfoldable numbers_of : ℕ → Call → List ℕ
numbers_of n c = kind_of c ∷ first_count c ∷ second_count c ∷ places n (lent_lists c)

length_places : (n : ℕ) (xs : List (List Float)) → length (places n xs) ≡ suc (length xs)
unfolding places
length_places n [] = refl
length_places n (x ∷ xs) = ap suc (length_places (n + length x) xs)

seven : (c : Call) → length (lent_lists c) ≡ 7
unfolding lent_lists
seven looks = refl
seven (adds_distant a) = refl
seven (adds_touching a) = refl
seven (adds_entries a) = refl

eleven : (n : ℕ) (c : Call) → length (numbers_of n c) ≡ 11
unfolding numbers_of
eleven n c = omega (arith, length_places n (lent_lists c), seven c)

-- list j of a call's numbers
lent_list : (c : Call) (p q : List Float) (j : ℕ) → j < 7 → list_in (p ++ (joined (lent_lists c) ++ q)) (numbers_of (length p) c) j ≡ get_or (lent_lists c) j []
unfolding list_in numbers_of
lent_list c p q j h =
    let three : j + 3 ≡ suc (suc (suc j)) = omega arith in
    let four : j + 4 ≡ suc (suc (suc (suc j))) = omega arith in
    rw (three, four) (between (lent_lists c) p q j (omega (arith, seven c)))

distant_is : (pool : List Float) (call : List ℕ) (a : Distant) → get_or call 1 0 ≡ a.test_points → get_or call 2 0 ≡ a.trial_points
    → list_in pool call 0 ≡ a.test_weights → list_in pool call 1 ≡ a.trial_weights → list_in pool call 2 ≡ a.test_table → list_in pool call 3 ≡ a.trial_table
    → list_in pool call 4 ≡ a.kernel → list_in pool call 5 ≡ a.test_geometry → list_in pool call 6 ≡ a.trial_geometry → distant_in pool call ≡ a
unfolding distant_in
distant_is pool call a e₁ e₂ e₃ e₄ e₅ e₆ e₇ e₈ e₉ = rw (e₁, e₂, e₃, e₄, e₅, e₆, e₇, e₈, e₉) refl

touching_is : (pool : List Float) (call : List ℕ) (a : Touching) → get_or call 1 0 ≡ a.points → list_in pool call 0 ≡ a.weights
    → list_in pool call 1 ≡ a.test_table → list_in pool call 2 ≡ a.trial_table → list_in pool call 3 ≡ a.kernel → list_in pool call 4 ≡ a.test_geometry
    → list_in pool call 5 ≡ a.trial_geometry → touching_in pool call ≡ a
unfolding touching_in
touching_is pool call a e₁ e₂ e₃ e₄ e₅ e₆ e₇ = rw (e₁, e₂, e₃, e₄, e₅, e₆, e₇) refl

-- a call's numbers encode it
decodes : (c : Call) (p q : List Float) → call_of (p ++ (joined (lent_lists c) ++ q)) (numbers_of (length p) c) ≡ c
unfolding call_of numbers_of kind_of first_count second_count lent_lists
decodes looks p q = refl
decodes (adds_distant a) p q =
    ap adds_distant
    (distant_is _ _ a refl refl
    (lent_list (adds_distant a) p q 0 (omega arith))
    (lent_list (adds_distant a) p q 1 (omega arith))
    (lent_list (adds_distant a) p q 2 (omega arith))
    (lent_list (adds_distant a) p q 3 (omega arith))
    (lent_list (adds_distant a) p q 4 (omega arith))
    (lent_list (adds_distant a) p q 5 (omega arith))
    (lent_list (adds_distant a) p q 6 (omega arith)))
decodes (adds_touching a) p q =
    ap adds_touching
    (touching_is _ _ a refl
    (lent_list (adds_touching a) p q 0 (omega arith))
    (lent_list (adds_touching a) p q 1 (omega arith))
    (lent_list (adds_touching a) p q 2 (omega arith))
    (lent_list (adds_touching a) p q 3 (omega arith))
    (lent_list (adds_touching a) p q 4 (omega arith))
    (lent_list (adds_touching a) p q 5 (omega arith)))
decodes (adds_entries a) p q =
    ap adds_entries
    (touching_is _ _ a refl
    (lent_list (adds_entries a) p q 0 (omega arith))
    (lent_list (adds_entries a) p q 1 (omega arith))
    (lent_list (adds_entries a) p q 2 (omega arith))
    (lent_list (adds_entries a) p q 3 (omega arith))
    (lent_list (adds_entries a) p q 4 (omega arith))
    (lent_list (adds_entries a) p q 5 (omega arith)))

-- ---- a list of calls

unfoldable encoded_calls : ℕ → List Call → List ℕ
encoded_calls n [] = []
encoded_calls n (c ∷ cs) = numbers_of n c ++ encoded_calls (n + length (joined (lent_lists c))) cs

unfoldable encoded_pool : List Call → List Float
encoded_pool [] = []
encoded_pool (c ∷ cs) = joined (lent_lists c) ++ encoded_pool cs

list_first : (g : ℕ → Call) (n : ℕ) → list_of g (suc n) ≡ g 0 ∷ list_of (λ (k : ℕ). g (suc k)) n
unfolding list_of
list_first g zero = refl
list_first g (suc n) = ap (λ (cs : List Call). cs ++ (g (suc n) ∷ [])) (list_first g n)

list_same : (g h : ℕ → Call) → ((k : ℕ) → g k ≡ h k) → (n : ℕ) → list_of g n ≡ list_of h n
unfolding list_of
list_same g h e zero = refl
list_same g h e (suc n) = ap₂ (λ (cs : List Call) (c : Call). cs ++ (c ∷ [])) (list_same g h e n) (e n)

drop_past : (xs ys : List ℕ) (k : ℕ) → drop (length xs + k) (xs ++ ys) ≡ drop k ys
drop_past [] ys k = rw zero-add
drop_past (x ∷ xs) ys k = rw suc-add (drop_past xs ys k)

-- the first call, and those after it
first_call : (xs ys : List ℕ) (pool : List Float) → length xs ≡ 11 → call_at (xs ++ ys) pool 0 ≡ call_of pool xs
unfolding call_at
first_call xs ys pool e = ap (call_of pool) (ap (λ (n : ℕ). take n (xs ++ ys)) (sym e) ∙ take-append_seam xs ys)

later_call : (xs ys : List ℕ) (pool : List Float) → length xs ≡ 11 → (k : ℕ) → call_at (xs ++ ys) pool (suc k) ≡ call_at ys pool k
unfolding call_at
later_call xs ys pool e k =
    let place : 11 * suc k ≡ length xs + 11 * k = omega arith in
    rw (place, drop_past xs ys (11 * k))

encodes_from : (cs : List Call) (p : List Float) → calls_of (encoded_calls (length p) cs) (p ++ encoded_pool cs) (length cs) ≡ cs
unfolding calls_of encoded_calls encoded_pool list_of
encodes_from [] p = refl
encodes_from (c ∷ cs) p =
    let own : List Float = joined (lent_lists c) in
    let rest : List ℕ = encoded_calls (length p + length own) cs in
    let pool : List Float = p ++ (own ++ encoded_pool cs) in
    let later : calls_of rest pool (length cs) ≡ cs = rw (← (append_assoc p own (encoded_pool cs)), ← (length-append p own)) (encodes_from cs (p ++ own)) in
    list_first (call_at (numbers_of (length p) c ++ rest) pool) (length cs)
    ∙ ap₂ (λ (d : Call) (ds : List Call). d ∷ ds)
    (first_call (numbers_of (length p) c) rest pool (eleven (length p) c) ∙ decodes c p (encoded_pool cs))
    (list_same _ (call_at rest pool) (later_call (numbers_of (length p) c) rest pool (eleven (length p) c)) (length cs) ∙ later)

length_encoded : (n : ℕ) (cs : List Call) → length (encoded_calls n cs) ≡ 11 * length cs
unfolding encoded_calls
length_encoded n [] = refl
length_encoded n (c ∷ cs) =
    omega (arith, length-append (numbers_of n c) (encoded_calls (n + length (joined (lent_lists c))) cs), eleven n c, length_encoded (n + length (joined (lent_lists c))) cs)

-- with room for the answers, just those calls are played
all_counted : (calls answers : List ℕ) (n : ℕ) → length calls ≡ 11 * n → 4 * n ≤ length answers → call_count calls answers ≡ n
unfolding call_count
all_counted calls answers n e h =
    let whole : length calls / 11 ≡ n = omega arith in
    let room : n ≤ length answers / 4 = omega arith in
    rw (whole, le-leb n (length answers / 4) room)

-- For each list of calls there are numbers and a pool that encode just it, and of which `replay` plays just it wherever there is room for the answers
pub encodes : (cs : List Call) → (calls : List ℕ) × (pool : List Float) × ((answers : List ℕ) → 4 * length cs ≤ length answers → calls_of calls pool (call_count calls answers) ≡ cs)
encodes cs =
    (encoded_calls 0 cs, encoded_pool cs, λ answers room. rw (all_counted (encoded_calls 0 cs) answers (length cs) (length_encoded 0 cs) room) (encodes_from cs []))

-- ---- answers

-- the four numbers tell each answer from any other
same_record : (e f : WorkRecord) → e.pattern ≡ f.pattern → e.test ≡ f.test → e.trial ≡ f.trial → e ≡ f
same_record e f p q r = rw (← p, ← q, ← r) refl

pub told : (a b : Answer) → answer_numbers a ≡ answer_numbers b → a ≡ b
unfolding answer_numbers
told (found e) (found f) h = ap found (same_record e f (cc) (cc) (cc))
told (found e) accepted h = absurd (let z : ◌≡◌ {A = ℕ} 0 1 = cc in omega arith)
told (found e) (refused n) h = absurd (let z : ◌≡◌ {A = ℕ} 0 2 = cc in omega arith)
told accepted (found f) h = absurd (let z : ◌≡◌ {A = ℕ} 1 0 = cc in omega arith)
told accepted accepted h = refl
told accepted (refused n) h = absurd (let z : ◌≡◌ {A = ℕ} 1 2 = cc in omega arith)
told (refused m) (found f) h = absurd (let z : ◌≡◌ {A = ℕ} 2 0 = cc in omega arith)
told (refused m) accepted h = absurd (let z : ◌≡◌ {A = ℕ} 2 1 = cc in omega arith)
told (refused m) (refused n) h = ap refused (cc)
