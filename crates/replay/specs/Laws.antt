-- The laws that a loop over the calls needs: none played, one more, and all of them beside the machine. Assumes nothing.
use Rattle.std.specs.Prelude.{ℕ, zero, suc, ◌+◌, ◌-◌, ◌*◌, ◌/◌, ◌≤◌, ◌<◌, ◌≡◌, refl, Bool, true, false, cond, length, get_or, take, drop, leb, Float}
use Prim.Native.Nat.{min}
use Rattle.std.proofs.Math.Nat.{min-eq_left, min-eq_right}
use Rattle.std.specs.Prelude.{Option, None, Some, MatchOption}
use Rattle.std.specs.Borrow.{Bor}
use Rattle.std.specs.Array.{IsFirstChunk}
use Rattle.std.specs.Option.{unwrap_or}
use Rattle.std.specs.Slice.{IsGetRangeResult}
use Rattle.std.proofs.Common.{⊎_elim, take_all, div-mul-le_self, add-one, arith, sym, ◌∙◌, length-append, length-drop}
use Rattle.std.proofs.Math.Path.{ap}
use mathlib.Core.List.{List, [], ◌∷◌, ◌++◌, flat_map}
use Rattle.std.proofs.Math.Seq.{sets, take-length}
use Rattle.std.proofs.lemmas.List.Edits.{sets-eq}
use borrow.Rule.Slice.PartMut.{put_mid}
use Rattle.std.proofs.lemmas.Slice.{put_mid-paste}
use borrow.Author.Tests.{le-leb, lt-leb, leb-true, leb-false, eq-eqb, ne_eqb}
use Rattle.lists.specs.Bool.{◌and◌}
use Rattle.lists.specs.Fold.{over, over_snoc, list_of}
use Rattle.lists.specs.Range.{flat_map_append, flat_map_one}
use Rattle.lists.specs.Stores.{sets_append, sets_front}
use Rattle.lent_numbers.specs.Lent.{Touching, touching, Distant, distant}
use Rattle.plans.specs.declared.PlanNumbers.{PlanNumbers}
use Rattle.plans.specs.Planning.{ready, refused as not_planned, Planning, Lists, plan, plan_numbers, plan_answer, plan_refusal, plan_lists, unless_refused}
use Rattle.plans.specs.Accepted.{ready_is}
use Rattle.runs.specs.Runs.{Run, Plan, EntryLists, Reply, Answer, found, accepted, refused, begun}
use Rattle.runs.specs.Calls.{Call, looks, adds_distant, adds_touching, adds_entries, Progress, reply_to, matrix_after, lists_after, call, call_all}
use Rattle.runs.specs.Machine.{machine_of, machine_run}
use Rattle.runs.specs.Beside.{embed}
use Rattle.runs.specs.Listed.{plan_in}
use Rattle.runs.proofs.Listed.{machine_beside}
use Rattle.replay.specs.Encoding.{part_of, list_in, distant_in, touching_in, call_of, call_at, calls_of, call_count, answer_numbers, put_answers}
use Rattle.replay.specs.Replay.{Outcome, played, refused as not_played, outcome, replayed, replayed_matrix, replayed_lists, replayed_answers}

-- ---- calls and answers, one more

pub calls_none : (calls : List ℕ) (pool : List Float) → calls_of calls pool 0 ≡ []
unfolding calls_of list_of
calls_none calls pool = refl

pub calls_more : (calls : List ℕ) (pool : List Float) (k : ℕ) → calls_of calls pool (k + 1) ≡ calls_of calls pool k ++ (call_at calls pool k ∷ [])
unfolding calls_of list_of
calls_more calls pool k = rw add-one

length_list : (g : ℕ → Call) (n : ℕ) → length (list_of g n) ≡ n
unfolding list_of
length_list g zero = refl
length_list g (suc n) = omega (arith, length-append (list_of g n) (g n ∷ []), length_list g n)

pub length_calls : (calls : List ℕ) (pool : List Float) (n : ℕ) → length (calls_of calls pool n) ≡ n
unfolding calls_of
length_calls calls pool n = length_list (call_at calls pool) n

call_more : (l : Plan) (calls : List Call) (c : Call) (r : Run) (M : List Float) (e : EntryLists)
    → call_all l (calls ++ (c ∷ [])) r M e ≡ call l c (call_all l calls r M e)
unfolding call_all
call_more l calls c r M e = over_snoc (call l) calls c _

-- one answer a call
length_over : (l : Plan) (calls : List Call) (s : Progress) → length (over (call l) calls s).answers ≡ length s.answers + length calls
unfolding over call
length_over l [] s = omega arith
length_over l (c ∷ calls) s =
    omega (arith, length_over l calls (call l c s), length-append s.answers ((reply_to l c s).answer ∷ []))

length_answers : (l : Plan) (calls : List Call) (r : Run) (M : List Float) (e : EntryLists) → length (call_all l calls r M e).answers ≡ length calls
unfolding call_all
length_answers l calls r M e = omega (arith, length_over l calls (record { run = r; matrix = M; lists = e; answers = [] }))

-- four numbers an answer
pub four : (a : Answer) → length (answer_numbers a) ≡ 4
unfolding answer_numbers
four (found e) = refl
four accepted = refl
four (refused n) = refl

length_flat : (xs : List Answer) → length (flat_map answer_numbers xs) ≡ 4 * length xs
unfolding flat_map
length_flat [] = refl
length_flat (x ∷ xs) = omega (arith, length-append (answer_numbers x) (flat_map answer_numbers xs), four x, length_flat xs)

put_more : (xs : List Answer) (x : Answer) (A : List ℕ)
    → sets (sets A 0 (flat_map answer_numbers xs)) (4 * length xs) (answer_numbers x) ≡ sets A 0 (flat_map answer_numbers (xs ++ (x ∷ [])))
put_more xs x A =
    ap (λ (n : ℕ). sets (sets A 0 (flat_map answer_numbers xs)) n (answer_numbers x)) (omega (arith, length_flat xs))
    ∙ sym (ap (sets A 0) (flat_map_append answer_numbers xs (x ∷ []) ∙ ap (λ (v : List ℕ). flat_map answer_numbers xs ++ v) (flat_map_one answer_numbers x))
    ∙ sets_append A 0 (flat_map answer_numbers xs) (answer_numbers x))

put_all : (xs : List Answer) (A : List ℕ) → 4 * length xs ≤ length A → sets A 0 (flat_map answer_numbers xs) ≡ put_answers xs A
unfolding put_answers
put_all xs A h = sets_front A (flat_map answer_numbers xs) (omega (arith, length_flat xs)) ∙ rw (length_flat xs)

-- ---- what playing leaves

-- a run with a matrix and three lists, no answer given yet
abbrev pub standing : Run → List Float → EntryLists → Progress
standing r M e = record { run = r; matrix = M; lists = e; answers = [] }

-- one call, and its answer as four numbers
pub record Answered (l : Plan) (c : Call) (s : Progress) (r : Run) (M : List Float) (e : EntryLists) (numbers : List ℕ) : Type 0 where
  pub run : r ≡ (reply_to l c s).run
  pub matrix : M ≡ matrix_after l c s
  pub lists : e ≡ lists_after l c s
  pub answer : numbers ≡ answer_numbers (reply_to l c s).answer

-- one call: its answer stands from place `at` on
pub record Stepped (l : Plan) (c : Call) (s : Progress) (A : List ℕ) (at : ℕ) (r : Run) (M : List Float) (e : EntryLists) (A' : List ℕ) : Type 0 where
  pub run : r ≡ (reply_to l c s).run
  pub matrix : M ≡ matrix_after l c s
  pub lists : e ≡ lists_after l c s
  pub answers : A' ≡ sets A at (answer_numbers (reply_to l c s).answer)

pub answered : (l : Plan) (c : Call) (s : Progress) (o : Reply) {M : List Float} {e : EntryLists} {numbers : List ℕ}
    → o ≡ reply_to l c s → M ≡ matrix_after l c s → e ≡ lists_after l c s → numbers ≡ answer_numbers o.answer → Answered l c s o.run M e numbers
answered l c s o q m e n =
    record { run = ap (λ (g : Reply). g.run) q; matrix = m; lists = e; answer = n ∙ ap (λ (g : Reply). answer_numbers g.answer) q }

-- numbers stored over as many
pub stored_is : (A ys : List ℕ) (at : ℕ) → at + 4 ≤ length A → length ys ≡ 4 → put_mid at ((at + 4) - at) A ys ≡ sets A at ys
stored_is A ys at room long =
    let size : (at + 4) - at ≡ 4 = omega arith in
    rw size
    (put_mid-paste at 4 A ys ys (length ys) refl long refl
    ∙ ap (λ (r : List ℕ). take at A ++ r ++ drop (at + length ys) A) (take-length ys)
    ∙ sym (sets-eq ys A at (omega (arith, long))))

pub stepped : {l : Plan} {c : Call} {s : Progress} {A : List ℕ} {at : ℕ} {r : Run} {M : List Float} {e : EntryLists} {answer A' : List ℕ}
    → Answered l c s r M e answer → A' ≡ sets A at answer → Stepped l c s A at r M e A'
stepped h w = record { run = h.run; matrix = h.matrix; lists = h.lists; answers = rw h.answer at w }

-- a list of calls
pub record Going (l : Plan) (calls : List Call) (s : Progress) (A : List ℕ) (r : Run) (M : List Float) (e : EntryLists) (A' : List ℕ) : Type 0 where
  pub run : r ≡ (call_all l calls s.run s.matrix s.lists).run
  pub matrix : M ≡ (call_all l calls s.run s.matrix s.lists).matrix
  pub lists : e ≡ (call_all l calls s.run s.matrix s.lists).lists
  pub answers : A' ≡ sets A 0 (flat_map answer_numbers (call_all l calls s.run s.matrix s.lists).answers)

-- the loop starts
pub going_none : (l : Plan) (r : Run) (M : List Float) (e : EntryLists) (A : List ℕ) → Going l [] (standing r M e) A r M e A
unfolding call_all over flat_map
going_none l r M e A = record { run = refl; matrix = refl; lists = refl; answers = refl }

-- a call does not read the answers so far
unread : (l : Plan) (c : Call) (s : Progress)
    → (reply_to l c (standing s.run s.matrix s.lists) ≡ reply_to l c s)
    × (matrix_after l c (standing s.run s.matrix s.lists) ≡ matrix_after l c s)
    × (lists_after l c (standing s.run s.matrix s.lists) ≡ lists_after l c s)
unfolding reply_to matrix_after lists_after
unread l looks s = (refl, refl, refl)
unread l (adds_distant a) s = (refl, refl, refl)
unread l (adds_touching a) s = (refl, refl, refl)
unread l (adds_entries a) s = (refl, refl, refl)

-- a turn
pub going_more : (l : Plan) (calls : List Call) (c : Call) (s : Progress) (A₀ : List ℕ) (r : Run) (M : List Float) (e : EntryLists) (A : List ℕ)
    (r' : Run) (M' : List Float) (e' : EntryLists) (A' : List ℕ) (n : ℕ) → length calls ≡ n → Going l calls s A₀ r M e A
    → Stepped l c (standing r M e) A (4 * n) r' M' e' A' → Going l (calls ++ (c ∷ [])) s A₀ r' M' e' A'
unfolding call
going_more l calls c s A₀ r M e A r' M' e' A' n len before step =
    let t : Progress = call_all l calls s.run s.matrix s.lists in
    let here : standing r M e ≡ standing t.run t.matrix t.lists = rw (before.run, before.matrix, before.lists) in
    let place : n ≡ length t.answers = sym len ∙ sym (length_answers l calls s.run s.matrix s.lists) in
    let same = unread l c t in
    record {
      run = rw call_more (step.run ∙ ap (λ (q : Progress). (reply_to l c q).run) here ∙ ap (λ (q : Reply). q.run) same.0);
      matrix = rw call_more (step.matrix ∙ ap (matrix_after l c) here ∙ same.1);
      lists = rw call_more (step.lists ∙ ap (lists_after l c) here ∙ same.2);
      answers =
          rw call_more
          (step.answers
          ∙ ap (λ (q : Progress). sets A (4 * n) (answer_numbers (reply_to l c q).answer)) here
          ∙ ap (λ (q : Reply). sets A (4 * n) (answer_numbers q.answer)) same.0
          ∙ rw (before.answers, place) (put_more t.answers _ A₀));
    }

-- ---- planning's answer

refused_is : (v n : ℕ) (p : PlanNumbers) → plan_answer n p ≡ not_planned v → (n ≡ 0 → ⊥) × (n ≡ v)
refused_is v zero p e = absurd (let z : ◌≡◌ {A = ℕ} 0 1 = cc in omega arith)
refused_is v (suc n) p e = (λ z. absurd (omega arith), cc)

outcome_refused : (n v : ℕ) (r : Run) → (n ≡ 0 → ⊥) → n ≡ v → not_played v ≡ outcome n r
outcome_refused zero v r h e = absurd (h refl)
outcome_refused (suc n) v r h e = ap not_played (sym e)

refused_keeps : {A : Type 0} (n : ℕ) (new old : A) → (n ≡ 0 → ⊥) → old ≡ unless_refused n new old
refused_keeps zero new old h = absurd (h refl)
refused_keeps (suc n) new old h = refl

-- ---- what replay hands back and leaves

pub record Finished (x : Planning) (l : Lists) (entries : Bool) (calls : List Call) (M : List Float) (e : EntryLists) (A : List ℕ)
    (o : Outcome) (M' : List Float) (e' : EntryLists) (A' : List ℕ) : Type 0 where
  pub answer : o ≡ replayed x l entries calls M e
  pub matrix : M' ≡ replayed_matrix x l entries calls M e
  pub lists : e' ≡ replayed_lists x l entries calls M e
  pub answers : A' ≡ replayed_answers x l entries calls M e A

-- planning refuses: nothing is played
pub finished_refused : (x : Planning) (l : Lists) (entries : Bool) (calls : List Call) (M : List Float) (e : EntryLists) (A : List ℕ) (v : ℕ) → plan x l ≡ not_planned v
    → Finished x l entries calls M e A (not_played v) M e A
unfolding plan replayed replayed_matrix replayed_lists replayed_answers
finished_refused x l entries calls M e A v p =
    let r = refused_is v (plan_refusal x l) (plan_numbers x) p in
    record {
      answer = outcome_refused (plan_refusal x l) v _ r.0 r.1;
      matrix = refused_keeps (plan_refusal x l) _ M r.0;
      lists = refused_keeps (plan_refusal x l) _ e r.0;
      answers = refused_keeps (plan_refusal x l) _ A r.0;
    }

-- planning accepts: the machine's answers, position, matrix and lists
finished_played : (x : Planning) (l l' : Lists) (entries : Bool) (calls : List Call) (p : PlanNumbers) (M : List Float) (e : EntryLists) (A : List ℕ)
    (r : Run) (M' : List Float) (e' : EntryLists) (A' : List ℕ)
    → plan x l ≡ ready p → l' ≡ plan_lists x l → 4 * length calls ≤ length A → Going (plan_in x l') calls (standing (begun entries p) M e) A r M' e' A'
    → Finished x l entries calls M e A (played r) M' e' A'
unfolding replayed replayed_matrix replayed_lists replayed_answers
finished_played x l l' entries calls p M e A r M' e' A' z lists room going =
    let none = (ready_is z).none in
    let same : call_all (plan_in x l') calls (begun entries p) M e ≡ embed x entries (machine_run (machine_of x entries) calls M e) =
    rw lists (machine_beside x l p z entries calls M e) in
    let count : length (machine_run (machine_of x entries) calls M e).answers ≡ length calls =
    ap (λ (s : Progress). length s.answers) (sym same) ∙ length_answers (plan_in x l') calls (begun entries p) M e in
    record {
      answer = rw none (ap played (going.run ∙ ap (λ (s : Progress). s.run) same));
      matrix = rw none (going.matrix ∙ ap (λ (s : Progress). s.matrix) same);
      lists = rw none (going.lists ∙ ap (λ (s : Progress). s.lists) same);
      answers =
          rw none
          (going.answers ∙ ap (λ (s : Progress). sets A 0 (flat_map answer_numbers s.answers)) same ∙ put_all (machine_run (machine_of x entries) calls M e).answers A (omega arith));
    }

-- ---- how many calls are played

pub count_is : (calls answers : List ℕ) → min (length calls / 11) (length answers / 4) ≡ call_count calls answers
unfolding call_count
count_is calls answers = go (leb (length calls / 11) (length answers / 4)) refl
  where
    go : (b : Bool) → leb (length calls / 11) (length answers / 4) ≡ b → min (length calls / 11) (length answers / 4) ≡ cond b (length calls / 11) (length answers / 4)
    go true e = min-eq_left (leb-true (length calls / 11) (length answers / 4) e)
    go false e = let more = leb-false (length calls / 11) (length answers / 4) e in min-eq_right (omega arith)

pub count_fits : (calls answers : List ℕ) → (11 * call_count calls answers ≤ length calls) × (4 * call_count calls answers ≤ length answers)
unfolding call_count
count_fits calls answers = go (leb (length calls / 11) (length answers / 4)) refl
  where
    go : (b : Bool) → leb (length calls / 11) (length answers / 4) ≡ b
        → (11 * cond b (length calls / 11) (length answers / 4) ≤ length calls) × (4 * cond b (length calls / 11) (length answers / 4) ≤ length answers)
    go true e =
        let less = leb-true (length calls / 11) (length answers / 4) e in
        (omega (arith, div-mul-le_self (length calls) 11), omega (arith, div-mul-le_self (length answers) 4))
    go false e =
        let more = leb-false (length calls / 11) (length answers / 4) e in
        (omega (arith, div-mul-le_self (length calls) 11), omega (arith, div-mul-le_self (length answers) 4))

-- ---- what the code has in hand

-- the lists of a call
pub distant_in_lem : (pool : List Float) (call : List ℕ) (w v a b k s t : List Float) → w ≡ list_in pool call 0 → v ≡ list_in pool call 1 → a ≡ list_in pool call 2
    → b ≡ list_in pool call 3 → k ≡ list_in pool call 4 → s ≡ list_in pool call 5 → t ≡ list_in pool call 6
    → distant (get_or call 1 0) (get_or call 2 0) w v a b k s t ≡ distant_in pool call
unfolding distant_in
distant_in_lem pool call w v a b k s t ew ev ea eb ek es et = rw (ew, ev, ea, eb, ek, es, et)

pub touching_in_lem : (pool : List Float) (call : List ℕ) (w a b k s t : List Float) → w ≡ list_in pool call 0 → a ≡ list_in pool call 1 → b ≡ list_in pool call 2
    → k ≡ list_in pool call 3 → s ≡ list_in pool call 4 → t ≡ list_in pool call 5 → touching (get_or call 1 0) w a b k s t ≡ touching_in pool call
unfolding touching_in
touching_in_lem pool call w a b k s t ew ea eb ek es et = rw (ew, ea, eb, ek, es, et)

-- part of a pool, as `get` and `unwrap_or` answer it
pub part_got : (pool : List Float) (a e : ℕ) (got : Option (Bor (List Float))) (none : Bor (List Float)) → none.now ≡ [] → IsGetRangeResult pool a e got
    → (unwrap_or got none).now ≡ part_of pool a e
unfolding part_of ◌and◌
part_got pool a e None none n h = n ∙ ⊎_elim (λ (l : e < a). rw (lt-leb a e l) refl) (λ (l : length pool < e). out (leb a e) l) h.0
  where
    out : (b : Bool) → length pool < e → [] ≡ cond (b and leb e (length pool)) (take (e - a) (drop a pool)) []
    out true l = rw (lt-leb e (length pool) l) refl
    out false l = refl
part_got pool a e (Some x) none n h = rw (le-leb a e h.0.0, le-leb e (length pool) h.0.1) h.0.2

-- the first numbers, as `first_chunk` and `unwrap` answer them
pub chunk_got : (xs : List ℕ) (n : ℕ) {got : Option (Bor (List ℕ))} {x : Bor (List ℕ)} → got ≡ Some x → MatchOption got (length xs < n) (λ y. IsFirstChunk xs y.now n)
    → x.now ≡ take n xs
chunk_got xs n e h = (rw e at h).same

-- the eleven numbers of call k
pub call_is : (calls : List ℕ) (pool : List Float) (k : ℕ) {numbers : List ℕ} → numbers ≡ take 11 (take (length calls - 11 * k) (drop (11 * k) calls))
    → call_of pool numbers ≡ call_at calls pool k
unfolding call_at
call_is calls pool k e = rw (e, take_all (length calls - 11 * k) (drop (11 * k) calls) (omega (arith, length-drop (11 * k) calls))) refl

-- the kind picks the call
module _ (pool : List Float) (call : List ℕ) where
  pub call_looks : get_or call 0 0 ≡ 0 → looks ≡ call_of pool call
  unfolding call_of
  call_looks k = rw (eq-eqb (get_or call 0 0) 0 k)

  pub call_distant : get_or call 0 0 ≡ 1 → {a : Distant} → a ≡ distant_in pool call → adds_distant a ≡ call_of pool call
  unfolding call_of
  call_distant k e = rw (k, e)

  pub call_touching : get_or call 0 0 ≡ 2 → {a : Touching} → a ≡ touching_in pool call → adds_touching a ≡ call_of pool call
  unfolding call_of
  call_touching k e = rw (k, e)

  pub call_entries : (get_or call 0 0 ≡ 0 → ⊥) → (get_or call 0 0 ≡ 1 → ⊥) → (get_or call 0 0 ≡ 2 → ⊥) → {a : Touching} → a ≡ touching_in pool call → adds_entries a ≡ call_of pool call
  unfolding call_of
  call_entries k₀ k₁ k₂ e = rw (ne_eqb (get_or call 0 0) 0 k₀, ne_eqb (get_or call 0 0) 1 k₁, ne_eqb (get_or call 0 0) 2 k₂, e)

-- the calls that there is room for, on a run begun from planning's numbers
pub finished_begun : (x : Planning) (l l' : Lists) (entries : Bool) (calls : List ℕ) (pool : List Float) (p : PlanNumbers) (b : Run) (M : List Float) (e : EntryLists)
    (A : List ℕ) (r : Run) (M' : List Float) (e' : EntryLists) (A' : List ℕ) → plan x l ≡ ready p → l' ≡ plan_lists x l → b ≡ begun entries p
    → Going (plan_in x l') (calls_of calls pool (call_count calls A)) (standing b M e) A r M' e' A'
    → Finished x l entries (calls_of calls pool (call_count calls A)) M e A (played r) M' e' A'
finished_begun x l l' entries calls pool p b M e A r M' e' A' z lists start going =
    finished_played x l l' entries (calls_of calls pool (call_count calls A)) p M e A r M' e' A' z lists (omega (arith, length_calls calls pool (call_count calls A), (count_fits calls A).1)) (rw start at going)

-- room for the calls and their answers
pub count_room : (calls answers : List ℕ) (n : ℕ) → n ≡ call_count calls answers → (11 * n ≤ length calls) × (4 * n ≤ length answers)
count_room calls answers n e = rw e (count_fits calls answers)
