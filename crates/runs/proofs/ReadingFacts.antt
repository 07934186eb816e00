-- What a list of calls leaves the machine in, as it is read: the calls that were accepted took the pairs in order. Assumes nothing.
use Prim.Native.Nat.{ℕ, zero, suc, ◌+◌, ◌*◌, ◌<◌, ◌≤◌}
use Rattle.std.proofs.Common.{add-zero, add-one, arith, ap₂, ◌∙◌, get_or-set_same, get_or-set_other, eqb-true}
use Rattle.std.specs.Prelude.{◌≡◌, Bool, not, length, get_or, take, eqb, Float}
use Rattle.std.proofs.Math.Path.{refl, sym, ap}
use Rattle.std.proofs.Math.Bool.{true, false, cond}
use mathlib.Core.List.{List, [], ◌∷◌, ◌++◌, flat_map, append_assoc, append-nil}
use Rattle.std.proofs.Math.ListN.{length-append}
use Rattle.std.proofs.Math.Seq.{length-sets}
use Rattle.std.specs.Float.{nan}
use Rattle.std.proofs.lemmas.Bool.{eqb-false}
use Rattle.lists.specs.Range.{range, when, flat_map_range, flat_map_none}
use Rattle.lists.specs.Fold.{upto, over, upto_keeps}
use Rattle.lists.specs.Refusals.{refusal, unless}
use Rattle.lists.specs.Total.{count, total, gate}
use Rattle.numbers.specs.Floats.{◌⊕◌}
use Rattle.scatter.specs.Adding.{add_at, add_local}
use Rattle.scatter.specs.AddingFacts.{length_add_at, length_add_local}
use Rattle.plans.specs.Planning.{unless_refused}
use Rattle.runs.specs.Runs.{EntryLists, Answer, found, refused, answered}
use Rattle.runs.specs.Calls.{Call, looks, adds_distant, adds_touching, adds_entries}
use Rattle.runs.specs.Machine.{Machine, State, record_no, lists_sized, call_checks, add_pair, write_pair, moved, granted, call_refusal, machine_step, start, fresh, machine_run}
use Rattle.runs.specs.Reading.{is_accepted, acceptances, taken, plus_all, entries_at, pair_entries, entries_from, answer_at}

-- no more pass a test in the front of a list than in the list
pub count_take : {A : Type 0} (p : A → Bool) (n : ℕ) (xs : List A) → count p (take n xs) ≤ count p xs
unfolding total
count_take p zero [] = omega arith
count_take p zero (x ∷ xs) = omega arith
count_take p (suc n) [] = omega arith
count_take p (suc n) (x ∷ xs) = omega (arith, count_take p n xs)

-- ---- one place of the matrix

plus_append : (xs ys : List Float) (x : Float) → plus_all (xs ++ ys) x ≡ plus_all ys (plus_all xs x)
unfolding plus_all over
plus_append [] ys x = refl
plus_append (v ∷ xs) ys x = plus_append xs ys (x ⊕ v)

plus_none : (x : Float) → plus_all [] x ≡ x
unfolding plus_all over
plus_none x = refl

-- a store at one place adds there, and nowhere else
add_place : (M : List Float) (at e : ℕ) (v : Float) → e < length M → get_or (add_at M at v) e nan ≡ plus_all (when (eqb at e) (v ∷ [])) (get_or M e nan)
unfolding add_at plus_all over
add_place M at e v h = go (eqb at e) refl
  where
    go : (b : Bool) → eqb at e ≡ b → get_or (add_at M at v) e nan ≡ plus_all (when b (v ∷ [])) (get_or M e nan)
    go true q =
        let at=e : at ≡ e = eqb-true at e q in
        rw at=e (get_or-set_same M e (get_or M e nan ⊕ v) nan h)
    go false q = get_or-set_other M at e (get_or M at nan ⊕ v) nan (λ z. eqb-false at e q (sym z))

-- steps that each keep the length and add some numbers at place e, one after the other
steps_place : (F : ℕ → List Float → List Float) (g : ℕ → List Float) (e : ℕ) → ((i : ℕ) (A : List Float) → length (F i A) ≡ length A)
    → ((i : ℕ) (A : List Float) → e < length A → get_or (F i A) e nan ≡ plus_all (g i) (get_or A e nan))
    → (n : ℕ) (A : List Float) → e < length A → get_or (upto F n A) e nan ≡ plus_all (flat_map g (range n)) (get_or A e nan)
unfolding upto
steps_place F g e keep add zero A h = sym (ap (λ (l : List Float). plus_all l (get_or A e nan)) (flat_map_none g) ∙ plus_none _)
steps_place F g e keep add (suc n) A h =
    add n (upto F n A) (rw (upto_keeps length F keep n A) h)
    ∙ ap (plus_all (g n)) (steps_place F g e keep add n A h)
    ∙ sym (plus_append (flat_map g (range n)) (g n) (get_or A e nan))
    ∙ ap (λ (l : List Float). plus_all l (get_or A e nan)) (sym (flat_map_range g n) ∙ ap (λ (k : ℕ). flat_map g (range k)) (add-one n))

-- an add at place e
local_place : (entry : ℕ → ℕ → Float) (rows : ℕ) (test_dofs trial_dofs : List ℕ) (e : ℕ) (M : List Float) → e < length M
    → get_or (add_local entry rows test_dofs trial_dofs M) e nan ≡ plus_all (entries_at entry rows test_dofs trial_dofs e) (get_or M e nan)
unfolding add_local entries_at
local_place entry rows test_dofs trial_dofs e M h =
    steps_place _ _ e (λ j A. upto_keeps length _ (λ i B. length_add_at B (get_or test_dofs i 0 + rows * get_or trial_dofs j 0) (entry i j)) (length test_dofs) A)
    (λ j A k.
    steps_place _ _ e (λ i B. length_add_at B (get_or test_dofs i 0 + rows * get_or trial_dofs j 0) (entry i j))
    (λ i B l. add_place B (get_or test_dofs i 0 + rows * get_or trial_dofs j 0) e (entry i j) l) (length test_dofs) A k)
    (length trial_dofs) M h

-- ---- calls that take pairs one after the other

-- the first takes pair k, the next pair k + 1, and so on
unfoldable pub pairs_from : {A : Type 0} → (ℕ → Call → A → A) → ℕ → List Call → A → A
pairs_from f k [] a = a
pairs_from f k (c ∷ cs) a = pairs_from f (suc k) cs (f k c a)

pairs_append : {A : Type 0} (f : ℕ → Call → A → A) (k : ℕ) (cs ds : List Call) (a : A) → pairs_from f k (cs ++ ds) a ≡ pairs_from f (k + length cs) ds (pairs_from f k cs a)
unfolding pairs_from
pairs_append f k [] ds a = rw add-zero
pairs_append f k (c ∷ cs) ds a =
    pairs_append f (suc k) cs ds (f k c a) ∙ ap (λ (n : ℕ). pairs_from f n ds (pairs_from f (suc k) cs (f k c a))) (omega arith)

module _ (m : Machine) where
  length_pair : (k : ℕ) (c : Call) (M : List Float) → length (add_pair m k c M) ≡ length M
  unfolding add_pair
  length_pair k looks M = refl
  length_pair k (adds_distant a) M = length_add_local _ _ _ _ M
  length_pair k (adds_touching a) M = length_add_local _ _ _ _ M
  length_pair k (adds_entries a) M = refl

  pair_place_holds : (k : ℕ) (c : Call) (M : List Float) (e : ℕ) → e < length M → get_or (add_pair m k c M) e nan ≡ plus_all (pair_entries m k c e) (get_or M e nan)
  unfolding add_pair pair_entries
  pair_place_holds k looks M e h = sym (plus_none _)
  pair_place_holds k (adds_distant a) M e h = local_place _ _ _ _ e M h
  pair_place_holds k (adds_touching a) M e h = local_place _ _ _ _ e M h
  pair_place_holds k (adds_entries a) M e h = sym (plus_none _)

  -- each place: its starting number plus, in work order, the local entries of the pairs
  pub pairs_place : (k : ℕ) (cs : List Call) (M : List Float) (e : ℕ) → e < length M
      → get_or (pairs_from (add_pair m) k cs M) e nan ≡ plus_all (entries_from m k cs e) (get_or M e nan)
  unfolding pairs_from entries_from
  pairs_place k [] M e h = sym (plus_none _)
  pairs_place k (c ∷ cs) M e h =
      pairs_place (suc k) cs (add_pair m k c M) e (rw (length_pair k c M) h)
      ∙ ap (plus_all (entries_from m (suc k) cs e)) (pair_place_holds k c M e h)
      ∙ sym (plus_append (pair_entries m k c e) (entries_from m (suc k) cs e) (get_or M e nan))

  pub length_pairs : (k : ℕ) (cs : List Call) (M : List Float) → length (pairs_from (add_pair m) k cs M) ≡ length M
  unfolding pairs_from
  length_pairs k [] M = refl
  length_pairs k (c ∷ cs) M = length_pairs (suc k) cs (add_pair m k c M) ∙ length_pair k c M

  -- ---- one call

  -- with that refusal, a call takes the pair at position p, or none
  abbrev takes : Call → ℕ → ℕ → List Call
  takes c v p = when (is_accepted (answered v (granted m p c))) (c ∷ [])

  record Took (c : Call) (v p : ℕ) (M : List Float) (e : EntryLists) : Type 0 where
    position : unless_refused v (moved m p c) p ≡ p + length (takes c v p)
    matrix : unless_refused v (add_pair m p c M) M ≡ pairs_from (add_pair m) p (takes c v p) M
    lists : unless_refused v (write_pair m p c e) e ≡ pairs_from (write_pair m) p (takes c v p) e

  took : (c : Call) (v p : ℕ) (M : List Float) (e : EntryLists) → Took c v p M e
  unfolding pairs_from add_pair write_pair
  took looks zero p M e = record { position = sym (add-zero p); matrix = refl; lists = refl }
  took looks (suc v) p M e = record { position = sym (add-zero p); matrix = refl; lists = refl }
  took (adds_distant a) zero p M e = record { position = refl; matrix = refl; lists = refl }
  took (adds_distant a) (suc v) p M e = record { position = sym (add-zero p); matrix = refl; lists = refl }
  took (adds_touching a) zero p M e = record { position = refl; matrix = refl; lists = refl }
  took (adds_touching a) (suc v) p M e = record { position = sym (add-zero p); matrix = refl; lists = refl }
  took (adds_entries a) zero p M e = record { position = refl; matrix = refl; lists = refl }
  took (adds_entries a) (suc v) p M e = record { position = sym (add-zero p); matrix = refl; lists = refl }

  -- ---- a list of calls

  -- its answers, from a state on
  unfoldable pub answers_from : List Call → State → List Answer
  answers_from [] s = []
  answers_from (c ∷ cs) s = answered (call_refusal m c s) (granted m s.position c) ∷ answers_from cs (machine_step m c s)

  -- what it leaves
  record Ran (calls : List Call) (s t : State) : Type 0 where
    answers : t.answers ≡ s.answers ++ answers_from calls s
    position : t.position ≡ s.position + length (taken calls (answers_from calls s))
    matrix : t.matrix ≡ pairs_from (add_pair m) s.position (taken calls (answers_from calls s)) s.matrix
    lists : t.lists ≡ pairs_from (write_pair m) s.position (taken calls (answers_from calls s)) s.lists

  -- one more step in front
  pairs_more : {A : Type 0} (f : ℕ → Call → A → A) (p p' : ℕ) (here later : List Call) (a a' end : A) → p' ≡ p + length here → a' ≡ pairs_from f p here a
      → end ≡ pairs_from f p' later a' → end ≡ pairs_from f p (here ++ later) a
  pairs_more f p p' here later a a' end e e' h =
      h ∙ ap₂ (λ (k : ℕ) (b : _). pairs_from f k later b) e e' ∙ sym (pairs_append f p here later a)

  ran : (calls : List Call) (s : State) → Ran calls s (over (machine_step m) calls s)
  unfolding over answers_from taken pairs_from machine_step
  ran [] s = record { answers = sym (append-nil s.answers); position = sym (add-zero s.position); matrix = refl; lists = refl }
  ran (c ∷ cs) s =
      let t : State = machine_step m c s in
      let one = took c (call_refusal m c s) s.position s.matrix s.lists in
      let more = ran cs t in
      let here : List Call = takes c (call_refusal m c s) s.position in
      let later : List Call = taken cs (answers_from cs t) in
      record {
        answers = more.answers ∙ append_assoc s.answers _ (answers_from cs t);
        position = more.position ∙ omega (arith, one.position, length-append here later);
        matrix = pairs_more (add_pair m) s.position t.position here later s.matrix t.matrix _ one.position one.matrix more.matrix;
        lists = pairs_more (write_pair m) s.position t.position here later s.lists t.lists _ one.position one.lists more.lists;
      }

  -- ---- as many calls are taken as there are acceptances, and there is an answer to each call

  length_when : (b : Bool) (c : Call) → length (when b (c ∷ [])) ≡ gate b 1
  length_when true c = refl
  length_when false c = refl

  length_answers : (calls : List Call) (s : State) → length (answers_from calls s) ≡ length calls
  unfolding answers_from
  length_answers [] s = refl
  length_answers (c ∷ cs) s = ap suc (length_answers cs (machine_step m c s))

  acceptances_more : (a : Answer) (A : List Answer) → acceptances (a ∷ A) ≡ gate (is_accepted a) 1 + acceptances A
  unfolding total
  acceptances_more a A = refl

  length_taken : (calls : List Call) (A : List Answer) → length A ≡ length calls → length (taken calls A) ≡ acceptances A
  unfolding taken total
  length_taken [] [] e = refl
  length_taken [] (a ∷ A) e = absurd (omega arith)
  length_taken (c ∷ cs) [] e = absurd (omega arith)
  length_taken (c ∷ cs) (a ∷ A) e =
      length-append (when (is_accepted a) (c ∷ [])) (taken cs A)
      ∙ omega (arith, length_when (is_accepted a) c, length_taken cs A (omega arith), acceptances_more a A)

  -- ---- checks read no more of matrix and lists than their lengths, which stay

  record SameLengths (M M' : List Float) (e e' : EntryLists) : Type 0 where
    matrix : length M' ≡ length M
    rows : length e'.rows ≡ length e.rows
    columns : length e'.columns ≡ length e.columns
    values : length e'.values ≡ length e.values

  answer_same : {M M' : List Float} {e e' : EntryLists} → SameLengths M M' e e' → (p : ℕ) (c : Call) → answer_at m p M' e' c ≡ answer_at m p M e c
  unfolding answer_at call_checks lists_sized
  answer_same h p looks = refl
  answer_same h p (adds_distant a) = rw h.matrix
  answer_same h p (adds_touching a) = rw h.matrix
  answer_same h p (adds_entries a) = rw (h.rows, h.columns, h.values)

  length_write : (k : ℕ) (c : Call) (e : EntryLists)
      → (length (write_pair m k c e).rows ≡ length e.rows) × (length (write_pair m k c e).columns ≡ length e.columns) × (length (write_pair m k c e).values ≡ length e.values)
  unfolding write_pair
  length_write k looks e = (refl, refl, refl)
  length_write k (adds_distant a) e = (refl, refl, refl)
  length_write k (adds_touching a) e = (refl, refl, refl)
  length_write k (adds_entries a) e = (simp length-sets, simp length-sets, simp length-sets)

  step_lengths : (c : Call) (s : State) → SameLengths s.matrix (machine_step m c s).matrix s.lists (machine_step m c s).lists
  unfolding machine_step
  step_lengths c s = go (call_refusal m c s)
    where
      go : (v : ℕ) → SameLengths s.matrix (unless_refused v (add_pair m s.position c s.matrix) s.matrix) s.lists (unless_refused v (write_pair m s.position c s.lists) s.lists)
      go zero =
          let w = length_write s.position c s.lists in
          record { matrix = length_pair s.position c s.matrix; rows = w.0; columns = w.1; values = w.2 }
      go (suc v) = record { matrix = refl; rows = refl; columns = refl; values = refl }

  first_answer : (c : Call) (s : State) → answered (call_refusal m c s) (granted m s.position c) ≡ answer_at m (s.position + acceptances []) s.matrix s.lists c
  unfolding answer_at call_refusal total
  first_answer c s = ap (λ (p : ℕ). answer_at m p s.matrix s.lists c) (sym (add-zero s.position))

  step_position : (c : Call) (s : State) → (machine_step m c s).position ≡ s.position + length (takes c (call_refusal m c s) s.position)
  unfolding machine_step
  step_position c s = (took c (call_refusal m c s) s.position s.matrix s.lists).position

  -- ---- each call is answered at the position that the acceptances before it give

  each_answer : (calls : List Call) (s : State) (k : ℕ) → k < length calls
      → get_or (answers_from calls s) k (refused 0)
      ≡ answer_at m (s.position + acceptances (take k (answers_from calls s))) s.matrix s.lists (get_or calls k looks)
  unfolding answers_from
  each_answer [] s k h = absurd (omega arith)
  each_answer (c ∷ cs) s zero h = first_answer c s
  each_answer (c ∷ cs) s (suc k) h =
      let t : State = machine_step m c s in
      let a : Answer = answered (call_refusal m c s) (granted m s.position c) in
      each_answer cs t k (omega arith)
      ∙ answer_same (step_lengths c s) _ (get_or cs k looks)
      ∙ ap (λ (p : ℕ). answer_at m p s.matrix s.lists (get_or cs k looks))
      (omega (arith, step_position c s, length_when (is_accepted a) c, acceptances_more a (take k (answers_from cs t))))

  -- ---- from the state that a run begins in

  pub record Read (calls : List Call) (M : List Float) (e : EntryLists) (t : State) : Type 0 where
    pub answers : t.answers ≡ answers_from calls (fresh m M e)
    pub answered : length t.answers ≡ length calls
    pub count : length (taken calls t.answers) ≡ acceptances t.answers
    pub position : t.position ≡ start m + acceptances t.answers
    pub matrix : t.matrix ≡ pairs_from (add_pair m) (start m) (taken calls t.answers) M
    pub lists : t.lists ≡ pairs_from (write_pair m) (start m) (taken calls t.answers) e
    pub each : (k : ℕ) → k < length calls
        → get_or t.answers k (refused 0) ≡ answer_at m (start m + acceptances (take k t.answers)) M e (get_or calls k looks)

  pub reading : (calls : List Call) (M : List Float) (e : EntryLists) → Read calls M e (machine_run m calls M e)
  unfolding machine_run
  reading calls M e =
      let s : State = fresh m M e in
      let all = ran calls s in
      record {
        answers = all.answers;
        answered = rw all.answers (length_answers calls s);
        count = rw all.answers (length_taken calls _ (length_answers calls s));
        position = rw all.answers (all.position ∙ ap (λ (k : ℕ). start m + k) (length_taken calls _ (length_answers calls s)));
        matrix = rw all.answers all.matrix;
        lists = rw all.answers all.lists;
        each = rw all.answers (each_answer calls s);
      }

  -- a look: record p in work order, or 20 after the last
  pub look_answer : (p : ℕ) (M : List Float) (e : EntryLists) → answer_at m p M e looks ≡ cond (eqb p m.pairs) (refused 20) (found (record_no m p))
  unfolding answer_at call_checks refusal unless
  look_answer p M e = go (eqb p m.pairs)
    where
      go : (b : Bool) → answered (unless (not b) 20 0) (found (record_no m p)) ≡ cond b (refused 20) (found (record_no m p))
      go true = refl
      go false = refl
