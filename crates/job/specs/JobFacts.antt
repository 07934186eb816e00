-- What the code of the job format rests on. Assumes nothing.
use Prim.Native.Nat.{ℕ, zero, suc, ◌+◌, ◌*◌, ◌≤◌, ◌<◌}
use Rattle.std.proofs.Common.{zero-add, arith, sym, ap, ◌∙◌, ⊎_elim, append-nil, take_at}
use Rattle.std.specs.Prelude.{◌≡◌, Option, None, Some, List, [], ◌∷◌, ◌++◌, length, set, take, drop, min}
use Rattle.std.specs.Option.{unwrap_or}
use Rattle.std.proofs.Math.Path.{refl}
use Rattle.std.proofs.Math.Bool.{true}
use Rattle.std.proofs.lemmas.List.{map-append, length-map, take-append-le}
use Rattle.std.proofs.Math.ListN.{drop_of_length-le}
use Rattle.std.proofs.Math.Seq.{length-take-le, take_all}
use Rattle.std.proofs.Math.Dec.{leb}
use borrow.Author.Tests.{leb-true, eqb-true, le-leb}
use Rattle.lists.specs.Bool.{every_at}
use Rattle.lists.specs.Bounded.{lt_or_le}
use Rattle.lists.specs.Range.{range, length_range}
use Rattle.lists.specs.Stores.{sets_all}
use Rattle.lists.specs.Writes.{Stores, stores_turn, stores_done}
use Rattle.lists.specs.Refusals.{refusal_at}
use Rattle.job.specs.declared.JobNumbers.{JobNumbers}
use Rattle.job.specs.Job.{JobRead, Whole, Refused, two, twos, rest_length, cell_count, within, job_numbers, job_vertices, job_edges, job_right, job_small, job_refusal, read_answer, read_job, front, vertex_list_of, edge_list_of}

-- ---- checks 12 and 13

-- a job that passes 12 holds its fields and its lists
pub record Long (s : List ℕ) : Type 0 where
  pub fields : 19 ≤ length s
  pub long : length s ≡ 19 + 12 * cell_count s

pub right_long : (s : List ℕ) → job_right s ≡ true → Long s
unfolding job_right
right_long s h =
    let rest : rest_length s ≡ 15 + 12 * cell_count s = eqb-true _ _ (every_at _ h 3) in
    let says : length s ≡ 4 + rest_length s = eqb-true _ _ (every_at _ h 1) in
    record { fields = leb-true _ _ (every_at _ h 0); long = omega arith }

-- the test of the limit, which is C where there is none
pub within_most : (limit : Option ℕ) (C : ℕ) {most : ℕ} → most ≡ unwrap_or limit C → within limit C ≡ leb C most
within_most None C e = sym (le-leb _ _ (omega (arith, e)))
within_most (Some most) C e = rw e

module _ (s : List ℕ) (limit : Option ℕ) where
  -- no refusal: the job is long enough
  pub passed_long : job_refusal s limit ≡ 0 → Long s
  unfolding job_refusal
  passed_long e = right_long s (refusal_at _ e refl 0)

-- ---- numbers of 2 bytes, one after the other

pub length_twos : (s : List ℕ) (k n : ℕ) → length (twos s k n) ≡ n
length_twos s k n = length-map (range n) (λ i. two s (k + 2 * i)) ∙ length_range n

-- a loop that reads one after the other into a list (`Stores`): one more is read, and all are
abbrev pub Filled : List ℕ → ℕ → List ℕ → List ℕ → ℕ → Type 0
Filled s k before after i = Stores (λ j. two s (k + 2 * j)) (length before) before after 0 i

pub filled_turn : (s : List ℕ) (k : ℕ) {i : ℕ} {before after : List ℕ} → Filled s k before after i → i < length before → {v : ℕ} → v ≡ two s (k + 2 * i)
    → Filled s k before (set after i v) (i + 1)
filled_turn s k {i} f h e = rw e (rw (zero-add i) at (stores_turn f h))

pub filled_done : (s : List ℕ) (k : ℕ) {i : ℕ} {before after : List ℕ} → Filled s k before after i → length before ≤ i → after ≡ twos s k (length before)
filled_done s k {before = before} f h = stores_done f h ∙ sets_all before (twos s k (length before)) (length_twos s k (length before))

-- ---- numbers at the front of a list

take_twos : (s : List ℕ) (k m n : ℕ) → m ≤ n → take m (twos s k n) ≡ twos s k m
unfolding range
take_twos s k m zero h = let z : m ≡ 0 = omega arith in rw z
take_twos s k m (suc n) h = ⊎_elim (λ l. shorter l (take_twos s k m n (omega arith))) whole (lt_or_le m (suc n))
  where
    shorter : m < suc n → take m (twos s k n) ≡ twos s k m → take m (twos s k (suc n)) ≡ twos s k m
    shorter l e =
        ap (take m) (map-append (λ i. two s (k + 2 * i)) (range n) (n ∷ []))
        ∙ take-append-le m (twos s k n) (two s (k + 2 * n) ∷ []) (omega (arith, length_twos s k n))
        ∙ e

    whole : suc n ≤ m → take m (twos s k (suc n)) ≡ twos s k m
    whole l = let e : m ≡ suc n = omega arith in rw e (take_all (suc n) (twos s k (suc n)) (omega (arith, length_twos s k (suc n))))

module _ (s : List ℕ) (k n : ℕ) (list : List ℕ) where
  -- a part of it is lent, and read
  pub front_part : n < length list → {part : List ℕ} → part ≡ twos s k (length (take n list)) → part ++ drop n list ≡ front (twos s k n) list
  unfolding front
  front_part h e =
      rw (e, length-take-le n list (omega arith), take_all (length list) (twos s k n) (omega (arith, length_twos s k n)), length_twos s k n)

  -- the whole of it
  pub front_whole : length list ≤ n → twos s k (length list) ≡ front (twos s k n) list
  unfolding front
  front_whole h = rw (take_twos s k (length list) n h, length_twos s k n, drop_of_length-le list {i = n} h, append-nil)

  -- as much of it as there are numbers
  pub front_least : {most : ℕ} → most ≡ min n (length list) → {part : List ℕ} → part ≡ twos s k (length (take most list)) → part ++ drop most list ≡ front (twos s k n) list
  front_least {most} m {part} e = ⊎_elim fewer all (lt_or_le n (length list))
    where
      fewer : n < length list → part ++ drop most list ≡ front (twos s k n) list
      fewer h = let same : most ≡ n = omega (arith, m) in rw same (front_part h (rw same at e))

      all : length list ≤ n → part ++ drop most list ≡ front (twos s k n) list
      all h =
          let same : most ≡ length list = omega (arith, m) in
          let whole : part ≡ twos s k (length list) = rw (same, take_all (length list) list (omega arith)) at e in
          rw (same, drop_of_length-le list {i = length list} (omega arith), append-nil) (whole ∙ front_whole h)

-- ---- what reading a job answers and writes

module _ (s : List ℕ) (limit : Option ℕ) where
  pub read_refused : {v : ℕ} → v ≡ job_refusal s limit → (v ≡ 0 → ⊥) → {vs es : List ℕ}
      → (Refused v ≡ read_job s limit) × ((vs ≡ vertex_list_of s limit vs) × (es ≡ edge_list_of s limit es))
  unfolding read_job vertex_list_of edge_list_of
  read_refused {v} e h {vs} {es} = go v h e
    where
      go : (v : ℕ) → (v ≡ 0 → ⊥) → v ≡ job_refusal s limit
          → (Refused v ≡ read_job s limit) × ((vs ≡ vertex_list_of s limit vs) × (es ≡ edge_list_of s limit es))
      go zero h e = absurd (h refl)
      go (suc v) h e = (rw (← e), (rw (← e), rw (← e)))

  pub read_whole : job_refusal s limit ≡ 0 → {n : JobNumbers} {C : ℕ} → n ≡ job_numbers s → C ≡ cell_count s → (vs es : List ℕ) {vs' es' : List ℕ}
      → vs' ≡ front (twos s 19 (3 * C)) vs → es' ≡ front (twos s (19 + 2 * (3 * C)) (3 * C)) es
      → (Whole n ≡ read_job s limit) × ((vs' ≡ vertex_list_of s limit vs) × (es' ≡ edge_list_of s limit es))
  unfolding read_job vertex_list_of edge_list_of
  read_whole e {n} {C} en ec vs es ev ee =
      let at : 19 + 2 * (3 * C) ≡ 19 + 6 * cell_count s = omega (arith, ec) in
      let vertices = rw ec at ev in
      let edges = rw ec at (rw at at ee) in
      (rw (e, en), (rw e vertices, rw e edges))

-- ---- how a caller takes the answer apart

answer_whole : (v : ℕ) (m n : JobNumbers) → read_answer v m ≡ Whole n → (v ≡ 0) × (n ≡ m)
answer_whole zero m n e = (refl, cc)
answer_whole (suc v) m n e = let z : ◌≡◌ {A = ℕ} 0 1 = cc in absurd (omega arith)

answer_refused : (v n : ℕ) (m : JobNumbers) → read_answer v m ≡ Refused n → (n ≡ v) × (0 < n)
answer_refused zero n m e = let z : ◌≡◌ {A = ℕ} 0 1 = cc in absurd (omega arith)
answer_refused (suc v) n m e = let same : n ≡ suc v = cc in (same, omega arith)

module _ (s : List ℕ) (limit : Option ℕ) {r : JobRead} (answers : r ≡ read_job s limit) where
  pub read_numbers : {n : JobNumbers} → r ≡ Whole n → (job_refusal s limit ≡ 0) × (n ≡ job_numbers s)
  unfolding read_job
  read_numbers {n} e = answer_whole (job_refusal s limit) (job_numbers s) n (sym answers ∙ e)

  pub read_refusal : {v : ℕ} → r ≡ Refused v → (v ≡ job_refusal s limit) × (0 < v)
  unfolding read_job
  read_refusal {v} e = answer_refused (job_refusal s limit) v (job_numbers s) (sym answers ∙ e)

-- few cells
pub limited_small : (s : List ℕ) {most : ℕ} → job_refusal s (Some most) ≡ 0 → cell_count s ≤ most
unfolding job_refusal job_small
limited_small s e = leb-true _ _ (refusal_at _ e refl 1)

-- the two lists, where there is room
take_front : (s : List ℕ) (k n : ℕ) (list : List ℕ) → n ≤ length list → take n (front (twos s k n) list) ≡ twos s k n
unfolding front
take_front s k n list h =
    rw (take_all (length list) (twos s k n) (omega (arith, length_twos s k n))) (take_at (twos s k n) _ n (length_twos s k n))

module _ (s : List ℕ) (limit : Option ℕ) (none : job_refusal s limit ≡ 0) (list : List ℕ) (room : 3 * cell_count s ≤ length list) where
  pub take_vertices : take (3 * cell_count s) (vertex_list_of s limit list) ≡ job_vertices s
  unfolding vertex_list_of
  take_vertices = rw none (take_front s 19 (3 * cell_count s) list room)

  pub take_edges : take (3 * cell_count s) (edge_list_of s limit list) ≡ job_edges s
  unfolding edge_list_of
  take_edges = rw none (take_front s (19 + 6 * cell_count s) (3 * cell_count s) list room)
