-- What the first 7 bytes of a job decide, whatever follows: a program need not store more of it. Assumes nothing.
use Rattle.std.specs.Prelude.{ℕ, ◌+◌, ◌*◌, ◌≤◌, ◌<◌, ◌≡◌, refl, Bool, true, false, cond, ◌&&◌, Option, Some, List, [], ◌∷◌, length, take, get_or, leb, eqb}
use Rattle.std.proofs.Common.{arith, sym, ap, ◌∙◌, ⊎_elim, length-take, length-take-le, get_or-take, take-take, leb-true, leb-false, eqb-true, eq-eqb, ne_eqb, le-leb}
use Rattle.std.proofs.lemmas.Bool.{eqb-false, lt-leb}
use Rattle.lists.specs.Bool.{◌and◌, every, every_at, every_fails, every_of, ◌also◌, end, true≢false, cases}
use Rattle.lists.specs.Refusals.{check, refusal, unless, answers, refused}
use Rattle.job.specs.Job.{rest_length, version, cell_count, most_worklist_cells, within, job_right, job_small, job_refusal}
use Rattle.job.specs.Head.{HeadRead, Cells, Refused, head_right, head_answer, read_head, head_number, head_cells, Says, size_refusal, enough_bytes}

-- ---- the code's tests

-- too short
pub short_head : (s : List ℕ) → length s < 7 → false ≡ head_right s
unfolding head_right
short_head s h = sym (every_fails _ 0 (lt-leb 7 (length s) h))

-- the tests of one that is not
pub long_head : (s : List ℕ) (rest v cells : ℕ) → 7 ≤ length s → rest ≡ rest_length s → v ≡ version s → cells ≡ cell_count s
    → eqb v 1 && eqb rest (15 + 12 * cells) ≡ head_right s
unfolding head_right every ◌and◌
long_head s rest v cells h e₁ e₂ e₃ = rw (le-leb 7 (length s) h, e₁, e₂, e₃)

pub head_long : (s : List ℕ) → head_right s ≡ true → 7 ≤ length s
unfolding head_right
head_long s h = leb-true _ _ (every_at _ h 0)

pub head_cells_lem : (s : List ℕ) {C : ℕ} → head_right s ≡ true → C ≡ cell_count s → Cells C ≡ read_head s
unfolding read_head
head_cells_lem s h e = rw (h, e)

pub head_refused : (s : List ℕ) → head_right s ≡ false → Refused 12 ≡ read_head s
unfolding read_head
head_refused s h = rw h

-- ---- check 12 by the first 7 bytes and the number of bytes

right_head : (s : List ℕ) → job_right s ≡ true → head_right s ≡ true
unfolding head_right job_right
right_head s h =
    let long : 19 ≤ length s = leb-true _ _ (every_at _ h 0) in
    every_of (le-leb 7 (length s) (omega arith) also every_at _ h 2 also every_at _ h 3 also end)

-- they are wrong
pub wrong_fails : (s : List ℕ) → head_right s ≡ false → job_right s ≡ false
wrong_fails s h = ⊎_elim (λ e. absurd (true≢false (sym (right_head s e) ∙ h))) (λ e. e) (cases (job_right s))

-- they are right: the number of bytes decides
pub right_by_length : (s : List ℕ) → head_right s ≡ true → eqb (length s) (19 + 12 * cell_count s) ≡ job_right s
unfolding head_right job_right
right_by_length s h = sym (go (eqb (length s) (19 + 12 * cell_count s)) refl)
  where
    rest : rest_length s ≡ 15 + 12 * cell_count s
    rest = eqb-true _ _ (every_at _ h 2)

    go : (b : Bool) → eqb (length s) (19 + 12 * cell_count s) ≡ b → job_right s ≡ b
    go true e =
        let n : length s ≡ 19 + 12 * cell_count s = eqb-true _ _ e in
        let long : 19 ≤ length s = omega arith in
        let says : length s ≡ 4 + rest_length s = omega (arith, rest) in
        every_of (le-leb _ _ long also eq-eqb _ _ says also every_at _ h 1 also every_at _ h 2 also end)
    go false e =
        let other : length s ≡ 19 + 12 * cell_count s → ⊥ = eqb-false _ _ e in
        every_fails _ 1 (ne_eqb _ _ (λ (k : length s ≡ 4 + rest_length s). other (omega (arith, rest))))

-- ---- what they decide

-- the first 7 bytes are read alone
pub head_alone : (s : List ℕ) → read_head (take 7 s) ≡ read_head s
unfolding read_head head_right
head_alone s =
    let at : (k : ℕ) → k < 7 → get_or (take 7 s) k 0 ≡ get_or s k 0 = λ k h. get_or-take 7 s k 0 h in
    rw (there (leb 7 (length s)) refl, at 0 (omega arith), at 1 (omega arith), at 2 (omega arith), at 3 (omega arith), at 4 (omega arith), at 5 (omega arith), at 6 (omega arith))
  where
    there : (b : Bool) → leb 7 (length s) ≡ b → leb 7 (length (take 7 s)) ≡ leb 7 (length s)
    there true e = let h : 7 ≤ length s = leb-true _ _ e in le-leb 7 (length (take 7 s)) (omega (arith, length-take 7 s)) ∙ sym e
    there false e = let h : length s < 7 = leb-false _ _ e in lt-leb 7 (length (take 7 s)) (omega (arith, length-take 7 s)) ∙ sym e

answer_wrong : (b : Bool) (C : ℕ) {n : ℕ} → head_number (head_answer b C) ≡ n → 0 < n → (b ≡ false) × (n ≡ 12)
answer_wrong true C e h = absurd (omega (arith, e))
answer_wrong false C e h = (refl, sym e)

answer_says : (b : Bool) (C : ℕ) {D : ℕ} → Says (head_answer b C) D → (b ≡ true) × (D ≡ C)
answer_says true C h = (refl, sym h.cells)
answer_says false C h = absurd (omega (arith, h.number))

answer_refused : (b : Bool) (C n : ℕ) → head_answer b C ≡ Refused n → 0 < n
answer_refused true C n e = let z : ◌≡◌ {A = ℕ} 0 1 = cc in absurd (omega arith)
answer_refused false C n e = let same : n ≡ 12 = cc in omega arith

-- how a caller takes the answer apart
pub cells_said : {h : HeadRead} {C : ℕ} → h ≡ Cells C → Says h C
cells_said e = record { number = ap head_number e; cells = ap head_cells e }

pub refused_said : (s : List ℕ) {n : ℕ} → read_head s ≡ Refused n → (head_number (read_head s) ≡ n) × (0 < n)
unfolding read_head
refused_said s {n} e = (ap head_number e, answer_refused (head_right s) (cell_count s) n e)

-- they say C: they are there
pub says_long : (s : List ℕ) {C : ℕ} → Says (read_head s) C → 7 ≤ length s
unfolding read_head
says_long s h = head_long s (answer_says (head_right s) (cell_count s) h).0

-- never fewer than 7 bytes
pub enough_seven : (h : HeadRead) → 7 ≤ enough_bytes h
enough_seven h = go (eqb (head_number h) 0)
  where
    go : (b : Bool) → 7 ≤ cond b (20 + 12 * head_cells h) 7
    go true = omega arith
    go false = omega arith

-- they are refused: so is the job, whatever follows
pub head_wrong : (s : List ℕ) {n : ℕ} → head_number (read_head (take 7 s)) ≡ n → 0 < n → (n ≡ 12) × ((limit : Option ℕ) → n ≡ job_refusal s limit)
unfolding read_head job_refusal
head_wrong s e h =
    let wrong = answer_wrong (head_right s) (cell_count s) (ap head_number (sym (head_alone s)) ∙ e) h in
    (wrong.1, λ limit. wrong.1 ∙ answers (refused (wrong_fails s wrong.0)))

-- the same of all bytes: the first 7 turn the job down
pub job_wrong : (s : List ℕ) (limit : Option ℕ) {n : ℕ} → Refused n ≡ read_head s → n ≡ job_refusal s limit
unfolding read_head job_refusal
job_wrong s limit e =
    let said = refused_said s (sym e) in
    let wrong = answer_wrong (head_right s) (cell_count s) said.0 said.1 in
    wrong.1 ∙ answers (refused (wrong_fails s wrong.0))

-- they say C, and the number of bytes decides
pub job_size : (s : List ℕ) (limit : Option ℕ) {C : ℕ} → Cells C ≡ read_head s
    → refusal (check 12 (eqb (length s) (19 + 12 * C)) ∷ check 13 (within limit C) ∷ []) ≡ job_refusal s limit
unfolding read_head job_refusal job_small
job_size s limit e =
    let right = answer_says (head_right s) (cell_count s) (cells_said (sym e)) in
    rw (right.1, right_by_length s right.0)

-- they say C: the number of bytes decides 12 and 13
pub head_size : (s : List ℕ) {C : ℕ} → Says (read_head (take 7 s)) C → size_refusal C (length s) ≡ job_refusal s (Some most_worklist_cells)
unfolding read_head job_refusal job_small
head_size s h =
    let right = answer_says (head_right s) (cell_count s) (rw (head_alone s) at h) in
    rw (right.1, right_by_length s right.0)

-- too many cells: never 0
pub size_refused : (C n : ℕ) → most_worklist_cells < C → 0 < size_refusal C n
unfolding refusal unless
size_refused C n large = rw (lt-leb C most_worklist_cells large) (go (eqb n (19 + 12 * C)))
  where
    go : (b : Bool) → 0 < unless b 12 13
    go true = omega arith
    go false = omega arith

-- they say C: one byte more than such a job has, and it is refused
longer_fails : (s : List ℕ) (C : ℕ) → Says (read_head s) C → 19 + 12 * C < length s → (limit : Option ℕ) → 12 ≡ job_refusal s limit
unfolding read_head job_refusal
longer_fails s C h long limit =
    let right = answer_says (head_right s) (cell_count s) h in
    let more = rw right.1 at long in
    answers (refused (sym (right_by_length s right.0) ∙ ne_eqb _ _ (λ (k : length s ≡ 19 + 12 * cell_count s). omega (arith, more))))

-- so that it need not be read on: both what was read and the whole are refused
pub head_longer : (s : List ℕ) {C : ℕ} → Says (read_head (take 7 s)) C → 20 + 12 * C ≤ length s → (limit : Option ℕ)
    → (12 ≡ job_refusal (take (20 + 12 * C) s) limit) × (12 ≡ job_refusal s limit)
head_longer s {C} h long limit =
    let front = take (20 + 12 * C) s in
    let same : read_head (take 7 s) ≡ read_head front = ap read_head (sym (take-take 7 (20 + 12 * C) s (omega arith))) ∙ head_alone front in (
      longer_fails front C (rw same at h) (omega (arith, length-take-le (20 + 12 * C) s long)) limit,
      longer_fails s C (rw (head_alone s) at h) (omega arith) limit,
    )
