-- What the first 7 bytes of a job say: length field, version and C. Assumes nothing.
use Rattle.std.specs.Prelude.{ℕ, ◌+◌, ◌*◌, ◌≡◌, Bool, true, false, cond, List, [], ◌∷◌, length, leb, eqb}
use Rattle.lists.specs.Bool.{every}
use Rattle.lists.specs.Refusals.{check, refusal}
use Rattle.job.specs.Job.{rest_length, version, cell_count, most_worklist_cells}

-- they are there, version is 1, and the length is 15 + 12C
unfoldable pub head_right : List ℕ → Bool
head_right s = every (leb 7 (length s) ∷ eqb (version s) 1 ∷ eqb (rest_length s) (15 + 12 * cell_count s) ∷ [])

-- what they say: C, or the paper's number of a refusal
pub data HeadRead : Type 0 where
  Cells : ℕ → HeadRead
  Refused : ℕ → HeadRead

abbrev pub head_answer : Bool → ℕ → HeadRead
head_answer true C = Cells C
head_answer false C = Refused 12

-- C, or 12
unfoldable pub read_head : List ℕ → HeadRead
read_head s = head_answer (head_right s) (cell_count s)

-- for each case: the paper's number, 0 where they are right, and the value, 0 where they are refused
abbrev pub head_number : HeadRead → ℕ
head_number (Cells C) = 0
head_number (Refused n) = n

abbrev pub head_cells : HeadRead → ℕ
head_cells (Cells C) = C
head_cells (Refused n) = 0

-- they are right, and say C
pub record Says (h : HeadRead) (C : ℕ) : Type 0 where
  pub number : head_number h ≡ 0
  pub cells : head_cells h ≡ C

-- checks 12 and 13 of a job of `worklist` whose first 7 bytes are right, by the C that they say and the number of its bytes
abbrev pub size_refusal : ℕ → ℕ → ℕ
size_refusal cells bytes = refusal (check 12 (eqb bytes (19 + 12 * cells)) ∷ check 13 (leb cells most_worklist_cells) ∷ [])

-- how many bytes of an input are enough, by what its first 7 bytes say: where they are right, one more than such a job has
abbrev pub enough_bytes : HeadRead → ℕ
enough_bytes h = cond (eqb (head_number h) 0) (20 + 12 * head_cells h) 7
