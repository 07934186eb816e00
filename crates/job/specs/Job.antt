-- The job format: all integers big-endian. 4-byte length of the rest; version byte 1; C, V, E (2 bytes each); test a, b, c; trial a, b, c (1 byte
-- each); batch (2 bytes); 3C vertices, then 3C edges (2 bytes each). Checks 12 and 13, and what reading a job answers and writes. Assumes nothing.
use Rattle.std.specs.Prelude.{ℕ, zero, suc, ◌+◌, ◌*◌, Bool, true, Option, None, Some, List, [], ◌∷◌, ◌++◌, map, length, get_or, take, drop, leb, eqb}
use Rattle.lists.specs.Bool.{every}
use Rattle.lists.specs.Range.{range}
use Rattle.lists.specs.Refusals.{Check, check, refusal}
use Rattle.function.specs.declared.Element.{Element}
use Rattle.job.specs.declared.JobNumbers.{JobNumbers}

-- byte k, and the numbers of 2 and of 4 bytes from byte k on
abbrev pub byte : List ℕ → ℕ → ℕ
byte s k = get_or s k 0

abbrev pub two : List ℕ → ℕ → ℕ
two s k = 256 * byte s k + byte s (k + 1)

abbrev pub four : List ℕ → ℕ → ℕ
four s k = 65536 * two s k + two s (k + 2)

-- n numbers of 2 bytes each from byte k on
abbrev pub twos : List ℕ → ℕ → ℕ → List ℕ
twos s k n = map (λ i. two s (k + 2 * i)) (range n)

-- the fields
abbrev pub rest_length : List ℕ → ℕ
rest_length s = four s 0

abbrev pub version : List ℕ → ℕ
version s = byte s 4

abbrev pub cell_count : List ℕ → ℕ
cell_count s = two s 5

abbrev pub element_at : List ℕ → ℕ → Element
element_at s k = record { a = byte s k; b = byte s (k + 1); c = byte s (k + 2) }

abbrev pub job_numbers : List ℕ → JobNumbers
job_numbers s =
    record {
      cells = cell_count s;
      vertices = two s 7;
      edges = two s 9;
      test = element_at s 11;
      trial = element_at s 14;
      batch = two s 17;
    }

abbrev pub job_vertices : List ℕ → List ℕ
job_vertices s = twos s 19 (3 * cell_count s)

abbrev pub job_edges : List ℕ → List ℕ
job_edges s = twos s (19 + 6 * cell_count s) (3 * cell_count s)

-- 12: the job is neither cut short nor longer than it says, version is 1, and the length is 15 + 12C. (The fields before the lists are bytes 0 to 18.)
unfoldable pub job_right : List ℕ → Bool
job_right s =
    every (leb 19 (length s)
    ∷ eqb (length s) (4 + rest_length s)
    ∷ eqb (version s) 1
    ∷ eqb (rest_length s) (15 + 12 * cell_count s)
    ∷ [])

-- the most cells of a job of `worklist`
abbrev pub most_worklist_cells : ℕ
most_worklist_cells = 64

-- 13: at most so many cells, where there is a limit
abbrev pub within : Option ℕ → ℕ → Bool
within None C = true
within (Some most) C = leb C most

unfoldable pub job_small : List ℕ → Option ℕ → Bool
job_small s limit = within limit (cell_count s)

abbrev pub job_checks : List ℕ → Option ℕ → List Check
job_checks s limit = check 12 (job_right s) ∷ check 13 (job_small s limit) ∷ []

-- the first that turns the job down, or 0
unfoldable pub job_refusal : List ℕ → Option ℕ → ℕ
job_refusal s limit = refusal (job_checks s limit)

-- what reading a job answers: its numbers, or the paper's number of a refusal
pub data JobRead : Type 0 where
  Whole : JobNumbers → JobRead
  Refused : ℕ → JobRead

-- 0 is no refusal
abbrev pub read_answer : ℕ → JobNumbers → JobRead
read_answer zero n = Whole n
read_answer (suc k) n = Refused (suc k)

-- what reading a job answers
unfoldable pub read_job : List ℕ → Option ℕ → JobRead
read_job s limit = read_answer (job_refusal s limit) (job_numbers s)

-- for each case: the paper's number, 0 where the job is read, and the values, all 0 where it is refused
abbrev pub read_number : JobRead → ℕ
read_number (Whole n) = 0
read_number (Refused n) = n

abbrev pub read_values : JobRead → JobNumbers
read_values (Whole n) = n
read_values (Refused n) = job_numbers []

-- numbers written at the front of a list, as far as it has room; the rest of a longer list stays
unfoldable pub front : List ℕ → List ℕ → List ℕ
front ns list = take (length list) ns ++ drop (length ns) list

-- the same after a call with that refusal: a refusal writes nothing
abbrev pub unless_refused : ℕ → List ℕ → List ℕ → List ℕ
unless_refused zero ns list = front ns list
unless_refused (suc k) ns list = list

-- the two lists after the call
unfoldable pub vertex_list_of : List ℕ → Option ℕ → List ℕ → List ℕ
vertex_list_of s limit list = unless_refused (job_refusal s limit) (job_vertices s) list

unfoldable pub edge_list_of : List ℕ → Option ℕ → List ℕ → List ℕ
edge_list_of s limit list = unless_refused (job_refusal s limit) (job_edges s) list
