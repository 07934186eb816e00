-- The run: what each call answers, the run that it hands back, and what it leaves in the matrix or the entry lists, for any run, plan and arguments.
-- Assumes nothing.
use Rattle.std.specs.Prelude.{ℕ, zero, suc, ◌+◌, ◌-◌, ◌*◌, Bool, true, false, not, cond, List, [], ◌∷◌, ◌++◌, length, get_or, leb, ltb, eqb, Float}
use Rattle.std.proofs.lemmas.List.Edits.{sets}
use Rattle.lists.specs.Bool.{◌and◌, ◌or◌, every}
use Rattle.lists.specs.Refusals.{Check, check, refusal}
use Rattle.grid.specs.Cells.{part}
use Rattle.grid.specs.Mesh.{most_cells, most_vertices, most_edges, kinds_match}
use Rattle.numbers.specs.Ranges.{within, all_below}
use Rattle.function.specs.declared.Elements.{Elements}
use Rattle.function.specs.Elements.{cell_dim, dims_right}
use Rattle.integrands.specs.Terms.{integrand_right}
use Rattle.lent_numbers.specs.Lent.{Touching, Distant, touching_checks, distant_checks}
use Rattle.lent_numbers.specs.Entries.{touching_entry, distant_entry}
use Rattle.scatter.specs.Adding.{add_local, local_rows, local_columns, local_values}
use Rattle.cell_pairs.specs.declared.WorkRecord.{WorkRecord}
use Rattle.cell_pairs.specs.Records.{pattern_count, distant_pattern, width, record_at}
use Rattle.cell_pairs.specs.Blocks.{Block, block, block_at, entries_before}
use Rattle.plans.specs.declared.PlanNumbers.{PlanNumbers}
use Rattle.plans.specs.Planning.{unless_refused, dof_places}

-- A run: the numbers of the planning that it was begun from, whether it is an entries run, and its position p
pub record Run : Type 0 where
  pub numbers : PlanNumbers
  pub entries : Bool
  pub position : ℕ

-- The plan that a call is lent: the kind list, the two DOF lists and the work list
pub record Plan : Type 0 where
  pub kinds : List ℕ
  pub test_dofs : List ℕ
  pub trial_dofs : List ℕ
  pub work : List ℕ

abbrev pub plan_of : List ℕ → List ℕ → List ℕ → List ℕ → Plan
plan_of kinds test_dofs trial_dofs work = record { kinds = kinds; test_dofs = test_dofs; trial_dofs = trial_dofs; work = work }

-- The three entry lists that the entries call is lent
pub record EntryLists : Type 0 where
  pub rows : List ℕ
  pub columns : List ℕ
  pub values : List Float

abbrev pub entry_lists : List ℕ → List ℕ → List Float → EntryLists
entry_lists rows columns values = record { rows = rows; columns = columns; values = values }

-- What the paper calls the answer: a look's record, acceptance, or a refusal's number
pub data Answer : Type 0 where
  found : WorkRecord → Answer
  accepted : Answer
  refused : ℕ → Answer

-- What a call hands back: the run, and its answer
pub record Reply : Type 0 where
  pub run : Run
  pub answer : Answer

-- ---- beginning refuses nothing

-- a dense run starts at 0
unfoldable pub begin : PlanNumbers → Run
begin p = record { numbers = p; entries = false; position = 0 }

-- an entries run starts at N
unfoldable pub begin_entries : PlanNumbers → Run
begin_entries p = record { numbers = p; entries = true; position = p.distant }

-- of either kind
abbrev pub begun : Bool → PlanNumbers → Run
begun false p = begin p
begun true p = begin_entries p

-- ---- what the checks read

-- C·C
abbrev pub pairs : PlanNumbers → ℕ
pairs p = p.cells * p.cells

-- record p of the work list
abbrev pub record_of : Run → Plan → WorkRecord
record_of r l = record_at l.work r.position

-- the kinds of its two cells, and the dims that these give
abbrev pub test_kind : Run → Plan → ℕ
test_kind r l = get_or l.kinds (record_of r l).test 0

abbrev pub trial_kind : Run → Plan → ℕ
trial_kind r l = get_or l.kinds (record_of r l).trial 0

abbrev pub test_dim : Run → Plan → ℕ
test_dim r l = cell_dim r.numbers.test (test_kind r l)

abbrev pub trial_dim : Run → Plan → ℕ
trial_dim r l = cell_dim r.numbers.trial (trial_kind r l)

-- the DOFs of a cell in a DOF list: as many as its dim, one cell after the other
abbrev pub cell_dofs : List ℕ → Elements → List ℕ → ℕ → List ℕ
cell_dofs ks es dofs i = part (cell_dim es) ks dofs i

abbrev pub test_dofs_of : Run → Plan → List ℕ
test_dofs_of r l = cell_dofs l.kinds r.numbers.test l.test_dofs (record_of r l).test

abbrev pub trial_dofs_of : Run → Plan → List ℕ
trial_dofs_of r l = cell_dofs l.kinds r.numbers.trial l.trial_dofs (record_of r l).trial

-- how many DOF places the cells have together, by their own dims
abbrev pub test_places : Run → Plan → ℕ
test_places r l = dof_places r.numbers.cells l.kinds r.numbers.test

abbrev pub trial_places : Run → Plan → ℕ
trial_places r l = dof_places r.numbers.cells l.kinds r.numbers.trial

-- ---- entries stand record after record, touching records block after block of the pattern table

-- the touching pairs per two kinds, in the order of the table
abbrev pub blocks : PlanNumbers → List Block
blocks p =
    block 3 3 p.pairs.triangle_triangle ∷ block 3 4 p.pairs.triangle_quad ∷ block 4 3 p.pairs.quad_triangle
    ∷ block 4 4 p.pairs.quad_quad
    ∷ []

-- the cells of kind n
abbrev pub kind_cells : PlanNumbers → ℕ → ℕ
kind_cells p n = cond (eqb n 3) p.triangles p.quads

-- the dim of kind n on a side. A kind without cells has none: its element is not read
abbrev pub kind_dim : PlanNumbers → Elements → ℕ → ℕ
kind_dim p es n = cond (eqb (kind_cells p n) 0) 0 (cell_dim es n)

-- the entries of a record of test kind n and trial kind k: test dim · trial dim
abbrev pub entries_on : PlanNumbers → ℕ → ℕ → ℕ
entries_on p n k = kind_dim p p.test n * kind_dim p p.trial k

-- those of the first q touching records
abbrev pub entries_to : PlanNumbers → ℕ → ℕ
entries_to p q = entries_before (entries_on p) (blocks p) q

-- a pattern of a touching record, and that of a distant one
abbrev pub is_touching : ℕ → Bool
is_touching pattern = ltb pattern pattern_count

abbrev pub is_distant : ℕ → Bool
is_distant pattern = eqb pattern distant_pattern

-- ---- the checks

-- 21: run numbers are in their ranges, the elements read as 4 reads them
unfoldable pub ranges_right : Run → Bool
ranges_right r =
    every (within 1 most_cells r.numbers.cells
    ∷ within 3 most_vertices r.numbers.vertices
    ∷ within 3 most_edges r.numbers.edges
    ∷ dims_right r.numbers.triangles r.numbers.quads r.numbers.test r.numbers.trial
    ∷ integrand_right r.numbers.integrand
    ∷ [])

-- 21: the pairs per two kinds add up to S, S + N = C·C, p is at most C·C, and an entries run has p from N on
unfoldable pub counts_right : Run → Bool
counts_right r =
    let n = r.numbers in
    every (eqb (n.pairs.triangle_triangle + n.pairs.triangle_quad + n.pairs.quad_triangle + n.pairs.quad_quad) n.touching
    ∷ eqb (n.touching + n.distant) (pairs n)
    ∷ leb r.position (pairs n)
    ∷ (not r.entries or leb n.distant r.position)
    ∷ [])

-- 21: the kind list is that of the cells, of which so many are triangles and so many quads
unfoldable pub kinds_fit : Run → Plan → Bool
kinds_fit r l = kinds_match r.numbers.cells r.numbers.triangles r.numbers.quads l.kinds

-- 21: rows and columns are at most, and DOF lists as long, as the cells' own dims add up to; the work list is 3·C·C long
unfoldable pub plan_right : Run → Plan → Bool
plan_right r l =
    every (leb r.numbers.rows (test_places r l)
    ∷ leb r.numbers.columns (trial_places r l)
    ∷ eqb (length l.test_dofs) (test_places r l)
    ∷ eqb (length l.trial_dofs) (trial_places r l)
    ∷ eqb (length l.work) (width * pairs r.numbers)
    ∷ [])

-- 21: the matrix is rows·columns long
unfoldable pub matrix_right : Run → List Float → Bool
matrix_right r M = eqb (length M) (r.numbers.rows * r.numbers.columns)

-- 21: each entry list is as long as the entries of all touching records
unfoldable pub entries_right : Run → EntryLists → Bool
entries_right r e =
    let n = entries_to r.numbers r.numbers.touching in
    every (eqb (length e.rows) n ∷ eqb (length e.columns) n ∷ eqb (length e.values) n ∷ [])

-- 20 is p = C·C
unfoldable pub pair_left : Run → Bool
pair_left r = not (eqb r.position (pairs r.numbers))

-- 22: a record has a pattern of the list, and cells below C
unfoldable pub record_known : Run → WorkRecord → Bool
record_known r e =
    every ((is_touching e.pattern or is_distant e.pattern) ∷ ltb e.test r.numbers.cells ∷ ltb e.trial r.numbers.cells ∷ [])

-- 22: so has record p, and each DOF of its two cells is below its size
unfoldable pub record_right : Run → Plan → Bool
record_right r l =
    every (record_known r (record_of r l) ∷ all_below (test_dofs_of r l) r.numbers.rows ∷ all_below (trial_dofs_of r l) r.numbers.columns ∷ [])

-- 22 of the entries call: the pairs per two kinds put no cells of other kinds at p. (Before N they put nothing there.)
unfoldable pub kinds_put : Run → Plan → Bool
kinds_put r l =
    let b = block_at (blocks r.numbers) (r.position - r.numbers.distant) in
    ltb r.position r.numbers.distant or (eqb (test_kind r l) b.test_kind and eqb (trial_kind r l) b.trial_kind)

-- every call checks 21, 20, 22; sized: what is lent beside the plan has its length
abbrev pub state_checks : Run → Plan → Bool → List Check
state_checks r l sized =
    check 21 (every (ranges_right r ∷ counts_right r ∷ kinds_fit r l ∷ plan_right r l ∷ sized ∷ [])) ∷ check 20 (pair_left r) ∷ check 22 (record_right r l) ∷ []

-- look is lent the plan alone, and makes no other check
unfoldable pub look_refusal : Run → Plan → ℕ
look_refusal r l = refusal (state_checks r l true)

-- adds and the entries call check 23 too, the entries call 22 once more before it, then 9 to 11; kind: record and run are of the call's kind
abbrev pub call_checks : Run → Plan → Bool → Bool → List Check → List Check
call_checks r l sized kind numbers = state_checks r l sized ++ check 23 kind ∷ numbers

unfoldable pub distant_refusal : Run → Plan → List Float → Distant → ℕ
distant_refusal r l M a =
    refusal
    (call_checks r l (matrix_right r M) (is_distant (record_of r l).pattern and not r.entries)
    (distant_checks r.numbers.integrand (test_dim r l) (trial_dim r l) a))

unfoldable pub touching_refusal : Run → Plan → List Float → Touching → ℕ
touching_refusal r l M a =
    refusal
    (call_checks r l (matrix_right r M) (is_touching (record_of r l).pattern and not r.entries)
    (touching_checks r.numbers.integrand (test_dim r l) (trial_dim r l) a))

unfoldable pub entries_refusal : Run → Plan → EntryLists → Touching → ℕ
entries_refusal r l e a =
    refusal
    (state_checks r l (entries_right r e) ++ check 22 (kinds_put r l) ∷ check 23 (is_touching (record_of r l).pattern and r.entries)
    ∷ touching_checks r.numbers.integrand (test_dim r l) (trial_dim r l) a)

-- ---- what is handed back

-- p grows by 1
unfoldable pub advance : Run → Run
advance r = record { numbers = r.numbers; entries = r.entries; position = r.position + 1 }

-- an answer, by the refusal's number: 0 is no refusal
abbrev pub answered : ℕ → Answer → Answer
answered zero a = a
answered (suc n) a = refused (suc n)

-- a refused call hands the run back as it was
abbrev pub reply : ℕ → Run → Run → Answer → Reply
reply n r next a = record { run = unless_refused n next r; answer = answered n a }

-- look answers record p
unfoldable pub look : Run → Plan → Reply
look r l = reply (look_refusal r l) r r (found (record_of r l))

unfoldable pub add_distant : Run → Plan → List Float → Distant → Reply
add_distant r l M a = reply (distant_refusal r l M a) r (advance r) accepted

unfoldable pub add_touching : Run → Plan → List Float → Touching → Reply
add_touching r l M a = reply (touching_refusal r l M a) r (advance r) accepted

unfoldable pub add_entries : Run → Plan → EntryLists → Touching → Reply
add_entries r l e a = reply (entries_refusal r l e a) r (advance r) accepted

-- ---- what is written

-- the matrix after an add
unfoldable pub distant_matrix : Run → Plan → List Float → Distant → List Float
distant_matrix r l M a =
    unless_refused (distant_refusal r l M a)
    (add_local (distant_entry r.numbers.integrand a) r.numbers.rows (test_dofs_of r l) (trial_dofs_of r l) M)
    M

unfoldable pub touching_matrix : Run → Plan → List Float → Touching → List Float
touching_matrix r l M a =
    unless_refused (touching_refusal r l M a)
    (add_local (touching_entry r.numbers.integrand a) r.numbers.rows (test_dofs_of r l) (trial_dofs_of r l) M)
    M

-- the entries call writes behind the entries of the touching records before p
abbrev pub entry_place : Run → ℕ
entry_place r = entries_to r.numbers (r.position - r.numbers.distant)

-- row, column and value of each local entry of record p there
abbrev pub written : Run → Plan → (ℕ → ℕ → Float) → EntryLists → EntryLists
written r l entry e =
    record {
      rows = sets e.rows (entry_place r) (local_rows (test_dofs_of r l) (trial_dofs_of r l));
      columns = sets e.columns (entry_place r) (local_columns (test_dofs_of r l) (trial_dofs_of r l));
      values = sets e.values (entry_place r) (local_values entry (test_dim r l) (trial_dim r l));
    }

-- the entry lists after the entries call
unfoldable pub entries_written : Run → Plan → EntryLists → Touching → EntryLists
entries_written r l e a = unless_refused (entries_refusal r l e a) (written r l (touching_entry r.numbers.integrand a) e) e
