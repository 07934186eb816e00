-- The machine that a run is set beside: it holds the work list, a position p, a matrix M and three entry lists, and is fed the calls, with their arguments
-- other than run, plan, matrix and lists. Work list, DOF numbers and sizes are those of mesh, elements and batch size. Assumes nothing.
use Rattle.std.specs.Prelude.{ℕ, ◌+◌, ◌-◌, ◌*◌, Bool, not, cond, List, [], ◌∷◌, ◌++◌, length, get_or, take, drop, eqb, Float}
use Rattle.std.proofs.lemmas.List.Edits.{sets}
use Rattle.lists.specs.Bool.{◌and◌, every}
use Rattle.lists.specs.Fold.{over}
use Rattle.lists.specs.Total.{total}
use Rattle.lists.specs.Refusals.{Check, check, refusal}
use Rattle.cell_pairs.specs.Patterns.{touch}
use Rattle.grid.specs.Mesh.{kind}
use Rattle.function.specs.Elements.{cell_dim}
use Rattle.dof_numbering.specs.Numbering.{dof_list, dof_count}
use Rattle.integrands.specs.declared.Integrand.{Integrand}
use Rattle.lent_numbers.specs.Lent.{touching_checks, distant_checks}
use Rattle.lent_numbers.specs.Entries.{touching_entry, distant_entry}
use Rattle.cell_pairs.specs.declared.WorkRecord.{WorkRecord}
use Rattle.cell_pairs.specs.Records.{rec}
use Rattle.cell_pairs.specs.WorkList.{distant_pairs}
use Rattle.scatter.specs.Adding.{add_local, local_rows, local_columns, local_values}
use Rattle.plans.specs.Planning.{Planning, test_space, trial_space, work_records, unless_refused}
use Rattle.runs.specs.Runs.{EntryLists, cell_dofs, Answer, found, accepted, answered}
use Rattle.runs.specs.Calls.{Call, looks, adds_distant, adds_touching, adds_entries}

pub record Machine : Type 0 where
  -- the records in work order, and how many there are: C·C
  pub work : List WorkRecord
  pub pairs : ℕ
  -- how many of them are distant: N
  pub distant : ℕ
  -- a pair whose cells share a vertex is touching, any other distant
  pub touches : ℕ → ℕ → Bool
  -- the DOF numbers of a cell, on the test and on the trial side, and how many they are: the dim on a cell of its kind
  pub test_dofs : ℕ → List ℕ
  pub trial_dofs : ℕ → List ℕ
  pub test_dim : ℕ → ℕ
  pub trial_dim : ℕ → ℕ
  -- the sizes of the matrix
  pub rows : ℕ
  pub columns : ℕ
  pub integrand : Integrand
  -- whether the run is an entries run
  pub entries : Bool

-- the machine of a mesh, two elements and an integrand, along a list of records
unfoldable pub machine_along : Planning → List WorkRecord → Bool → Machine
machine_along x W entries =
    let C = x.mesh.cells in
    record {
      work = W;
      pairs = C * C;
      distant = distant_pairs x.mesh;
      touches = touch x.mesh;
      test_dofs = cell_dofs x.mesh.kinds x.test (dof_list (test_space x) C);
      trial_dofs = cell_dofs x.mesh.kinds x.trial (dof_list (trial_space x) C);
      test_dim = λ i. cell_dim x.test (kind x.mesh i);
      trial_dim = λ i. cell_dim x.trial (kind x.mesh i);
      rows = dof_count (test_space x) C;
      columns = dof_count (trial_space x) C;
      integrand = x.integrand;
      entries = entries;
    }

-- along the work list of mesh, elements and batch size
abbrev pub machine_of : Planning → Bool → Machine
machine_of x entries = machine_along x (work_records x) entries

-- The position, the matrix, the entry lists, and the answers so far
pub record State : Type 0 where
  pub position : ℕ
  pub matrix : List Float
  pub lists : EntryLists
  pub answers : List Answer

module _ (m : Machine) where
  -- record p, and whether its pair is touching
  abbrev pub record_no : ℕ → WorkRecord
  record_no p = get_or m.work p (rec 0 0 0)

  abbrev pub touching_no : ℕ → Bool
  touching_no p = m.touches (record_no p).test (record_no p).trial

  -- the dims of pair p
  abbrev pub test_dim_no : ℕ → ℕ
  test_dim_no p = m.test_dim (record_no p).test

  abbrev pub trial_dim_no : ℕ → ℕ
  trial_dim_no p = m.trial_dim (record_no p).trial

  -- entries stand record after record, test dim · trial dim of each: so many are those of the first q touching records
  unfoldable pub entries_to : ℕ → ℕ
  entries_to q = total (λ e. m.test_dim e.test * m.trial_dim e.trial) (take q (drop m.distant m.work))

  -- ---- the checks of a call at position p. (What else 21 and 22 read, the machine's own numbers, records and DOFs, always passes.)

  -- 20: p = C·C
  abbrev pub pair_next : ℕ → Bool
  pair_next p = not (eqb p m.pairs)

  -- 21: the matrix is rows·columns long
  abbrev pub matrix_sized : List Float → Bool
  matrix_sized M = eqb (length M) (m.rows * m.columns)

  -- 21: each entry list is as long as the entries of all touching records
  unfoldable pub lists_sized : EntryLists → Bool
  lists_sized e =
      let n = entries_to (m.pairs - m.distant) in
      every (eqb (length e.rows) n ∷ eqb (length e.columns) n ∷ eqb (length e.values) n ∷ [])

  -- 21 reads what the call is lent, 20 the position, 23 the kind of pair p and of the run; then 9 to 11
  unfoldable pub call_checks : ℕ → List Float → EntryLists → Call → List Check
  call_checks p M e looks = check 20 (pair_next p) ∷ []
  call_checks p M e (adds_distant a) =
      check 21 (matrix_sized M) ∷ check 20 (pair_next p) ∷ check 23 (not (touching_no p) and not m.entries)
      ∷ distant_checks m.integrand (test_dim_no p) (trial_dim_no p) a
  call_checks p M e (adds_touching a) =
      check 21 (matrix_sized M) ∷ check 20 (pair_next p) ∷ check 23 (touching_no p and not m.entries)
      ∷ touching_checks m.integrand (test_dim_no p) (trial_dim_no p) a
  call_checks p M e (adds_entries a) =
      check 21 (lists_sized e) ∷ check 20 (pair_next p) ∷ check 23 (touching_no p and m.entries)
      ∷ touching_checks m.integrand (test_dim_no p) (trial_dim_no p) a

  -- ---- what an accepted call does

  -- M with the local entries of pair k added, from what is lent to the add
  unfoldable pub add_pair : ℕ → Call → List Float → List Float
  add_pair k looks M = M
  add_pair k (adds_distant a) M =
      add_local (distant_entry m.integrand a) m.rows (m.test_dofs (record_no k).test) (m.trial_dofs (record_no k).trial) M
  add_pair k (adds_touching a) M =
      add_local (touching_entry m.integrand a) m.rows (m.test_dofs (record_no k).test) (m.trial_dofs (record_no k).trial) M
  add_pair k (adds_entries a) M = M

  -- row, column and value of the local entries of pair k, from what is lent to the call, written behind the entries of the touching records before it
  unfoldable pub write_pair : ℕ → Call → EntryLists → EntryLists
  write_pair k looks e = e
  write_pair k (adds_distant a) e = e
  write_pair k (adds_touching a) e = e
  write_pair k (adds_entries a) e =
      let at = entries_to (k - m.distant) in
      record {
        rows = sets e.rows at (local_rows (m.test_dofs (record_no k).test) (m.trial_dofs (record_no k).trial));
        columns = sets e.columns at (local_columns (m.test_dofs (record_no k).test) (m.trial_dofs (record_no k).trial));
        values = sets e.values at (local_values (touching_entry m.integrand a) (test_dim_no k) (trial_dim_no k));
      }

  -- a look leaves p as it is, any other moves it on by 1
  abbrev pub moved : ℕ → Call → ℕ
  moved p looks = p
  moved p (adds_distant a) = p + 1
  moved p (adds_touching a) = p + 1
  moved p (adds_entries a) = p + 1

  -- a look is answered record p
  abbrev pub granted : ℕ → Call → Answer
  granted p looks = found (record_no p)
  granted p (adds_distant a) = accepted
  granted p (adds_touching a) = accepted
  granted p (adds_entries a) = accepted

  -- ---- one call, and a list of them

  -- the first check that turns the call down, or 0
  unfoldable pub call_refusal : Call → State → ℕ
  call_refusal c s = refusal (call_checks s.position s.matrix s.lists c)

  -- a refused call changes nothing
  unfoldable pub machine_step : Call → State → State
  machine_step c s =
      record {
        position = unless_refused (call_refusal c s) (moved s.position c) s.position;
        matrix = unless_refused (call_refusal c s) (add_pair s.position c s.matrix) s.matrix;
        lists = unless_refused (call_refusal c s) (write_pair s.position c s.lists) s.lists;
        answers = s.answers ++ (answered (call_refusal c s) (granted s.position c) ∷ []);
      }

  -- a dense run starts at 0, an entries run at N, on any matrix and any three lists
  abbrev pub start : ℕ
  start = cond m.entries m.distant 0

  abbrev pub fresh : List Float → EntryLists → State
  fresh M e = record { position = start; matrix = M; lists = e; answers = [] }

  -- a list of calls, the first one first
  unfoldable pub machine_run : List Call → List Float → EntryLists → State
  machine_run calls M e = over machine_step calls (fresh M e)
