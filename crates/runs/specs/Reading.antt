-- How a run is read: which calls were accepted, what they added to each place of the matrix, and where each call found the run. Assumes nothing.
use Rattle.std.specs.Prelude.{ℕ, suc, ◌+◌, ◌*◌, Bool, true, false, length, get_or, eqb, Float}
use mathlib.Core.List.{List, [], ◌∷◌, ◌++◌, flat_map}
use Rattle.std.proofs.lemmas.List.Edits.{sets}
use Rattle.lists.specs.Range.{range, when}
use Rattle.lists.specs.Fold.{over}
use Rattle.lists.specs.Refusals.{refusal}
use Rattle.lists.specs.Total.{count}
use Rattle.numbers.specs.Floats.{◌⊕◌}
use Rattle.lent_numbers.specs.Lent.{Touching}
use Rattle.lent_numbers.specs.Entries.{touching_entry, distant_entry}
use Rattle.cell_pairs.specs.declared.WorkRecord.{WorkRecord}
use Rattle.scatter.specs.Adding.{local_rows, local_columns, local_values}
use Rattle.runs.specs.Runs.{EntryLists, Answer, found, accepted, refused, answered}
use Rattle.runs.specs.Calls.{Call, looks, adds_distant, adds_touching, adds_entries}
use Rattle.runs.specs.Machine.{Machine, record_no, call_checks, granted}

-- ---- which calls were accepted

abbrev pub is_accepted : Answer → Bool
is_accepted (found e) = false
is_accepted accepted = true
is_accepted (refused n) = false

-- how many of the answers are acceptances
abbrev pub acceptances : List Answer → ℕ
acceptances answers = count is_accepted answers

-- the calls that were, in order
unfoldable pub taken : List Call → List Answer → List Call
taken [] answers = []
taken (c ∷ calls) [] = []
taken (c ∷ calls) (a ∷ answers) = when (is_accepted a) (c ∷ []) ++ taken calls answers

-- what is lent to the entries calls among some
unfoldable pub lent_to : List Call → List Touching
lent_to [] = []
lent_to (looks ∷ cs) = lent_to cs
lent_to (adds_distant a ∷ cs) = lent_to cs
lent_to (adds_touching a ∷ cs) = lent_to cs
lent_to (adds_entries a ∷ cs) = a ∷ lent_to cs

-- ---- one place of the matrix

-- x plus the numbers, one rounded sum after the other
unfoldable pub plus_all : List Float → Float → Float
plus_all vs x = over (λ (v : Float) (sum : Float). sum ⊕ v) vs x

-- the local entries that are added at a place, in the order in which they are: trial basis outer
unfoldable pub entries_at : (ℕ → ℕ → Float) → ℕ → List ℕ → List ℕ → ℕ → List Float
entries_at entry rows test_dofs trial_dofs at =
    flat_map
    (λ j. flat_map (λ i. when (eqb (get_or test_dofs i 0 + rows * get_or trial_dofs j 0) at) (entry i j ∷ [])) (range (length test_dofs)))
    (range (length trial_dofs))

module _ (m : Machine) where
  -- those of pair k, from what is lent to the add
  unfoldable pub pair_entries : ℕ → Call → ℕ → List Float
  pair_entries k looks at = []
  pair_entries k (adds_distant a) at =
      entries_at (distant_entry m.integrand a) m.rows (m.test_dofs (record_no m k).test) (m.trial_dofs (record_no m k).trial) at
  pair_entries k (adds_touching a) at =
      entries_at (touching_entry m.integrand a) m.rows (m.test_dofs (record_no m k).test) (m.trial_dofs (record_no m k).trial) at
  pair_entries k (adds_entries a) at = []

  -- those of the pairs k, k + 1, .. of a list of adds, in work order
  unfoldable pub entries_from : ℕ → List Call → ℕ → List Float
  entries_from k [] at = []
  entries_from k (c ∷ cs) at = pair_entries k c at ++ entries_from (suc k) cs at

  -- ---- what a call is answered at position p: the first of its checks that turns it down, or acceptance; a look, record p

  unfoldable pub answer_at : ℕ → List Float → EntryLists → Call → Answer
  answer_at p M e c = answered (refusal (call_checks m p M e c)) (granted m p c)

  -- ---- what an entries run writes

  -- row and column of the local entries of a record, trial basis outer
  unfoldable pub record_rows : WorkRecord → List ℕ
  record_rows e = local_rows (m.test_dofs e.test) (m.trial_dofs e.trial)

  unfoldable pub record_columns : WorkRecord → List ℕ
  record_columns e = local_columns (m.test_dofs e.test) (m.trial_dofs e.trial)

  -- their values, from what is lent to an entries call
  unfoldable pub call_values : WorkRecord → Touching → List Float
  call_values e a = local_values (touching_entry m.integrand a) (m.test_dim e.test) (m.trial_dim e.trial)

  -- those of records, each from what its call is lent
  unfoldable pub record_values : List WorkRecord → List Touching → List Float
  record_values [] ws = []
  record_values (e ∷ es) [] = []
  record_values (e ∷ es) (a ∷ ws) = call_values e a ++ record_values es ws

  -- the entries of records, one after the other, in the front of the three lists
  unfoldable pub entries_of : List WorkRecord → List Touching → EntryLists → EntryLists
  entries_of records calls e =
      record {
        rows = sets e.rows 0 (flat_map record_rows records);
        columns = sets e.columns 0 (flat_map record_columns records);
        values = sets e.values 0 (record_values records calls);
      }
