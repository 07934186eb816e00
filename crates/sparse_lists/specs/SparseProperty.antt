-- Sparse rows of a whole run: for every planning that is accepted, any three starting lists and every list of calls that finishes an entries run.
-- Assumes nothing.
use Rattle.std.specs.Prelude.{ℕ, ◌+◌, ◌≤◌, ◌≡◌, Float}
use Rattle.std.proofs.Math.Bool.{true}
use mathlib.Core.List.{List}
use Rattle.std.proofs.Math.ListN.{length}
use Rattle.cell_pairs.specs.WorkList.{touching_part}
use Rattle.plans.specs.declared.PlanNumbers.{PlanNumbers}
use Rattle.plans.specs.Planning.{Planning}
use Rattle.runs.specs.Calls.{Call, Progress}
use Rattle.runs.specs.Machine.{machine_of}
use Rattle.runs.specs.Reading.{taken, lent_to}
use Rattle.sparse_lists.specs.Sparse.{kept, values_at, kept_of, SparseLists, in_front, entries_fit, sparse_rows, sparse_written}
use Rattle.sparse_lists.specs.Pairs.{pairs_at}

-- what the touching pairs of the mesh put at each row and column: pair after pair in work order, pair k from what accepted call k was lent
abbrev pub touching_at : Planning → List Call → Progress → ℕ → ℕ → List Float
touching_at x calls q = pairs_at (machine_of x true) (touching_part x.mesh) (lent_to (taken calls q.answers))

-- n: planning's numbers; q: what the calls answered and left
pub record SparseProperty (x : Planning) (n : PlanNumbers) (calls : List Call) (q : Progress) : Type 0 where
  -- each touching pair has its call
  pub called : length (lent_to (taken calls q.answers)) ≡ length (touching_part x.mesh)
  -- sizes, rows and columns pass 25
  pub fit : entries_fit q.lists n.rows n.columns ≡ true
  -- at each row and column stand just the local entries of the touching pairs, in work order
  pub held : (r c : ℕ) → values_at q.lists r c ≡ touching_at x calls q r c
  -- so where there is room the call writes their sparse rows, each sum in work order from the first
  pub gathers : (l : SparseLists) → (let at = touching_at x calls q in
      n.rows + 1 ≤ length l.starts → kept_of at n.rows n.columns ≤ length l.columns → kept_of at n.rows n.columns ≤ length l.values
      → (sparse_rows q.lists n.rows n.columns l ≡ kept (kept_of at n.rows n.columns))
      × (sparse_written q.lists n.rows n.columns l ≡ in_front at n.rows n.columns l))
