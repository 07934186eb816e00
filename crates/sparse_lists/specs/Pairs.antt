-- What touching pairs put at each row and column, from what is lent to their calls. Assumes nothing.
use Rattle.std.specs.Prelude.{ℕ, get_or, eqb, Float}
use mathlib.Core.List.{List, [], ◌∷◌, ◌++◌, flat_map}
use Rattle.lists.specs.Bool.{◌and◌}
use Rattle.lists.specs.Range.{range, when}
use Rattle.lent_numbers.specs.Lent.{Touching}
use Rattle.lent_numbers.specs.Entries.{touching_entry}
use Rattle.cell_pairs.specs.declared.WorkRecord.{WorkRecord}
use Rattle.runs.specs.Machine.{Machine}

module _ (m : Machine) where
  -- the local entries of a pair at row r and column c: those whose test DOF is r and whose trial DOF is c, trial basis outer
  unfoldable pub pair_at : WorkRecord → Touching → ℕ → ℕ → List Float
  pair_at e a r c =
      flat_map
      (λ j. flat_map
      (λ i. when (eqb (get_or (m.test_dofs e.test) i 0) r and eqb (get_or (m.trial_dofs e.trial) j 0) c) (touching_entry m.integrand a i j ∷ []))
      (range (m.test_dim e.test)))
      (range (m.trial_dim e.trial))

  -- those of pairs, one after the other, each with what is lent to its call
  unfoldable pub pairs_at : List WorkRecord → List Touching → ℕ → ℕ → List Float
  pairs_at [] lent r c = []
  pairs_at (e ∷ es) [] r c = []
  pairs_at (e ∷ es) (a ∷ lent) r c = pair_at e a r c ++ pairs_at es lent r c
