-- The entry lists as they are lent. Assumes nothing.
use Rattle.std.specs.Prelude.{◌≡◌}
use Rattle.scatter.specs.declared.EntryLists.{EntryLists}

-- the lists are lent as they were: what is written stands in the lender's own
pub record SameLists (old new : EntryLists) : Type 0 where
  pub rows : new.rows.ghost_name ≡ old.rows.ghost_name
  pub columns : new.columns.ghost_name ≡ old.columns.ghost_name
  pub values : new.values.ghost_name ≡ old.values.ghost_name
