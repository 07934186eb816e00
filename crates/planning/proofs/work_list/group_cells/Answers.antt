-- `planning::work_list::group_cells` meets its contract: each key has a group. Assumes nothing.
use Rattle.std.proofs.Common.{arith, sym, ◌∙◌}
use Rattle.planning.specs.Work.{keyable, keys_below, side_groups}
use Rattle.planning.proofs.work_list.group_cells.Goals as goal

pub write_keys-requires : goal.write_keys-requires
write_keys-requires c = keyable c.requires.side c.requires.keys

pub by_key-requires : goal.by_key-requires
by_key-requires c =
    record {
      below = keys_below c.requires.side _ (c.write_keys.auto.keys ∙ c.requires.keys) c.write_keys.ensures c.requires.grouping;
      zeros = c.requires.grouping.zeros;
      per_nonzero = (omega arith, omega (arith, c.write_keys.auto.keys, c.requires.keys, c.requires.side.cells), c.requires.grouping.cells ∙ sym (c.write_keys.auto.keys ∙ c.requires.keys));
    }

pub returns : goal.returns
returns c = side_groups c.requires.side _ (c.write_keys.auto.keys ∙ c.requires.keys) c.write_keys.ensures c.requires.grouping c.by_key.ensures
