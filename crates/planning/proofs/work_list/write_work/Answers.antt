-- `planning::work_list::write_work` meets its contract: the arrays are long enough, and each call has what it asks by the laws of `Work`. Assumes nothing.
use Rattle.planning.specs.Work.{grouping_lists, touchable, distant_room, touching_room, ends_rise, all_written}
use Rattle.planning.proofs.work_list.write_work.Goals as goal

pub group_cells-test_groups-requires-clause-grouping : goal.group_cells-test_groups-requires-clause-grouping
group_cells-test_groups-requires-clause-grouping c = rw (c.wide-cells.ensures, c.wide.ensures) (grouping_lists _ _ c.requires.cells c.requires.test_few_holds)

pub group_cells-trial_groups-requires-clause-grouping : goal.group_cells-trial_groups-requires-clause-grouping
group_cells-trial_groups-requires-clause-grouping c = rw (c.wide-cells.ensures, c.wide-2.ensures) (grouping_lists _ _ c.requires.cells c.requires.trial_few_holds)

pub write_distant-n-requires-clause-padded : goal.write_distant-n-requires-clause-padded
write_distant-n-requires-clause-padded c = (touchable c.requires c.write_rows.ensures).padded

pub write_distant-n-requires-clause-room : goal.write_distant-n-requires-clause-room
write_distant-n-requires-clause-room c = distant_room c.requires c.write_rows.ensures c.group_cells-test_groups.ensures.by_colour c.group_cells-trial_groups.ensures.by_colour

pub write_touching-ends-requires-clause-touchable : goal.write_touching-ends-requires-clause-touchable
write_touching-ends-requires-clause-touchable c = touchable c.requires c.write_rows.ensures

pub write_touching-ends-requires-clause-room : goal.write_touching-ends-requires-clause-room
write_touching-ends-requires-clause-room c =
    rw c.wide-cells.ensures (touching_room c.requires c.write_rows.ensures c.group_cells-test_groups.ensures.by_colour c.group_cells-trial_groups.ensures.by_colour c.write_distant-n.ensures)

pub counts_of-requires : goal.counts_of-requires
counts_of-requires c =
    ends_rise c.requires c.write_rows.ensures c.group_cells-test_groups.ensures.by_colour c.group_cells-trial_groups.ensures.by_colour c.write_distant-n.ensures
    (rw c.wide-cells.ensures at c.write_touching-ends.ensures.1)

pub returns : goal.returns
returns c =
    all_written c.requires c.write_rows.ensures c.group_cells-test_groups.ensures.by_colour c.group_cells-trial_groups.ensures.by_colour c.write_distant-n.ensures
    (rw c.wide-cells.ensures at c.write_touching-ends.ensures.1) c.counts_of.ensures (rw c.wide-cells.ensures at c.write_touching-ends.ensures.0)
