-- `distant_pairs::write_pair` meets its contract: the record is written where the cells share no vertex. Assumes nothing.
use Rattle.lists.specs.Writes.{wrote_none}
use Rattle.distant_pairs.proofs.Facts.{pair_none, pair_one}
use Rattle.distant_pairs.proofs.write_pair.Goals as goal

pub put_record-requires : goal.put_record-requires
put_record-requires c =
    rw (pair_one c.args.rows.rows.now c.args.trial.first c.args.trial.second c.args.trial.third c.args.trial.fourth c.args.trial.cell c.wide.ensures c.has_one_of.ensures c.if-has_one_of.false) at c.requires.room

pub returns-then-has_one_of : goal.returns-then-has_one_of
returns-then-has_one_of c =
    rw (pair_none c.args.rows.rows.now c.args.trial.first c.args.trial.second c.args.trial.third c.args.trial.fourth c.args.trial.cell c.wide.ensures c.has_one_of.ensures c.if-has_one_of.true) (wrote_none _ _)

pub returns-else-has_one_of : goal.returns-else-has_one_of
returns-else-has_one_of c =
    rw (pair_one c.args.rows.rows.now c.args.trial.first c.args.trial.second c.args.trial.third c.args.trial.fourth c.args.trial.cell c.wide.ensures c.has_one_of.ensures c.if-has_one_of.false) c.put_record.ensures
