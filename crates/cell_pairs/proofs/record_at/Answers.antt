-- `cell_pairs::record_at` meets its contract: the numbers are read where the record lies. Assumes nothing.
use Rattle.cell_pairs.specs.Records.{record_at}
use borrow.Author.Rules.{rules}
use Rattle.cell_pairs.proofs.record_at.Goals as goal

pub returns : goal.returns
unfolding record_at
returns c = search rules
