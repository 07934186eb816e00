-- `cell_pairs::put_record` meets its contract: three stores in a row are one record written. Assumes nothing.
use native.Mathlib.Omega.{arith}
use lib.ListN.{length-set}
use Rattle.cell_pairs.specs.RecordsFacts.{wrote_record}
use Rattle.cell_pairs.proofs.put_record.Goals as goal

pub bounds-work-start-2 : goal.bounds-work-start-2
bounds-work-start-2 c = simp length-set (omega arith)

pub bounds-work-start-3 : goal.bounds-work-start-3
bounds-work-start-3 c = simp length-set (omega arith)

pub returns : goal.returns
returns c = wrote_record _ _ _
