-- Assumes nothing.
use Rattle.job.specs.JobFacts.{front_least}
use Rattle.job.proofs.reading.read_front.Goals as goal

pub returns : goal.returns
returns c = front_least c.args.bytes.now c.args.at c.args.n c.args.list.now c.min-most.ensures c.read_numbers.ensures
