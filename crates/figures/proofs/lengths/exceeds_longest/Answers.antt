use Rattle.figures.proofs.Tests.{decides_exceeds}
use Rattle.figures.proofs.lengths.exceeds_longest.Goals as goal

pub returns-clause-decides : goal.returns-clause-decides
returns-clause-decides c = decides_exceeds c.args.least c.args.length
