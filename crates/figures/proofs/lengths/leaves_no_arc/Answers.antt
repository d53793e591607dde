use Rattle.figures.proofs.Tests.{decides_arcless}
use Rattle.figures.proofs.lengths.leaves_no_arc.Goals as goal

pub returns-clause-decides : goal.returns-clause-decides
returns-clause-decides c = decides_arcless c.args.curve
