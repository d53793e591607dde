use Rattle.std.proofs.Common.{rules}
use Rattle.std.proofs.lemmas.Bool.Decides.{Decides-at}
use Rattle.figures.proofs.Tests.{decides_cramped}
use Rattle.figures.proofs.radii.is_cramped.Goals as goal

pub returns-then-curve-lt-CALLING_TURN-clause-decides : goal.returns-then-curve-lt-CALLING_TURN-clause-decides
returns-then-curve-lt-CALLING_TURN-clause-decides c = Decides-at _ _ (search rules) (decides_cramped c.args.curve)

pub returns-else-curve-lt-CALLING_TURN-clause-decides : goal.returns-else-curve-lt-CALLING_TURN-clause-decides
returns-else-curve-lt-CALLING_TURN-clause-decides c = Decides-at _ _ (search rules) (decides_cramped c.args.curve)
