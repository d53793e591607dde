use Rattle.std.proofs.Common.{rules}
use Rattle.std.proofs.lemmas.Bool.Decides.{Decides-at}
use Rattle.figures.proofs.Tests.{decides_harmonious}
use Rattle.figures.proofs.lengths.are_harmonious.Goals as goal

pub returns-then-entry-exit-clause-decides : goal.returns-then-entry-exit-clause-decides
returns-then-entry-exit-clause-decides c = Decides-at _ _ (search rules) (decides_harmonious c.args.exit c.args.entry)

pub returns-else-entry-exit-clause-decides : goal.returns-else-entry-exit-clause-decides
returns-else-entry-exit-clause-decides c = Decides-at _ _ (search rules) (decides_harmonious c.args.exit c.args.entry)
