use Rattle.std.proofs.Common.{rules}
use Rattle.std.proofs.lemmas.Bool.Decides.{Decides-at}
use Rattle.figures.proofs.Followed.{decides_follows}
use Rattle.figures.proofs.radii.follows_radius.Goals as goal

pub returns-then-run-road-clause-decides : goal.returns-then-run-road-clause-decides
returns-then-run-road-clause-decides c = Decides-at _ _ (search rules) (decides_follows c.args.road.now c.args.run c.args.radius c.args.next)

pub returns-else-run-road-clause-decides : goal.returns-else-run-road-clause-decides
returns-else-run-road-clause-decides c = Decides-at _ _ (search rules) (decides_follows c.args.road.now c.args.run c.args.radius c.args.next)
