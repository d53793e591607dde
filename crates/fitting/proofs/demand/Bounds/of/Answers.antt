use Rattle.std.proofs.Common.{◌≡◌}
use Rattle.rows.proofs.Leasts.{is_least_in}
use Rattle.rows.specs.Curves.{place_of}
use Rattle.rows.specs.Leasts.{least_in}
use Rattle.fitting.proofs.demand.Bounds.of.Goals as goal

pub returns : goal.returns
returns g c =
    let place = place_of c.args.road.now c.args.curve in
    let admission = g.L.Limit.admitted c.args.limit.now in
    let least : c.least_length-least.result ≡ least_in (admission place)
    = is_least_in (admission place) (g.L.Limit.lawful c.args.limit.now place) c.least_length-least.result c.least_length-least.ensures in
    cc
