use Rattle.findings.proofs.Clothoids.{called_is}
use Rattle.rows.specs.Curves.{place_of}
use Rattle.findings.proofs.walk.Clothoids.of.Goals as goal

pub returns-then-calls_for_clothoids : goal.returns-then-calls_for_clothoids
returns-then-calls_for_clothoids g c =
    called_is c.args.road.now (g.L.Limit.admitted c.args.limit.now) c.args.curve c.calls_for_clothoids.result c.least_length.result
    (g.L.Limit.lawful c.args.limit.now (place_of c.args.road.now c.args.curve)) c.calls_for_clothoids.ensures c.if-calls_for_clothoids.true
    c.least_length.ensures
