use Rattle.std.proofs.Common.{sym}
use Rattle.choice.proofs.in_force.LimitsInForceLimit.admits.Goals as goal

pub returns-in-Named : goal.returns-in-Named
returns-in-Named c = rw (c.in-Named.is, sym c.as_slice.ensures.value) c.admits-in-Named.ensures
