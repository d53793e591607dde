use Rattle.std.proofs.Common.{sym}
use Rattle.choice.proofs.in_force.LimitsInForceLimit.least_length.Goals as goal

pub returns-in-Named : goal.returns-in-Named
returns-in-Named c = rw (c.in-Named.is, sym c.as_slice.ensures.value) c.least_length-in-Named.ensures
