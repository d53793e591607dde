use Rattle.std.proofs.Common.{sym}
use Rattle.report.proofs.Tables.{four_text}
use Rattle.report.proofs.report.write_in_force.Goals as goal

pub returns-in-Compulsory : goal.returns-in-Compulsory
returns-in-Compulsory g c = rw (c.in-Compulsory.is, four_text) c.write.ensures.bytes

pub returns-in-Named : goal.returns-in-Named
returns-in-Named g c = rw (c.in-Named.is, sym c.as_slice.ensures.value) c.write_numbered.ensures
