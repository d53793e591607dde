use Rattle.units.proofs.Padding.{metres_shown}
use Rattle.std.proofs.Common.{sym}
use Rattle.units.proofs.MetresDisplay.fmt.Goals as goal

pub returns-clause-writes : goal.returns-clause-writes
returns-clause-writes g c = λ plain ok. rw (sym (metres_shown c.args.self.now.0)) (rw c.laid_out.ensures at (c.write.ensures.writes plain ok))
