use Rattle.std.proofs.Common.{sym}
use Rattle.report.proofs.Columns.{metres_right}
use Rattle.report.proofs.column.MetresColumnDisplay.fmt.Goals as goal

pub returns-clause-writes : goal.returns-clause-writes
returns-clause-writes g c = λ plain ok. rw (sym (metres_right c.args.self.now.0)) (rw (c.laid_out.ensures, c.laid_out-2.ensures) at (c.write.ensures.writes plain ok))
