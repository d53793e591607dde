use Rattle.std.proofs.Common.{sym}
use Rattle.report.proofs.Columns.{four_right}
use Rattle.report.proofs.table_row.TableRowDisplay.fmt.Goals as goal

pub returns-in-Straight-clause-writes : goal.returns-in-Straight-clause-writes
returns-in-Straight-clause-writes g c =
    λ plain ok. rw (c.in-Straight.is, sym (four_right c.in-Straight.position)) (rw c.laid_out.ensures at (c.write.ensures.writes plain ok))

pub returns-in-Curve-clause-writes : goal.returns-in-Curve-clause-writes
returns-in-Curve-clause-writes g c =
    λ plain ok. rw (c.in-Curve.is, sym (four_right c.in-Curve.position)) (rw (c.laid_out-in-Curve.ensures, c.kind-kind.ensures) at (c.write-in-Curve.ensures.writes plain ok))
