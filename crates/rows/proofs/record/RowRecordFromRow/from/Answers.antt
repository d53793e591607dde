use Rattle.std.proofs.Common.{rules}
use Rattle.rows.proofs.Fits.{written}
use Rattle.rows.proofs.record.RowRecordFromRow.from.Goals as goal

pub returns-in-Straight : goal.returns-in-Straight
returns-in-Straight c = written c.args.row _ (search rules)

pub returns-in-Curve : goal.returns-in-Curve
returns-in-Curve c = written c.args.row _ (search rules)
