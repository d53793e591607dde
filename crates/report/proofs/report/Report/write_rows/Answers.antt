use Rattle.report.proofs.Tables.{table_next}
use Rattle.report.proofs.report.Report.write_rows.Goals as goal

pub loop-position-preserved : goal.loop-position-preserved
loop-position-preserved g c =
    table_next c.args.self.now.road.now c.args.self.now.limits.now _ _ _ c.args.self.now.rows.now c.loop-position.position _ c.read.result c.of-row.result c.loop-position-test.true c.read.ensures c.loop-position.invariant c.of-row.ensures c.in_ok-writeln.ensures.bytes
