use Rattle.report.proofs.Tables.{table_then}
use Rattle.report.proofs.report.Report.write_table.Goals as goal

pub returns : goal.returns
returns g c =
    table_then c.args.self.now.road.now c.args.self.now.fitted c.args.self.now.limits.now c.writeln.result _ _ _ _ _ c.in_ok-write_heading.ensures c.in_ok-write_rows.ensures c.writeln.ensures.bytes
