use Rattle.report.proofs.Tables.{counted_then}
use Rattle.report.proofs.report.Report.write_findings.Goals as goal

pub returns : goal.returns
returns g c =
    counted_then c.args.self.now.road.now c.args.self.now.limits.now c.args.self.now.rows.now c.write_lines.result _ _ _ c.args.findings.now c.in_ok-writeln.ensures.bytes c.write_lines.ensures
