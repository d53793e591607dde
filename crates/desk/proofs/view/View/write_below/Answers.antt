use Rattle.std.proofs.Common.{◌∙◌, take}
use Rattle.series.specs.Calls.{road_of, count_of}
use Rattle.desk.proofs.Reports.{below_of_sheet}
use Rattle.desk.proofs.view.View.write_below.Goals as goal

pub returns : goal.returns
returns g c =
    let view = c.args.self.now in
    let report = c.report.result in
    below_of_sheet c.write_findings.result report.road.now (road_of view.sheet.now) report.limits.now view.limits.now report.rows.now (take (count_of view.sheet.now) view.rows.now) c.args.findings.now _ _
    (c.report.ensures.0 ∙ c.road-road.ensures) c.report.ensures.3 c.report.ensures.2 c.write_findings.ensures
