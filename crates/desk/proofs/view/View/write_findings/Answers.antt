use Rattle.std.proofs.Common.{◌∙◌, take}
use Rattle.series.specs.Calls.{road_of, count_of}
use Rattle.desk.proofs.Reports.{lines_of_sheet}
use Rattle.desk.proofs.view.View.write_findings.Goals as goal

pub returns : goal.returns
returns g c =
    let view = c.args.self.now in
    let report = c.report.result in
    lines_of_sheet c.write_explained.result report.road.now (road_of view.sheet.now) report.limits.now view.limits.now report.rows.now (take (count_of view.sheet.now) view.rows.now) c.args.findings.now _ _
    (c.report.ensures.0 ∙ c.road-road.ensures) c.report.ensures.3 c.report.ensures.2 c.write_explained.ensures
