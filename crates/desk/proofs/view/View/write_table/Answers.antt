use Rattle.std.proofs.Common.{◌∙◌}
use Rattle.desk.proofs.Reports.{table_of_sheet}
use Rattle.desk.proofs.view.View.write_table.Goals as goal

pub returns : goal.returns
returns g c =
    let view = c.args.self.now in
    let report = c.report.result in
    table_of_sheet c.write_table.result view.sheet.now view.rows.now view.limits.now report.limits.now report.road.now report.fitted report.rows.now _ _
    (c.report.ensures.0 ∙ c.road-road.ensures) c.report.ensures.1 c.report.ensures.2 c.report.ensures.3 c.write_table.ensures
