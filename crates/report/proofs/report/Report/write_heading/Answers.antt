use Rattle.std.proofs.Common.{[], length, ◌++◌}
use Rattle.std.proofs.lemmas.List.{length-map}
use Rattle.rows.specs.Records.{row_of}
use Rattle.choice.specs.Governors.{limits_of}
use Rattle.report.specs.Headings.{road_heading, sheet_heading, limits_heading}
use Rattle.report.specs.Tables.{as_line, column_names, column_units}
use Rattle.report.proofs.Tables.{append_four}
use Rattle.report.proofs.report.Report.write_heading.Goals as goal

pub returns : goal.returns
returns g c =
    let report = c.args.self.now in
    rw (length-map report.rows.now row_of)
    (append_four c.writeln-3.result _ _ _ _ _ (as_line (road_heading report.road.now)) (as_line (sheet_heading report.fitted (length report.rows.now))) (as_line (limits_heading (limits_of report.limits.now)))
    (as_line [] ++ (as_line column_names ++ as_line column_units)) c.in_ok-writeln.ensures.bytes c.in_ok-writeln-2.ensures.bytes c.in_ok-write_limits.ensures c.writeln-3.ensures.bytes)
