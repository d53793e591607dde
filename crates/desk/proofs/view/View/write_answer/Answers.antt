use Rattle.std.proofs.Common.{take}
use Rattle.series.specs.Calls.{road_of, count_of}
use Rattle.desk.proofs.Reports.{found_lines}
use Rattle.desk.proofs.view.View.write_answer.Goals as goal

pub returns-in_ok-write_findings-in-Found : goal.returns-in_ok-write_findings-in-Found
returns-in_ok-write_findings-in-Found g c =
    let view = c.args.self.now in
    rw c.in-Found.is
    (found_lines c.writeln.result (road_of view.sheet.now) view.limits.now (take (count_of view.sheet.now) view.rows.now) _ _ _ c.args.found.now c.in-Found.count c.in_ok-write_findings-in-Found.ensures c.writeln.ensures.bytes)

pub returns-in-Done : goal.returns-in-Done
returns-in-Done g c = rw c.in-Done.is c.write_done.ensures
