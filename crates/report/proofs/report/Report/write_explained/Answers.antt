use Rattle.std.proofs.lemmas.List.{get_or_default}
use Rattle.wording.specs.Lines.{explained_text}
use Rattle.report.proofs.Tables.{lines_next}
use Rattle.report.proofs.report.Report.write_explained.Goals as goal

pub loop-finding-preserved : goal.loop-finding-preserved
loop-finding-preserved g c =
    lines_next c.args.self.now.road.now c.args.self.now.limits.now c.args.self.now.rows.now explained_text _ _ _ c.args.findings.now c.loop-finding.finding-index _ c.explained-explained.result
    c.loop-finding-test.true (get_or_default _ _ _ _ c.loop-finding-test.true) c.loop-finding.invariant c.explained-explained.ensures c.in_ok-writeln.ensures.bytes
