use Rattle.std.proofs.Common.{ℕ, List, take}
use Rattle.std.specs.Io.KnownBytes.{Appends}
use Rattle.report.specs.Explanations.{LinesOf}
use Rattle.report.specs.Findings.{finding_line}
use Rattle.report.proofs.report.Report.write_lines.Given as goal

abbrev pub invariant-loop-finding : goal.invariant-loop-finding
invariant-loop-finding g l =
    (text : List ℕ) × LinesOf l.self.road.now l.self.limits.now l.self.rows.now finding_line (take l.finding-index l.findings) text × Appends (g.W.Write.contents l.initial.out) (g.W.Write.contents l.out) text
