use Rattle.std.proofs.Common.{ℕ, List, map, take}
use Rattle.std.specs.Io.KnownBytes.{Appends}
use Rattle.rows.specs.Records.{row_of}
use Rattle.report.specs.Tables.{TableOf}
use Rattle.report.proofs.report.Report.write_rows.Given as goal

abbrev pub invariant-loop-position : goal.invariant-loop-position
invariant-loop-position g l =
    (text : List ℕ) × TableOf l.self.road.now l.self.limits.now 0 (map row_of (take l.position l.record-items)) text × Appends (g.W.Write.contents l.initial.out) (g.W.Write.contents l.out) text
