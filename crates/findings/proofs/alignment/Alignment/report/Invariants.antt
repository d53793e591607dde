use Rattle.std.proofs.Common.{◌+◌, ◌≤◌, length}
use Rattle.std.specs.Iterator.Adapters.{enumerate_source, enumerate_count}
use Rattle.roll.specs.Edits.{SameLoan}
use Rattle.findings.specs.Alignments.{left, all_findings}
use Rattle.findings.specs.Walk.{gathered_from}
use Rattle.findings.proofs.Reports.{Partway}
use Rattle.findings.proofs.alignment.Alignment.report.Given as goal

-- The findings so far are put, and those of the rows that are left are to come.
abbrev pub invariant-loop-position : goal.invariant-loop-position
invariant-loop-position g l =
    let position = enumerate_count l.position-iterator in
    let rows = left g.L.Limit.admitted (enumerate_source l.position-iterator) in
    SameLoan l.initial.findings l.findings
    × Partway l.initial.findings l.findings (gathered_from l.self.road.now position rows) (all_findings g.L.Limit.admitted l.self)
    × (position + length rows ≤ 4_000)
    × (goal.iterator-loop-position g).can_next l.position-iterator
    × (goal.iterator-loop-position g).is_finite l.position-iterator
