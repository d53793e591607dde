-- The rows that a walk has left, and the findings of an alignment, under the limit's admission. Only private contracts cite this.
use Rattle.std.specs.Prelude.{List, map}
use Rattle.rows.specs.Records.{row_of}
use Rattle.findings.specs.declared.alignment.Alignment.{Alignment}
use Rattle.findings.specs.declared.walk.Walk.{Walk}
use Rattle.findings.specs.declared.finding.Finding.{Finding}
use Rattle.findings.specs.declared.walk.Context.{Context}
use Rattle.findings.specs.Rules.{Admission}
use Rattle.findings.specs.Walk.{nothing, contexts, listed}

-- The rows that are left, each in its context.
abbrev pub left : {L : Type 0} → (L → Admission) → Walk L → List Context
left admitted walk = contexts walk.road.now (admitted walk.limit.now) walk.behind (map row_of walk.rows.now)

-- All rows, each in its context.
abbrev pub all_rows : {L : Type 0} → (L → Admission) → Alignment L → List Context
all_rows admitted alignment = contexts alignment.road.now (admitted alignment.limit.now) nothing (map row_of alignment.rows.now)

-- All findings, in order.
abbrev pub all_findings : {L : Type 0} → (L → Admission) → Alignment L → List Finding
all_findings admitted alignment = listed alignment.road.now (admitted alignment.limit.now) 0 nothing (map row_of alignment.rows.now)
