-- What a watcher is shown of an outcome.
use Rattle.std.specs.Prelude.{◌≡◌, List}
use Rattle.findings.specs.declared.finding.Finding.{Finding}
use Rattle.plain.specs.Sheet as plain
use Rattle.series.specs.declared.outcome.Outcome.{Outcome}
use Rattle.series.specs.Calls.{told}

-- The outcome is told so, with some findings where it is a check's.
abbrev pub ToldAs : Outcome → plain.Answer → Type 0
ToldAs outcome seen = (findings : List Finding) × (seen ≡ told outcome findings)
