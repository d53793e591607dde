-- What a report of the open sheet writes and leaves.
use Rattle.std.specs.Prelude.{◌≡◌, ℕ, Bool, true, false, List, ◌++◌, take, length, Option, Some, None, Result, Ok, Err}
use Rattle.road.specs.declared.refusal.Refusal.{Refusal}
use Rattle.road.specs.declared.road.Road.{Road}
use Rattle.rows.specs.declared.record.RowRecord.{RowRecord}
use Rattle.rows.specs.Records.{rows_of}
use Rattle.findings.specs.declared.finding.Finding.{Finding}
use Rattle.plain.specs.Sheet.{Mark, draft, fitted, check}
use Rattle.sheet.specs.States.{listed, Untouched, Performs}
use Rattle.series.specs.Calls.{mark_of, road_of, count_of, stands}
use Rattle.series.specs.declared.any_sheet.Sheet.{Sheet}
use Rattle.choice.specs.declared.in_force.LimitsInForce.{LimitsInForce}
use Rattle.commands.specs.declared.command.Command.TheVariants.{Report}
use Rattle.commands.specs.declared.name.Name.TheVariants as name
use Rattle.answers.specs.declared.failure.Failure.TheVariants.{NoRoad}
use Rattle.answers.specs.declared.verdict.Verdict.{Verdict}
use Rattle.answers.specs.declared.verdict.Verdict.TheVariants.{Wrong}
use Rattle.answers.specs.Refused.{refused_text}
use Rattle.answers.specs.Shown.{failure_text}
use Rattle.report.specs.Tables.{SheetTable}
use Rattle.report.specs.Findings.{FindingsBelow}
use Rattle.desk.specs.declared.desk.Desk.{Desk}
use Rattle.desk.specs.Desk.{meaning_of, rows_in, findings_in, Same}
use Rattle.report.specs.Tables.{as_line}
use Rattle.desk.specs.Texts.{wrong_line}
use Rattle.desk.specs.Calls.{verdict_of}

-- Whether a mark is this one.
abbrev pub has_mark : Mark → Mark → Bool
has_mark draft draft = true
has_mark draft fitted = false
has_mark fitted draft = false
has_mark fitted fitted = true

-- A sheet with its memory as a table, under the limits.
abbrev pub SheetShown : Sheet → List RowRecord → LimitsInForce → List ℕ → Type 0
SheetShown s memory limits text = SheetTable (road_of s) (has_mark fitted (mark_of s)) (rows_of memory (count_of s)) limits text

-- Below it stand the findings of a check, or its refusal.
abbrev pub Below : (line : ℕ) → Road → LimitsInForce → List RowRecord → List Finding → Result ℕ Refusal → List ℕ → Type 0
Below line road limits rows findings (Ok n) text = FindingsBelow road limits rows (take n findings) text
Below line road limits rows findings (Err refusal) text = text ≡ as_line (refused_text refusal Report line)

-- The sheet is checked under the limits in force, which changes nothing but the findings memory, and is shown as a table with what was found.
pub record ReportOf (line : ℕ) (s : Sheet) (before after : Desk) (text : List ℕ) (verdict : Verdict) : Type 0 where
  pub sheet : after.sheet ≡ Some s
  pub limits : after.limits ≡ before.limits
  pub rows : rows_in after ≡ rows_in before
  pub found : Result ℕ Refusal
  pub checked : Performs (stands s (rows_in before)) (check (meaning_of before.limits) (length (findings_in before))) (listed found (findings_in after)) (stands s (rows_in before))
  pub rest : Untouched found (findings_in before) (findings_in after)
  pub table : List ℕ
  pub below : List ℕ
  pub shown : SheetShown s (rows_in before) before.limits table
  pub stands_below : Below line (road_of s) before.limits (take (count_of s) (rows_in before)) (findings_in after) found below
  pub written : text ≡ table ++ below
  pub fares : verdict ≡ verdict_of (listed found (findings_in after))

-- Where no sheet is open, the line of a report is wrong.
abbrev pub Reports : (line : ℕ) → Option Sheet → Desk → Desk → List ℕ → Verdict → Type 0
Reports line (Some s) before after text verdict = ReportOf line s before after text verdict
Reports line None before after text verdict = Same before after × (text ≡ wrong_line line (failure_text (NoRoad name.Report))) × (verdict ≡ Wrong)
