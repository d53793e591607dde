-- What a call of the open sheet leaves on the desk.
use Rattle.std.proofs.Common.{◌≡◌, ℕ, ◌≤◌, List, length, Option, Some, sym, ap, ◌∙◌, arith}
use Rattle.std.specs.Io.KnownBytes.{Appends}
use Rattle.rows.specs.declared.record.RowRecord.{RowRecord}
use Rattle.findings.specs.declared.finding.Finding.{Finding}
use Rattle.plain.specs.Sheet.{Answer, Call}
use Rattle.sheet.specs.States.{shown, Performs}
use Rattle.series.specs.Calls.{count_of, stands}
use Rattle.series.specs.Histories.{findings_after}
use Rattle.series.specs.declared.any_sheet.Sheet.{Sheet}
use Rattle.series.specs.declared.any_sheet.Sheet.TheVariants as sheet
use Rattle.answers.specs.declared.verdict.Verdict.{Verdict}
use Rattle.commands.specs.declared.command.SheetCommand.{SheetCommand}
use Rattle.desk.specs.declared.desk.Desk.{Desk}
use Rattle.desk.specs.Desk.{rows_in, findings_in}
use Rattle.desk.specs.Texts.{Says}
use Rattle.desk.specs.Calls.{asks, verdict_of, CalledOn}

-- a sheet's rows are few
few : (s : Sheet) → count_of s ≤ 4_000
few (sheet.Draft d) = d.few
few (sheet.Fitted f) = f.few

pub calls : (line : ℕ) (command : SheetCommand) (s left : Sheet) (d after : Desk) (lying : Option Sheet) (c : Call) (answer : Answer) (v : Verdict) (old new : Option (List ℕ)) (rows rows' seen : List RowRecord) (findings findings' : List Finding)
    → lying ≡ Some s → after.sheet ≡ Some left → after.limits ≡ d.limits → rows_in after ≡ rows' → findings_in after ≡ findings'
    → rows ≡ rows_in d → findings ≡ findings_in d → seen ≡ rows_in after
    → c ≡ asks d.limits (length (findings_in d)) (count_of s) command
    → Performs (stands s rows) c answer (stands left rows')
    → findings' ≡ findings_after answer findings
    → v ≡ verdict_of answer
    → (text : List ℕ) × Says d.limits line command answer (shown (stands left seen)) text × Appends old new text
    → (text : List ℕ) × CalledOn line command lying d after text v × Appends old new text
calls line command s left d after lying c answer v old new rows rows' seen findings findings' is lies same_limits rows_after finds_after rows_are findings_are seen_are asked kept over fares (text, says, now) = (
  text,
  rw is
      (record {
        left = left;
        answer = answer;
        sheet = lies;
        limits = same_limits;
        holds = omega (arith, few s, d.roomy, d.rows.ok.0);
        performs = rw (rows_after, sym asked, sym rows_are) kept;
        findings = finds_after ∙ over ∙ ap (findings_after answer) findings_are;
        says = rw (sym seen_are) says;
        fares = fares;
      }),
  now,
)
