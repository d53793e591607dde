-- What a report writes and leaves.
use Rattle.std.proofs.Common.{◌≡◌, ℕ, ◌++◌, Bool, List, map, take, length, Option, Some, Result, Ok, Err, OnOk, refl, sym}
use Rattle.std.specs.Io.KnownBytes.{Appends}
use Rattle.road.specs.declared.refusal.Refusal.{Refusal}
use Rattle.road.specs.declared.road.Road.{Road}
use Rattle.rows.specs.declared.record.RowRecord.{RowRecord}
use Rattle.rows.specs.Records.{row_of}
use Rattle.findings.specs.declared.finding.Finding.{Finding}
use Rattle.plain.specs.Sheet.{fitted, check}
use Rattle.sheet.specs.States.{listed, Untouched, Performs}
use Rattle.series.specs.Calls.{mark_of, road_of, count_of, stands}
use Rattle.series.specs.declared.any_sheet.Sheet.{Sheet}
use Rattle.choice.specs.declared.in_force.LimitsInForce.{LimitsInForce}
use Rattle.answers.specs.declared.verdict.Verdict.{Verdict}
use Rattle.answers.specs.declared.line_answer.LineAnswer.TheVariants.{Found}
use Rattle.answers.specs.Shown.{answer_text}
use Rattle.wording.specs.Lines.{explained_text}
use Rattle.report.specs.Explanations.{LinesOf}
use Rattle.report.specs.Tables.{SheetTable}
use Rattle.report.specs.Findings.{FindingsBelow}
use Rattle.desk.specs.declared.desk.Desk.{Desk}
use Rattle.desk.specs.Desk.{meaning_of, rows_in, findings_in}
use Rattle.report.specs.Tables.{as_line}
use Rattle.desk.specs.Calls.{verdict_of}
use Rattle.desk.specs.Reports.{has_mark, SheetShown, Below, Reports}
use Rattle.report.proofs.Tables.{append_both}

-- a table of a sheet's own road, mark, rows and limits
pub table_of_sheet : {A E : Type 0} (r : Result A E) (s : Sheet) (memory : List RowRecord) (limits seen : LimitsInForce) (road : Road) (marked : Bool) (rows : List RowRecord) (old new : Option (List ℕ)) → road ≡ road_of s → marked ≡ has_mark fitted (mark_of s) → rows ≡ take (count_of s) memory → seen ≡ limits
    → OnOk r ((text : List ℕ) × SheetTable road marked (map row_of rows) seen text × Appends old new text)
    → OnOk r ((table : List ℕ) × SheetShown s memory limits table × Appends old new table)
table_of_sheet (Ok x) s memory limits seen road marked rows old new road_is mark_is rows_are limits_are (text, is, now) =
    (text, rw (sym road_is, sym mark_is, sym rows_are, sym limits_are) is, now)
table_of_sheet (Err e) s memory limits seen road marked rows old new road_is mark_is rows_are limits_are said = said

-- what stands below it, of the sheet's own road, rows and limits
pub below_of_sheet : {A E : Type 0} (r : Result A E) (road own_road : Road) (limits own_limits : LimitsInForce) (rows own_rows : List RowRecord) (findings : List Finding) (old new : Option (List ℕ)) → road ≡ own_road → limits ≡ own_limits → rows ≡ own_rows
    → OnOk r ((text : List ℕ) × FindingsBelow road limits rows findings text × Appends old new text)
    → OnOk r ((text : List ℕ) × FindingsBelow own_road own_limits own_rows findings text × Appends old new text)
below_of_sheet r road own_road limits own_limits rows own_rows findings old new road_is limits_are rows_are said = rw (sym road_is, sym limits_are, sym rows_are) said

-- the lines of findings, as lines of the sheet's own road, rows and limits
pub lines_of_sheet : {A E : Type 0} (r : Result A E) (road own_road : Road) (limits own_limits : LimitsInForce) (rows own_rows : List RowRecord) (findings : List Finding) (old new : Option (List ℕ)) → road ≡ own_road → limits ≡ own_limits → rows ≡ own_rows
    → OnOk r ((lines : List ℕ) × LinesOf road limits rows explained_text findings lines × Appends old new lines)
    → OnOk r ((lines : List ℕ) × LinesOf own_road own_limits own_rows explained_text findings lines × Appends old new lines)
lines_of_sheet r road own_road limits own_limits rows own_rows findings old new road_is limits_are rows_are said = rw (sym road_is, sym limits_are, sym rows_are) said

-- the findings of a check, and how many they are
pub found_lines : {A E : Type 0} (r : Result A E) (road : Road) (limits : LimitsInForce) (records : List RowRecord) (old mid new : Option (List ℕ)) (findings : List Finding) (n : ℕ)
    → (lines : List ℕ) × LinesOf road limits records explained_text findings lines × Appends old mid lines
    → OnOk r (Appends mid new (as_line (answer_text (Found n))))
    → OnOk r ((text : List ℕ) × ((rs : List RowRecord) × (lines : List ℕ) × (map row_of rs ≡ map row_of records) × LinesOf road limits rs explained_text findings lines × (text ≡ lines ++ as_line (answer_text (Found n)))) × Appends old new text)
found_lines (Ok x) road limits records old mid new findings n (lines, are, before) after =
    (lines ++ as_line (answer_text (Found n)), (records, lines, refl, are, refl), append_both old mid new lines (as_line (answer_text (Found n))) before after)
found_lines (Err e) road limits records old mid new findings n said after = after

-- what is left on the desk, and what is written
pub reported : (line : ℕ) (s : Sheet) (d after : Desk) (o : Option Sheet) (v : Verdict) (found : Result ℕ Refusal) (old mid new : Option (List ℕ)) (rows seen : List RowRecord) (findings findings' : List Finding)
    → o ≡ Some s → after.sheet ≡ Some s → after.limits ≡ d.limits → rows_in after ≡ rows_in d → findings_in after ≡ findings'
    → rows ≡ rows_in d → findings ≡ findings_in d → seen ≡ rows_in d
    → Performs (stands s rows) (check (meaning_of d.limits) (length findings)) (listed found findings') (stands s rows)
    → Untouched found findings findings'
    → (table : List ℕ) × SheetShown s seen d.limits table × Appends old mid table
    → (below : List ℕ) × Below line (road_of s) d.limits (take (count_of s) seen) findings' found below × Appends mid new below
    → v ≡ verdict_of (listed found findings')
    → (text : List ℕ) × Reports line o d after text v × Appends old new text
reported line s d after o v found old mid new rows seen findings findings' is lies same_limits same_rows findings_after rows_are findings_are seen_are checked rest (table, shown, before) (below, under, now) fares = (
  table ++ below,
  rw is
      (record {
        sheet = lies;
        limits = same_limits;
        rows = same_rows;
        found = found;
        checked = rw (findings_after, sym rows_are, sym findings_are) checked;
        rest = rw (findings_after, sym findings_are) rest;
        table = table;
        below = below;
        shown = rw (sym seen_are) shown;
        stands_below = rw (sym seen_are, findings_after) under;
        written = refl;
        fares = rw findings_after fares;
      }),
  append_both old mid new table below before now,
)

-- the findings are those at the front of their memory
pub found_below : (line : ℕ) (road : Road) (limits : LimitsInForce) (rows : List RowRecord) (n : ℕ) (memory findings : List Finding) (old new : Option (List ℕ)) → memory ≡ findings
    → (below : List ℕ) × FindingsBelow road limits rows (take n memory) below × Appends old new below
    → (below : List ℕ) × Below line road limits rows findings (Ok n) below × Appends old new below
found_below line road limits rows n memory findings old new same said = rw (sym same) said
