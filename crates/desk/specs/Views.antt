-- What a view shows: the open sheet's road and rows, by its memory and limits.
use Rattle.std.specs.Prelude.{◌≡◌, List, take}
use Rattle.road.specs.declared.road.Road.{Road}
use Rattle.rows.specs.declared.record.RowRecord.{RowRecord}
use Rattle.rows.specs.declared.row.Row.{Row}
use Rattle.rows.specs.Records.{rows_of}
use Rattle.plain.specs.Sheet.{fitted, Plain}
use Rattle.sheet.specs.States.{shown}
use Rattle.series.specs.Calls.{mark_of, road_of, count_of, stands}
use Rattle.report.specs.declared.report.Report.{Report}
use Rattle.desk.specs.declared.view.View.{View}
use Rattle.desk.specs.Reports.{has_mark}

abbrev pub road_on : View → Road
road_on v = road_of v.sheet.now

-- the records of the sheet's rows, at the front of the memory
abbrev pub records_on : View → List RowRecord
records_on v = take (count_of v.sheet.now) v.rows.now

abbrev pub rows_on : View → List Row
rows_on v = rows_of v.rows.now (count_of v.sheet.now)

-- The sheet as a plain sheet.
abbrev pub shown_on : View → Plain
shown_on v = shown (stands v.sheet.now v.rows.now)

-- The report is of what the view shows, on that road.
abbrev pub AsReport : View → Road → Report → Type 0
AsReport v road report =
    (report.road.now ≡ road) × (report.fitted ≡ has_mark fitted (mark_of v.sheet.now)) × (report.rows.now ≡ records_on v) × (report.limits.now ≡ v.limits.now)
