-- A sheet as a table.
use Rattle.std.specs.Prelude.{◌≡◌, ℕ, ◌+◌, Bool, List, [], ◌∷◌, ◌++◌, map, length, codes}
use Rattle.road.specs.declared.road.Road.{Road}
use Rattle.rows.specs.declared.row.Row.{Row}
use Rattle.choice.specs.declared.in_force.LimitsInForce.{LimitsInForce}
use Rattle.choice.specs.Governors.{limits_of}
use Rattle.rows.specs.Records.{row_of}
use Rattle.report.specs.declared.table_row.TableRow.{TableRow}
use Rattle.report.specs.declared.report.Report.{Report}
use Rattle.report.specs.Headings.{road_heading, sheet_heading, limits_heading}
use Rattle.report.specs.Rows.{Tabulates}
use Rattle.report.specs.Shown.{table_row_text}

abbrev pub as_line : List ℕ → List ℕ
as_line text = text ++ 10 ∷ []

-- The rows of the table, a line each; the first stands at the position.
abbrev pub TableOf : Road → LimitsInForce → (position : ℕ) → List Row → List ℕ → Type 0
TableOf road limits position [] text = text ≡ []
TableOf road limits position (r ∷ rows) text =
    (first : TableRow) × (rest : List ℕ) × Tabulates road limits position r first × TableOf road limits (position + 1) rows rest
    × (text ≡ as_line (table_row_text first) ++ rest)

abbrev pub column_names : List ℕ
column_names = codes " row  kind           length    radius      turn         p     entry         A      exit         A     least  governed by"

abbrev pub column_units : List ℕ
column_units = codes "                          m         m       gon         %         m         m         m         m         m"

abbrev pub heading_text : Road → Bool → List Row → LimitsInForce → List ℕ
heading_text road is_fitted rows limits =
    as_line (road_heading road) ++ (as_line (sheet_heading is_fitted (length rows)) ++ (as_line (limits_heading (limits_of limits)) ++ (
    as_line [] ++ (as_line column_names ++ as_line column_units))))

-- The heading of a report.
abbrev pub heading_of : Report → List ℕ
heading_of report = heading_text report.road.now report.fitted (map row_of report.rows.now) report.limits.now

-- A sheet as a table: its road, its mark and the number of its rows, the limits in force, and the rows with the names of their columns.
abbrev pub SheetTable : Road → Bool → List Row → LimitsInForce → List ℕ → Type 0
SheetTable road is_fitted rows limits text =
    (table : List ℕ) × TableOf road limits 0 rows table × (text ≡ heading_text road is_fitted rows limits ++ (table ++ as_line []))
