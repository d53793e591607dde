-- What is written of a call.
use Rattle.std.specs.Prelude.{◌≡◌, ℕ, ◌+◌, ◌-◌, map, unwrap_or, Some, None, Option, List, [], ◌∷◌, ◌++◌, length, codes, decimal}
use Rattle.road.specs.declared.refusal.Refusal.{Refusal}
use Rattle.road.specs.Refusals.{number_of, row_of}
use Rattle.rows.specs.declared.record.RowRecord.{RowRecord}
use Rattle.rows.specs.declared.row.Row.{Row}
use Rattle.rows.specs.Records.{row_of as row_at, rows_of}
use Rattle.plain.specs.Sheet.{Mark, draft, fitted, done, found, value, refused, barred}
use Rattle.plain.specs.Sheet as plain
use Rattle.series.specs.Calls.{count_of}
use Rattle.series.specs.declared.any_sheet.Sheet.{Sheet}
use Rattle.commands.specs.declared.command.Command.TheVariants as line_says
use Rattle.commands.specs.declared.command.SheetCommand.{SheetCommand}
use Rattle.commands.specs.declared.command.SheetCommand.TheVariants.{Add, Remove, Set, Check, Fit, Parameter, Reopen}
use Rattle.commands.specs.declared.name.Name.{Name}
use Rattle.commands.specs.Names.{name_of_call}
use Rattle.answers.specs.declared.line_answer.LineAnswer.TheVariants as answer
use Rattle.answers.specs.declared.failure.Failure.{Failure}
use Rattle.answers.specs.declared.failure.Failure.TheVariants as failure
use Rattle.answers.specs.declared.set_out.SetOut.{SetOut}
use Rattle.answers.specs.SetOut.{SetsOut}
use Rattle.answers.specs.Refused.{refused_text}
use Rattle.answers.specs.Shown.{answer_text, failure_text, row_text, set_out_text}
use Rattle.choice.specs.declared.in_force.LimitsInForce.{LimitsInForce}
use Rattle.wording.specs.Lines.{explained_text}
use Rattle.report.specs.Explanations.{LinesOf}
use Rattle.report.specs.Tables.{as_line}

-- Rows, a line each; the first stands at the position.
abbrev pub rows_text : (position : ℕ) → List Row → List ℕ
rows_text position [] = []
rows_text position (r ∷ rows) = as_line (row_text position r) ++ rows_text (position + 1) rows

-- The setting-out list of rows, a line each; the first stands at the position.
abbrev pub SetOutList : (position : ℕ) → List Row → List ℕ → Type 0
SetOutList position [] text = text ≡ []
SetOutList position (r ∷ rows) text =
    (first : SetOut) × (rest : List ℕ) × SetsOut position r first × SetOutList (position + 1) rows rest × (text ≡ as_line (set_out_text first) ++ rest)

-- A sheet of this mark does not have the call of the name.
abbrev pub why_barred : Mark → Name → Failure
why_barred draft name = failure.Draft name
why_barred fitted name = failure.Fitted name

-- What is written of a wrong line: its number, and what is wrong with it.
abbrev pub wrong_line : (line : ℕ) → List ℕ → List ℕ
wrong_line line what = codes "error " ++ (decimal line ++ (codes ": " ++ as_line what))

-- What is written of a call that was carried out and left these rows. Checks and questions for a parameter are not answered so.
abbrev pub SaysDone : SheetCommand → List Row → List ℕ → Type 0
SaysDone (Add row before) rows text = text ≡ as_line (answer_text (answer.Added (unwrap_or before (length rows - 1))))
SaysDone (Remove row) rows text = text ≡ as_line (answer_text (answer.Removed row))
SaysDone (Set row entry exit) rows text = text ≡ as_line (answer_text (answer.LengthsSet row))
SaysDone Check rows text = text ≡ []
SaysDone Fit rows text = (list : List ℕ) × SetOutList 0 rows list × (text ≡ as_line (answer_text (answer.Fitted (length rows))) ++ list)
SaysDone (Parameter row at) rows text = text ≡ []
SaysDone Reopen rows text = text ≡ as_line (answer_text answer.Reopened)

-- What is written of a parameter; no other call is answered so.
abbrev pub parameter_text : SheetCommand → (parameter : ℕ) → List ℕ
parameter_text (Parameter row at) A = as_line (answer_text (answer.Parameter row at A))
parameter_text command A = []

-- The rows of the open sheet, a line each; nothing without a sheet.
abbrev pub listing_of : Option Sheet → List RowRecord → List ℕ
listing_of (Some s) memory = rows_text 0 (rows_of memory (count_of s))
listing_of None memory = []

-- What is written of a line's command that is answered so, where this sheet is left, under the limits.
abbrev pub Says : LimitsInForce → (line : ℕ) → SheetCommand → plain.Answer → plain.Plain → List ℕ → Type 0
Says limits line command done s text = SaysDone command s.rows text
Says limits line command (found number findings) s text =
    (records : List RowRecord) × (lines : List ℕ) × (map row_at records ≡ s.rows) × LinesOf s.road limits records explained_text findings lines
    × (text ≡ lines ++ as_line (answer_text (answer.Found number)))
Says limits line command (value A) s text = text ≡ parameter_text command A
Says limits line command (refused number row) s text =
    (refusal : Refusal) × (number ≡ number_of refusal) × (row ≡ row_of refusal) × (text ≡ as_line (refused_text refusal (line_says.Sheet command) line))
Says limits line command barred s text = text ≡ wrong_line line (failure_text (why_barred s.mark (name_of_call command)))
