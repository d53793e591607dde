-- How answers are shown, commands without one, rows, and what is set out of them.
use Rattle.std.specs.Prelude.{ℕ, List, [], ◌∷◌, ◌++◌, Option, Some, None, codes, decimal}
use Rattle.superelevation.specs.Superelevation.{group_number}
use Rattle.road.specs.declared.road.Road.{Road}
use Rattle.road.specs.Words.{class_word}
use Rattle.label.specs.declared.Label.{Label}
use Rattle.rows.specs.declared.row.Row.{Row}
use Rattle.rows.specs.declared.row.Row.TheVariants.{Straight, Curve}
use Rattle.rows.specs.Ends.{end_word, sense_word}
use Rattle.commands.specs.Names.{name_word}
use Rattle.answers.specs.declared.line_answer.LineAnswer.{LineAnswer}
use Rattle.answers.specs.declared.line_answer.LineAnswer.TheVariants.{Opened, Labelled, Added, Removed, LengthsSet, Found, Fitted, Parameter, Reopened}
use Rattle.road.specs.Refusals.{number_of, row_of}
use Rattle.road.specs.Words.{reason_of}
use Rattle.answers.specs.declared.failure.Failure.{Failure}
use Rattle.answers.specs.declared.failure.Failure.TheVariants as failure
use Rattle.answers.specs.declared.set_out.SetOut.{SetOut}
use Rattle.answers.specs.declared.set_out.SetOut.TheVariants as set_out

-- Texts one after another.
abbrev pub joined : List (List ℕ) → List ℕ
joined [] = []
joined (text ∷ []) = text
joined (text ∷ next ∷ texts) = text ++ joined (next ∷ texts)

-- A refusal is shown by its number, the row that it names, and its reason; a command that the sheet does not allow by its name, the first word of its line.
abbrev pub failure_text : Failure → List ℕ
failure_text (failure.Refused refusal) =
    joined (codes "refused " ∷ decimal (number_of refusal) ∷ codes " " ∷ decimal (row_of refusal) ∷ codes ": " ∷ reason_of refusal ∷ [])
failure_text (failure.NoRoad name) =
    joined (codes "word 1 is '" ∷ name_word name ∷ codes "', and no road is open: begin with road CLASS SPEED B LANES usual|top" ∷ [])
failure_text (failure.Fitted name) =
    joined (codes "word 1 is '" ∷ name_word name ∷ codes "', and the sheet is fitted: reopen it first" ∷ [])
failure_text (failure.Draft name) =
    joined (codes "word 1 is '" ∷ name_word name ∷ codes "', and the sheet is a draft: fit it first" ∷ [])

-- A length, or that there is none.
abbrev pub length_text : Option ℕ → List ℕ
length_text (Some length) = decimal length
length_text None = codes "none"

abbrev pub road_text : Road → List ℕ
road_text road =
    joined
    (
    codes "opened " ∷ class_word road.class
    ∷ codes "-" ∷ decimal road.speed
    ∷ codes " group " ∷ decimal (group_number road.group)
    ∷ codes " least radius " ∷ decimal road.least_radius
    ∷ []
    )

abbrev pub label_text : (radius turn : ℕ) → Label → List ℕ
label_text radius turn label =
    joined
    (
    codes "label " ∷ decimal radius
    ∷ codes " " ∷ decimal turn
    ∷ codes " p " ∷ decimal label.superelevation
    ∷ codes " comfort " ∷ length_text label.comfort
    ∷ codes " transition " ∷ length_text label.transition
    ∷ codes " azimuth " ∷ length_text label.azimuth
    ∷ codes " shift " ∷ length_text label.shift
    ∷ codes " fifth " ∷ length_text label.fifth
    ∷ codes " least " ∷ length_text label.least
    ∷ codes " A " ∷ length_text label.parameter
    ∷ []
    )

abbrev pub answer_text : LineAnswer → List ℕ
answer_text (Opened road) = road_text road
answer_text (Labelled radius turn label) = label_text radius turn label
answer_text (Added row) = codes "added " ++ decimal row
answer_text (Removed row) = codes "removed " ++ decimal row
answer_text (LengthsSet row) = codes "set " ++ decimal row
answer_text (Found count) = codes "findings " ++ decimal count
answer_text (Fitted count) = codes "fitted " ++ decimal count
answer_text (Parameter row at parameter) =
    joined (codes "parameter " ∷ decimal row ∷ codes " " ∷ end_word at ∷ codes " " ∷ decimal parameter ∷ [])
answer_text Reopened = codes "reopened"

-- A row with its position, as a line.
abbrev pub row_text : (position : ℕ) → Row → List ℕ
row_text position (Straight s) = joined (codes "straight " ∷ decimal position ∷ codes " " ∷ decimal s.length ∷ [])
row_text position (Curve c) =
    joined
    (
    codes "curve " ∷ decimal position
    ∷ codes " " ∷ sense_word c.sense
    ∷ codes " " ∷ decimal c.radius
    ∷ codes " " ∷ decimal c.turn
    ∷ codes " " ∷ decimal c.entry
    ∷ codes " " ∷ decimal c.exit
    ∷ []
    )

-- A line of the setting-out list: its position and length, and for a curve each clothoid's length and parameter.
abbrev pub set_out_text : SetOut → List ℕ
set_out_text (set_out.Straight position length) =
    joined (codes "S " ∷ decimal position ∷ codes " " ∷ decimal length ∷ [])
set_out_text (set_out.Curve position entry entry_parameter exit exit_parameter) =
    joined
    (
    codes "V " ∷ decimal position
    ∷ codes " " ∷ decimal entry
    ∷ codes " " ∷ decimal entry_parameter
    ∷ codes " " ∷ decimal exit
    ∷ codes " " ∷ decimal exit_parameter
    ∷ []
    )
