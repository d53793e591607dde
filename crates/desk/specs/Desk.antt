-- What lies on a desk, and what each command does with it and answers.
use Rattle.std.specs.Prelude.{◌≡◌, ℕ, List, vec_items, Some, None, Ok, Err, Option, Result}
use Rattle.road.specs.declared.design.RoadDesign.{RoadDesign}
use Rattle.road.specs.declared.refusal.Refusal.{Refusal}
use Rattle.road.specs.declared.road.Road.{Road}
use Rattle.road.specs.Openings as opening
use Rattle.label.specs.declared.Label.{Label}
use Rattle.label.specs.Labels as labels
use Rattle.choice.specs.InForce.{in_force, in_force_lawful}
use Rattle.choice.specs.declared.in_force.LimitsInForce.{LimitsInForce}
use Rattle.choice.specs.declared.in_force.LimitsInForce.TheVariants.{Compulsory}
use Rattle.rows.specs.declared.record.RowRecord.{RowRecord}
use Rattle.findings.specs.declared.finding.Finding.{Finding}
use Rattle.plain.specs.Sheet as plain
use Rattle.series.specs.Calls.{road_of, stands}
use Rattle.series.specs.Histories.{opened_in}
use Rattle.series.specs.declared.any_sheet.Sheet.{Sheet}
use Rattle.commands.specs.declared.name.Name.{Name}
use Rattle.commands.specs.declared.name.Name.TheVariants as names
use Rattle.answers.specs.declared.line_answer.LineAnswer.{LineAnswer}
use Rattle.answers.specs.declared.line_answer.LineAnswer.TheVariants.{Opened, Labelled}
use Rattle.answers.specs.declared.failure.Failure.{Failure}
use Rattle.answers.specs.declared.failure.Failure.TheVariants.{Refused, NoRoad}
use Rattle.desk.specs.declared.desk.Desk.{Desk}

-- What limits mean.
abbrev pub meaning_of : LimitsInForce → plain.Meaning
meaning_of = plain.meaning in_force in_force_lawful

-- The open sheet, where there is one, and the limits in force for it.
abbrev pub sheet_on : Desk → Option Sheet
sheet_on d = d.sheet

abbrev pub limits_on : Desk → LimitsInForce
limits_on d = d.limits

-- The memory that the rows and the findings lie in.
abbrev pub rows_in : Desk → List RowRecord
rows_in d = vec_items d.rows

abbrev pub findings_in : Desk → List Finding
findings_in d = vec_items d.findings

-- Nothing on the desk changes.
pub record Same (before after : Desk) : Type 0 where
  pub sheet : after.sheet ≡ before.sheet
  pub limits : after.limits ≡ before.limits
  pub rows : rows_in after ≡ rows_in before
  pub findings : findings_in after ≡ findings_in before

-- The sheet of a road just opened.
abbrev pub LaysOut : Road → Option Sheet → Type 0
LaysOut road (Some s) = (memory : List RowRecord) → stands s memory ≡ opened_in road memory
LaysOut road None = ⊥

-- Opening a road lays a new sheet on the desk, under the compulsory limits; a road that the library refuses changes nothing.
abbrev pub OpenedAs : Result Road Refusal → Desk → Desk → Result LineAnswer Failure → Type 0
OpenedAs (Ok road) before after answer =
    (answer ≡ Ok (Opened road)) × LaysOut road after.sheet × (after.limits ≡ Compulsory)
    × (rows_in after ≡ rows_in before) × (findings_in after ≡ findings_in before)
OpenedAs (Err refusal) before after answer = (answer ≡ Err (Refused refusal)) × Same before after

abbrev pub Opens : RoadDesign → Desk → Desk → Result LineAnswer Failure → Type 0
Opens design before after answer = (given : Result Road Refusal) × opening.Opened design given × OpenedAs given before after answer

-- A label is what the library gives the curve on the sheet's road.
abbrev pub label_answer : (radius turn : ℕ) → Result Label Refusal → Result LineAnswer Failure
label_answer radius turn (Ok label) = Ok (Labelled radius turn label)
label_answer radius turn (Err refusal) = Err (Refused refusal)

abbrev pub Labels : (radius turn : ℕ) → Option Sheet → Result LineAnswer Failure → Type 0
Labels radius turn (Some s) answer = (given : Result Label Refusal) × labels.Labelled (road_of s) radius turn given × (answer ≡ label_answer radius turn given)
Labels radius turn None answer = answer ≡ Err (NoRoad names.Label)

-- The desk with other limits in force.
abbrev pub with_limits : LimitsInForce → Desk → Desk
with_limits limits d = record { sheet = d.sheet; limits = limits; rows = d.rows; findings = d.findings; roomy = d.roomy }

-- Whether a sheet is open, for a command that speaks of it.
abbrev pub IsOpen : Name → Option Sheet → Result (Unit {0}) Failure → Type 0
IsOpen name (Some s) answer = answer ≡ Ok tt
IsOpen name None answer = answer ≡ Err (NoRoad name)
