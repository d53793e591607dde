-- The open sheet as its lines make it: a history of the plain sheet, whose calls are those of these lines.
use Rattle.std.specs.Prelude.{◌≡◌, ℕ, Bool, ◌&&◌, cond, List, [], ◌∷◌, ◌++◌, length, Option, Some, None}
use Rattle.road.specs.declared.road.Road.{Road}
use Rattle.rows.specs.declared.record.RowRecord.{RowRecord}
use Rattle.plain.specs.Sheet.{opened}
use Rattle.sheet.specs.States.{shown}
use Rattle.series.specs.Calls.{stands}
use Rattle.series.specs.Histories.{LentCall, Seen, History, last_seen, opened_in}
use Rattle.series.specs.declared.any_sheet.Sheet.{Sheet}
use Rattle.answers.specs.declared.verdict.Verdict.{Verdict}
use Rattle.commands.specs.declared.command.SheetCommand.{SheetCommand}
use Rattle.desk.specs.declared.desk.Desk.{Desk}
use Rattle.desk.specs.Desk.{rows_in, findings_in, sheet_on, limits_on}
use Rattle.desk.specs.Calls.{asks, Called}
use Rattle.session.specs.declared.Session.{Session}
use Rattle.session.specs.Faults.{any}
use Rattle.session.specs.Inputs.{Begun, LineDone, LinesDone}

-- The past of the open sheet: its road, and since that was opened the calls of its lines, with what was seen after each.
pub record Past : Type 0 where
  pub road : Road
  pub calls : List LentCall
  pub seen : List Seen

-- The call that a line says: under the limits then in force, and lent all the memory that there is.
abbrev pub call_said : Desk → SheetCommand → LentCall
call_said d command = record { room = length (rows_in d); call = λ count. asks (limits_on d) (length (findings_in d)) count command }

abbrev pub one_call_more : Past → LentCall → Seen → Past
one_call_more h q x = record { road = h.road; calls = h.calls ++ q ∷ []; seen = h.seen ++ x ∷ [] }

-- What a line makes of the past, of which there is none before a road is opened: a call of the open sheet is added; a road that is opened
-- begins anew; what leaves the sheet as it was adds nothing.
pub data Makes (line : ℕ) (d d' : Desk) (text : List ℕ) (v : Verdict) (h h' : Option Past) : Type 0 where
  calling : (k : Past) (command : SheetCommand) (s : Sheet) (called : Called line command s d d' text v)
      → sheet_on d ≡ Some s → h ≡ Some k
      → h' ≡ Some (one_call_more k (call_said d command) (record { answer = called.answer; sheet = shown (stands called.left (rows_in d')) }))
      → Makes line d d' text v h h'
  opening : (road : Road) (s : Sheet) → sheet_on d' ≡ Some s → ((memory : List RowRecord) → stands s memory ≡ opened_in road memory) → h' ≡ Some (record { road = road; calls = []; seen = [] }) → Makes line d d' text v h h'
  keeping : sheet_on d' ≡ sheet_on d → rows_in d' ≡ rows_in d → h' ≡ h → Makes line d d' text v h h'

-- The same of the lines that are answered, one after the other.
abbrev pub LinesMake : (stop : Bool) → List (Option (List ℕ)) → Session → Session → (h h' : Option Past) → Type 0
LinesMake stop [] s s' h h' = (s' ≡ s) × (h' ≡ h)
LinesMake stop (l ∷ ls) s s' h h' =
    cond (stop && any s.faults) ((s' ≡ s) × (h' ≡ h))
    ((mid : Session) × (text : List ℕ) × (done : LineDone l s mid text) × (between : Option Past) × Makes mid.lines s.desk mid.desk text done.verdict h between × LinesMake stop ls mid s' between h')

-- The past is a history of the plain sheet from the opening of its road, and it leaves the open sheet; where none is open, there is none.
abbrev pub Leaves : Option Past → Option Sheet → List RowRecord → Type 0
Leaves None None memory = Unit {0}
Leaves None (Some s) memory = ⊥
Leaves (Some h) None memory = ⊥
Leaves (Some h) (Some s) memory = History (opened h.road) h.calls h.seen × (last_seen (opened h.road) h.seen ≡ shown (stands s memory))

-- Whatever lines come, the open sheet is what the history of its lines' calls leaves: so all that holds of histories holds of it.
abbrev pub LinesMakeHistory : Type 0
LinesMakeHistory =
    (stop : Bool) (lines : List (Option (List ℕ))) (s s' : Session) (text : List ℕ)
    → Begun s → LinesDone stop lines s s' text
    → (h : Option Past) × LinesMake stop lines s s' None h × Leaves h (sheet_on s'.desk) (rows_in s'.desk)
