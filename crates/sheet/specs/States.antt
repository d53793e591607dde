-- A sheet with the memory that is lent to it, the plain sheet that it shows, and what every call keeps to.
use Rattle.std.specs.Prelude.{◌≡◌, ℕ, ◌<◌, ◌≤◌, List, [], ◌∷◌, length, take, drop, Ok, Err, Result, slice_index_or, slice_set}
use Rattle.roll.specs.Contents.{with_inserted, with_removed}
use Rattle.road.specs.declared.refusal.Refusal.{Refusal}
use Rattle.road.specs.declared.road.Road.{Road}
use Rattle.road.specs.Refusals.{number_of, row_of as row_named, ground, Clear, Refused}
use Rattle.rows.specs.declared.record.RowRecord.{RowRecord}
use Rattle.rows.specs.declared.record.RowRecord.TheVariants as stored
use Rattle.rows.specs.declared.row.Curve.{Curve}
use Rattle.rows.specs.declared.row.Row.{Row}
use Rattle.rows.specs.declared.row.Row.TheVariants as row
use Rattle.rows.specs.Records.{row_of, rows_of, record_of, blank_record}
use Rattle.findings.specs.declared.finding.Finding.{Finding}
use Rattle.plain.specs.declared.NewRow.{NewRow}
use Rattle.plain.specs.Given.{given_record}
use Rattle.fitting.specs.Fits.{OnlyCurves}
use Rattle.plain.specs.Sheet.{Mark, draft, fitted, Plain, Call, add, take_out, set_lengths, check, fit, parameter, reopen, Answer, done, found, value, refused, Stopped, number_grounds, room_grounds, Given, StepAt}
use Rattle.sheet.specs.declared.draft.Draft.{Draft}
use Rattle.sheet.specs.declared.fitted.Fitted.{Fitted}

-- A sheet's numbers, with the row memory that is lent to it.
pub record State : Type 0 where
  pub mark : Mark
  pub road : Road
  pub count : ℕ
  pub memory : List RowRecord

abbrev pub state_of : Mark → Road → (count : ℕ) → List RowRecord → State
state_of mark road count memory = record { mark = mark; road = road; count = count; memory = memory }

-- What a draft and a fitted sheet hold themselves: the road, and how many rows there are.
abbrev pub draft_road : Draft → Road
draft_road d = d.road

abbrev pub draft_count : Draft → ℕ
draft_count d = d.count

abbrev pub fitted_road : Fitted → Road
fitted_road f = f.road

abbrev pub fitted_count : Fitted → ℕ
fitted_count f = f.count

abbrev pub drafted : Draft → List RowRecord → State
drafted d memory = state_of draft (draft_road d) (draft_count d) memory

abbrev pub fitted_in : Fitted → List RowRecord → State
fitted_in f memory = state_of fitted (fitted_road f) (fitted_count f) memory

-- The plain sheet that a state shows: its rows are what the first `count` records stand for.
abbrev pub shown : State → Plain
shown s = record { road = s.road; rows = rows_of s.memory s.count; mark = s.mark }

-- What the row memory holds, to the last slot, after a call that was carried out.
abbrev pub MemoryAfter : Call → (count : ℕ) → List RowRecord → List RowRecord → Type 0
MemoryAfter (add position given) count before after = after ≡ with_inserted before count position (given_record given)
MemoryAfter (take_out n) count before after = after ≡ with_removed before count n blank_record
MemoryAfter (set_lengths n entry exit) count before after =
    (c : Curve) × (row.Curve c ≡ row_of (slice_index_or before n blank_record)) × (after ≡ slice_set before n (stored.Curve c.sense c.radius c.turn entry exit))
MemoryAfter (check limit space) count before after = after ≡ before
MemoryAfter (fit limit) count before after = OnlyCurves (take count before) (take count after) × (drop count after ≡ drop count before)
MemoryAfter (parameter n at) count before after = after ≡ before
MemoryAfter reopen count before after = after ≡ before

-- What every call keeps to: the plain sheet's step; a call that is refused or barred changes nothing at all; what the memory then holds;
-- and how many rows there then are, in a memory that holds all of them and in one that is too short for them.
pub record Performs (s : State) (c : Call) (a : Answer) (s' : State) : Type 0 where
  pub step : StepAt (length s.memory) s.count (shown s) c a (shown s')
  pub unchanged : Stopped a → s' ≡ s
  pub memory : (Stopped a → ⊥) → MemoryAfter c s.count s.memory s'.memory
  pub whole : s.count ≤ length s.memory → s'.count ≤ length s'.memory
  pub short : length s.memory < s.count → s'.count ≡ s.count
  pub long : length s'.memory ≡ length s.memory

-- A call that only looks at the sheet keeps to it, and leaves the sheet as it is.
abbrev pub OnlyLooks : State → Call → Answer → Type 0
OnlyLooks s c a = Performs s c a s

-- What each call's result answers.
abbrev pub refusal : Refusal → Answer
refusal r = refused (number_of r) (row_named r)

abbrev pub edited : Result (Unit {0}) Refusal → Answer
edited (Ok _) = done
edited (Err r) = refusal r

abbrev pub measured : Result ℕ Refusal → Answer
measured (Ok A) = value A
measured (Err r) = refusal r

abbrev pub fitting_answer : Result Fitted (Draft × Refusal) → Answer
fitting_answer (Ok _) = done
fitting_answer (Err handed) = refusal handed.1

-- The sheet after a fit: fitted, or the draft that was handed back.
abbrev pub after_fit : Result Fitted (Draft × Refusal) → List RowRecord → State
after_fit (Ok f) memory = fitted_in f memory
after_fit (Err handed) memory = drafted handed.0 memory

-- A check answers how many findings it wrote, and which.
abbrev pub listed : Result ℕ Refusal → List Finding → Answer
listed (Ok n) findings = found n (take n findings)
listed (Err r) findings = refusal r

-- Past the last finding, and after a refusal everywhere, the findings memory is as it was.
abbrev pub Untouched : Result ℕ Refusal → List Finding → List Finding → Type 0
Untouched (Ok n) before after = (n ≤ length before) × (length after ≡ length before) × (drop n after ≡ drop n before)
Untouched (Err r) before after = after ≡ before

-- For private contracts: what the numbers of a row to be added give, the record that keeps the row or the refusal of one of them.
abbrev pub Numbered : ℕ → NewRow → Result RowRecord Refusal → Type 0
Numbered position given (Ok stored) = Clear (number_grounds given []) × ((r : Row) × Given given r × (stored ≡ record_of r))
Numbered position given (Err refusal) = Refused (number_grounds given []) position refusal

-- For private contracts: why there is no room for a row at that position.
abbrev pub NoRoom : (room count position : ℕ) → Refusal → Type 0
NoRoom room count position refusal = Refused (room_grounds room count position) position refusal

-- For private contracts: what asking for the record at position n gives, record n or the refusal of a memory that is too short or of a row that is not there.
abbrev pub RecordAt : List RowRecord → (count n : ℕ) → Result RowRecord Refusal → Type 0
RecordAt memory count n (Ok r) = (count ≤ length memory) × (n < count) × (r ≡ slice_index_or memory n r)
RecordAt memory count n (Err refusal) = Refused (ground 7 (length memory < count) ∷ ground 8 (count ≤ n) ∷ []) n refusal
