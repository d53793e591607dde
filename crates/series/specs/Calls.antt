-- Sheets, calls and outcomes as values, and what they are on the plain sheet.
use Rattle.std.specs.Prelude.{◌≡◌, ℕ, ◌≤◌, List, [], length, take, drop, min, unwrap_or, Ok, Err, Result}
use Rattle.road.specs.declared.refusal.Refusal.{Refusal}
use Rattle.road.specs.declared.road.Road.{Road}
use Rattle.rows.specs.declared.record.RowRecord.{RowRecord}
use Rattle.findings.specs.declared.finding.Finding.{Finding}
use Rattle.plain.specs.Sheet.{Mark, draft, fitted, Meaning, add, take_out, set_lengths, check, fit, parameter, reopen, done, found, value, barred}
use Rattle.plain.specs.Sheet as plain
use Rattle.sheet.specs.States.{State, state_of, draft_road, draft_count, fitted_road, fitted_count, refusal, Performs}
use Rattle.series.specs.declared.outcome.Outcome.{Outcome}
use Rattle.series.specs.declared.outcome.Outcome.TheVariants.{Done, Found, Parameter, Refused, Barred}
use Rattle.series.specs.declared.call.Call.{Call}
use Rattle.series.specs.declared.call.Call.TheVariants as call
use Rattle.series.specs.declared.any_sheet.Sheet.{Sheet}
use Rattle.series.specs.declared.any_sheet.Sheet.TheVariants as sheet

-- A sheet with the row memory.
abbrev pub mark_of : Sheet → Mark
mark_of (sheet.Draft d) = draft
mark_of (sheet.Fitted f) = fitted

abbrev pub road_of : Sheet → Road
road_of (sheet.Draft d) = draft_road d
road_of (sheet.Fitted f) = fitted_road f

abbrev pub count_of : Sheet → ℕ
count_of (sheet.Draft d) = draft_count d
count_of (sheet.Fitted f) = fitted_count f

abbrev pub stands : Sheet → List RowRecord → State
stands s memory = state_of (mark_of s) (road_of s) (count_of s) memory

-- What a call asks of a sheet of `count` rows. A check has the space that it names, or the findings memory where that is less.
abbrev pub asked : {L : Type 0} → (L → Meaning) → (findings count : ℕ) → Call L → plain.Call
asked meant findings count (call.Add before row) = add (unwrap_or before count) row
asked meant findings count (call.TakeOut row) = take_out row
asked meant findings count (call.SetLengths row entry exit) = set_lengths row entry exit
asked meant findings count (call.Check limit space) = check (meant limit) (min space findings)
asked meant findings count (call.Fit limit) = fit (meant limit)
asked meant findings count (call.Parameter row at) = parameter row at
asked meant findings count call.Reopen = reopen

-- What an outcome answers, where these are the findings of its check.
abbrev pub told : Outcome → List Finding → plain.Answer
told Done findings = done
told (Found n) findings = found n findings
told (Parameter A) findings = value A
told (Refused r) findings = refusal r
told Barred findings = barred

-- The findings of a check, at the front of their memory; there are none after any other outcome.
abbrev pub found_in : Outcome → List Finding → List Finding
found_in Done memory = []
found_in (Found n) memory = take n memory
found_in (Parameter A) memory = []
found_in (Refused r) memory = []
found_in Barred memory = []

abbrev pub outcome_of_check : Result ℕ Refusal → Outcome
outcome_of_check (Ok n) = Found n
outcome_of_check (Err r) = Refused r

-- Past the findings of a check, and after any other outcome everywhere, the findings memory is as it was.
abbrev pub Kept : Outcome → (before after : List Finding) → Type 0
Kept Done before after = after ≡ before
Kept (Found n) before after = (n ≤ length before) × (length after ≡ length before) × (drop n after ≡ drop n before)
Kept (Parameter A) before after = after ≡ before
Kept (Refused r) before after = after ≡ before
Kept Barred before after = after ≡ before

-- The call was made on the sheet, and answered by this outcome with the findings at the front of their memory: what every call keeps to.
abbrev pub CallMade : {L : Type 0} → (L → Meaning) → Call L → State → (findings : List Finding) → Outcome → (findings' : List Finding) → State → Type 0
CallMade meant c s findings outcome findings' s' = Performs s (asked meant (length findings) s.count c) (told outcome (found_in outcome findings')) s'
