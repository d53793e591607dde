-- A call of the open sheet: what it does on the desk, what is written of it, and how its line fares.
use Rattle.std.specs.Prelude.{◌≡◌, ℕ, ◌≤◌, List, length, unwrap_or, Option, Some, None}
use Rattle.std.specs.Borrow.{Bor}
use Rattle.plain.specs.Sheet.{add, take_out, set_lengths, check, fit, parameter, reopen, done, found, value, refused, barred}
use Rattle.plain.specs.Sheet as plain
use Rattle.sheet.specs.States.{shown, Performs}
use Rattle.series.specs.Calls.{count_of, stands}
use Rattle.series.specs.Histories.{findings_after}
use Rattle.series.specs.declared.any_sheet.Sheet.{Sheet}
use Rattle.choice.specs.declared.in_force.LimitsInForce.{LimitsInForce}
use Rattle.commands.specs.Names.{name_of_call}
use Rattle.commands.specs.declared.command.SheetCommand.{SheetCommand}
use Rattle.commands.specs.declared.command.SheetCommand.TheVariants.{Add, Remove, Set, Check, Fit, Parameter, Reopen}
use Rattle.answers.specs.Shown.{failure_text}
use Rattle.answers.specs.declared.failure.Failure.TheVariants.{NoRoad}
use Rattle.answers.specs.declared.verdict.Verdict.{Verdict}
use Rattle.answers.specs.declared.verdict.Verdict.TheVariants.{Answered, Refused, Wrong}
use Rattle.desk.specs.declared.desk.Desk.{Desk}
use Rattle.desk.specs.Desk.{meaning_of, rows_in, findings_in, Same}
use Rattle.desk.specs.Texts.{wrong_line, Says}

-- What borrowed limits mean.
abbrev pub meant : Bor LimitsInForce → plain.Meaning
meant limits = meaning_of limits.now

-- What a command asks of a sheet of `count` rows, under the limits, with space for so many findings.
abbrev pub asks : LimitsInForce → (space count : ℕ) → SheetCommand → plain.Call
asks limits space count (Add row before) = add (unwrap_or before count) row
asks limits space count (Remove row) = take_out row
asks limits space count (Set row entry exit) = set_lengths row entry exit
asks limits space count Check = check (meaning_of limits) space
asks limits space count Fit = fit (meaning_of limits)
asks limits space count (Parameter row at) = parameter row at
asks limits space count Reopen = reopen

-- How the line of a call fares that is answered so.
abbrev pub verdict_of : plain.Answer → Verdict
verdict_of done = Answered
verdict_of (found number findings) = Answered
verdict_of (value A) = Answered
verdict_of (refused number row) = Refused
verdict_of barred = Wrong

-- The call that a line's command asks is made on the open sheet, whose rows the memory holds, under the limits in force and with all the memory that there is:
-- it keeps its own contract, which is a step of the plain sheet, and its answer is written.
pub record Called (line : ℕ) (command : SheetCommand) (s : Sheet) (before after : Desk) (text : List ℕ) (verdict : Verdict) : Type 0 where
  pub left : Sheet
  pub answer : plain.Answer
  pub sheet : after.sheet ≡ Some left
  pub limits : after.limits ≡ before.limits
  pub holds : count_of s ≤ length (rows_in before)
  pub performs : Performs (stands s (rows_in before)) (asks before.limits (length (findings_in before)) (count_of s) command) answer (stands left (rows_in after))
  pub findings : findings_in after ≡ findings_after answer (findings_in before)
  pub says : Says before.limits line command answer (shown (stands left (rows_in after))) text
  pub fares : verdict ≡ verdict_of answer

-- Where no sheet is open, the line of a call is wrong.
abbrev pub CalledOn : (line : ℕ) → SheetCommand → Option Sheet → Desk → Desk → List ℕ → Verdict → Type 0
CalledOn line command (Some s) before after text verdict = Called line command s before after text verdict
CalledOn line command None before after text verdict = Same before after × (text ≡ wrong_line line (failure_text (NoRoad (name_of_call command)))) × (verdict ≡ Wrong)
