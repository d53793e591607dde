-- What the lines of an input leave, one after the other, and the program's answer to a whole input.
use Rattle.std.specs.Prelude.{◌≡◌, ℕ, ◌+◌, ◌-◌, ◌^◌, min, Bool, ◌&&◌, ◌==◌, cond, List, [], ◌∷◌, ◌++◌, length, Option, None}
use Rattle.text.specs.Lines.{lines_of}
use Rattle.choice.specs.declared.in_force.LimitsInForce.TheVariants.{Compulsory}
use Rattle.desk.specs.Desk.{rows_in, findings_in, sheet_on, limits_on}
use Rattle.answers.specs.declared.verdict.Verdict.{Verdict}
use Rattle.session.specs.declared.Session.{Session}
use Rattle.session.specs.declared.faults.Faults.{Faults}
use Rattle.session.specs.Lines.{LineLeft}
use Rattle.session.specs.Faults.{counted, any}

-- The lines of a session so far that were refused or wrong.
abbrev pub faults_of : Session → Faults
faults_of s = s.faults

-- A line is answered: it has the next number, does on the desk what it says, writes this text, and how it fares is counted.
pub record LineDone (line : Option (List ℕ)) (before after : Session) (text : List ℕ) : Type 0 where
  pub verdict : Verdict
  pub lines : after.lines ≡ min (before.lines + 1) (2 ^ 64 - 1)
  pub left : LineLeft after.lines before.desk after.desk text verdict (before.lines == 0) line
  pub faults : after.faults ≡ counted verdict after.lines before.faults

-- The lines are answered in order, each once; where the program is to stop, none behind the first that is refused or wrong.
abbrev pub LinesDone : (stop : Bool) → List (Option (List ℕ)) → Session → Session → List ℕ → Type 0
LinesDone stop [] s s' text = (s' ≡ s) × (text ≡ [])
LinesDone stop (l ∷ ls) s s' text =
    cond (stop && any s.faults) ((s' ≡ s) × (text ≡ []))
    ((mid : Session) × (first : List ℕ) × (rest : List ℕ) × LineDone l s mid first × LinesDone stop ls mid s' rest × (text ≡ first ++ rest))

-- A session before its first line: no sheet is open, and there is memory for the most rows and for sixteen findings of each.
pub record Begun (s : Session) : Type 0 where
  pub sheet : sheet_on s.desk ≡ None
  pub limits : limits_on s.desk ≡ Compulsory
  pub rows : length (rows_in s.desk) ≡ 4_000
  pub findings : length (findings_in s.desk) ≡ 64_000
  pub lines : s.lines ≡ 0
  pub faults : s.faults ≡ record { wrong = None; refused = None }

-- The program's answer to an input: what all its lines write, and those that were refused or wrong.
pub record InputAnswered (stop : Bool) (input text : List ℕ) (faults : Faults) : Type 0 where
  pub first : Session
  pub last : Session
  pub begun : Begun first
  pub done : LinesDone stop (lines_of input) first last text
  pub all : faults ≡ last.faults
