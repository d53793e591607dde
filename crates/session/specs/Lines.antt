-- What each line does on the desk, what is written of it, and how it fares.
use Rattle.std.specs.Prelude.{◌≡◌, ℕ, Bool, false, cond, ◌⊎◌, List, [], ◌∷◌, ◌++◌, vec_items, drop, Some, None, Ok, Err, IsUtf8, Option, Result, ◌==◌, codes, decimal}
use Rattle.std.specs.Char.{is_ascii_whitespace}
use Rattle.std.specs.Borrow.{Bor}
use Rattle.std.specs.Str.Lossy.{utf8_valid_len}
use Rattle.text.specs.Words.{Words}
use Rattle.road.specs.declared.design.RoadDesign.{RoadDesign}
use Rattle.commands.specs.declared.mistake.ParseError.{ParseError}
use Rattle.commands.specs.Said.{Answers}
use Rattle.commands.specs.Shown.{mistake_text}
use Rattle.commands.specs.declared.name.Name.{Name}
use Rattle.commands.specs.declared.name.Name.TheVariants as name
use Rattle.commands.specs.declared.command.Command.{Command}
use Rattle.commands.specs.declared.command.Command.TheVariants.{Road, Label, Sheet, Rows, Report, Limit}
use Rattle.choice.specs.declared.in_force.LimitsInForce.{LimitsInForce}
use Rattle.choice.specs.declared.in_force.LimitsInForce.TheVariants.{Compulsory, Named}
use Rattle.series.specs.declared.any_sheet.Sheet.{Sheet as OpenSheet}
use Rattle.answers.specs.declared.line_answer.LineAnswer.{LineAnswer}
use Rattle.answers.specs.declared.failure.Failure.{Failure}
use Rattle.answers.specs.declared.failure.Failure.TheVariants as failure
use Rattle.answers.specs.declared.verdict.Verdict.{Verdict}
use Rattle.answers.specs.declared.verdict.Verdict.TheVariants.{Answered, Refused, Wrong}
use Rattle.answers.specs.Shown.{answer_text, failure_text}
use Rattle.answers.specs.Refused.{refused_text}
use Rattle.desk.specs.declared.desk.Desk.{Desk}
use Rattle.desk.specs.Desk.{rows_in, Opens, Labels, with_limits, sheet_on, limits_on}
use Rattle.desk.specs.Calls.{CalledOn}
use Rattle.report.specs.Tables.{as_line}
use Rattle.desk.specs.Texts.{wrong_line, listing_of}
use Rattle.desk.specs.Reports.{Reports}
use Rattle.session.specs.LimitWords.{NamesLimits, FileAt, unreadable_text, echo}

-- What is written of a command's answer at a line.
abbrev pub told_text : (line : ℕ) → Command → Result LineAnswer Failure → List ℕ
told_text line command (Ok answer) = as_line (answer_text answer)
told_text line command (Err (failure.Refused refusal)) = as_line (refused_text refusal command line)
told_text line command (Err (failure.NoRoad name)) = wrong_line line (failure_text (failure.NoRoad name))
told_text line command (Err (failure.Fitted name)) = wrong_line line (failure_text (failure.Fitted name))
told_text line command (Err (failure.Draft name)) = wrong_line line (failure_text (failure.Draft name))

-- How a line fares whose command is answered so: one that asks for what the sheet does not allow, or for an open road where there is none, is wrong.
abbrev pub verdict_on : Result LineAnswer Failure → Verdict
verdict_on (Ok answer) = Answered
verdict_on (Err (failure.Refused refusal)) = Refused
verdict_on (Err (failure.NoRoad name)) = Wrong
verdict_on (Err (failure.Fitted name)) = Wrong
verdict_on (Err (failure.Draft name)) = Wrong

-- The limits are those that the words name.
abbrev pub AreNamed : List (Bor (List ℕ)) → LimitsInForce → Type 0
AreNamed ws Compulsory = ⊥
AreNamed ws (Named limits) = NamesLimits ws (vec_items limits)

module _ (line : ℕ) (before after : Desk) (text : List ℕ) (verdict : Verdict) where
  -- A line that says nothing.
  abbrev pub Nothing : Type 0
  Nothing = (after ≡ before) × (text ≡ []) × (verdict ≡ Answered)

  -- A line that is wrong changes nothing on the desk, and what is wrong with it is written.
  abbrev pub IsWrong : (what : List ℕ) → Type 0
  IsWrong what = (after ≡ before) × (text ≡ wrong_line line what) × (verdict ≡ Wrong)

  -- A command that speaks of the open sheet, where there is none.
  abbrev pub WantsRoad : Name → Type 0
  WantsRoad name = IsWrong (failure_text (failure.NoRoad name))

  pub record RoadLeft (design : RoadDesign) : Type 0 where
    pub answer : Result LineAnswer Failure
    pub opens : Opens design before after answer
    pub tells : text ≡ told_text line (Road design) answer
    pub fares : verdict ≡ verdict_on answer

  pub record LabelLeft (radius turn : ℕ) : Type 0 where
    pub answer : Result LineAnswer Failure
    pub labels : Labels radius turn (sheet_on before) answer
    pub desk : after ≡ before
    pub tells : text ≡ told_text line (Label radius turn) answer
    pub fares : verdict ≡ verdict_on answer

  -- The rows of the open sheet are listed.
  abbrev pub RowsLeft : Option OpenSheet → Type 0
  RowsLeft (Some s) = (after ≡ before) × (text ≡ listing_of (Some s) (rows_in before)) × (verdict ≡ Answered)
  RowsLeft None = WantsRoad name.Rows

  -- The limits that the words after the first name are put in force for the open sheet, in their order, and the words are written again; or a file that
  -- they name cannot be read, and the line is wrong.
  abbrev pub LimitLeft : List (Bor (List ℕ)) → Option OpenSheet → Type 0
  LimitLeft ws (Some s) =
      (AreNamed (drop 1 ws) (limits_on after) × (after ≡ with_limits (limits_on after) before) × (text ≡ as_line (echo ws)) × (verdict ≡ Answered))
      ⊎ ((at : ℕ) × (file : List ℕ) × (why : List ℕ) × FileAt 2 (drop 1 ws) at file × IsWrong (unreadable_text at file why))
  LimitLeft ws None = WantsRoad name.Limit

  -- What a command leaves, whose words are these.
  abbrev pub CommandLeft : List (Bor (List ℕ)) → Command → Type 0
  CommandLeft ws (Road design) = RoadLeft design
  CommandLeft ws (Label radius turn) = LabelLeft radius turn
  CommandLeft ws (Sheet command) = CalledOn line command (sheet_on before) before after text verdict
  CommandLeft ws Rows = RowsLeft (sheet_on before)
  CommandLeft ws Report = Reports line (sheet_on before) before after text verdict
  CommandLeft ws Limit = LimitLeft ws (sheet_on before)

  -- What words leave, by what they say.
  abbrev pub LeftBy : List (Bor (List ℕ)) → Result (Option Command) ParseError → Type 0
  LeftBy ws (Ok None) = Nothing
  LeftBy ws (Ok (Some command)) = CommandLeft ws command
  LeftBy ws (Err mistake) = IsWrong (mistake_text mistake.at mistake.word mistake.expected)

  -- The same of a line of text.
  abbrev pub TextLeft : List ℕ → Type 0
  TextLeft of_line = (ws : List (Bor (List ℕ))) × (said : Result (Option Command) ParseError) × Words 64 of_line ws × Answers ws said × LeftBy ws said

-- the first byte that is no white space is '#'
abbrev pub comment_bytes : List ℕ → Bool
comment_bytes [] = false
comment_bytes (b ∷ bytes) = cond (is_ascii_whitespace b) (comment_bytes bytes) (b == 35)

-- The bytes without the byte order mark that some editors put at the front of a file.
abbrev pub Marked : List ℕ → List ℕ → Type 0
Marked bytes rest = bytes ≡ 239 ∷ (187 ∷ (191 ∷ rest))

abbrev pub Unmarked : List ℕ → List ℕ → Type 0
Unmarked bytes r = Marked bytes r ⊎ (((rest : List ℕ) → Marked bytes rest → ⊥) × (r ≡ bytes))

abbrev pub too_long : List ℕ
too_long = codes "the line is longer than " ++ (decimal 16_384 ++ codes " bytes")

-- so many of the bytes are text, and no more
abbrev pub no_text : (valid : ℕ) → List ℕ
no_text valid = codes "after " ++ (decimal valid ++ codes " bytes the line is not UTF-8 text: save the file as UTF-8")

-- The bytes of a line; None is a line that is too long.
abbrev pub bytes_of : Option (Bor (List ℕ)) → Option (List ℕ)
bytes_of None = None
bytes_of (Some line) = Some line.now

module _ (line : ℕ) (before after : Desk) (text : List ℕ) (verdict : Verdict) where
  -- What a line of bytes leaves: as text what its words say; bytes that are no text are wrong, unless they are a comment.
  abbrev pub BytesLeft : List ℕ → Type 0
  BytesLeft bytes =
      (IsUtf8 bytes × TextLeft line before after text verdict bytes)
      ⊎ ((IsUtf8 bytes → ⊥) × cond (comment_bytes bytes) (Nothing line before after text verdict) (IsWrong line before after text verdict (no_text (utf8_valid_len bytes))))

  -- What a line leaves on the desk: one that is too long, which is None, is wrong; the first loses its mark.
  abbrev pub LineLeft : (first : Bool) → Option (List ℕ) → Type 0
  LineLeft first None = IsWrong line before after text verdict too_long
  LineLeft first (Some whole) = (bytes : List ℕ) × cond first (Unmarked whole bytes) (bytes ≡ whole) × BytesLeft bytes
