-- What the words of a line say.
use Rattle.std.specs.Prelude.{◌≡◌, ℕ, ◌+◌, ◌<◌, ◌⊎◌, List, [], ◌∷◌, length, drop, Some, None, Ok, Err, codes, Option, Result, MatchResult, slice_index}
use Rattle.std.specs.Borrow.{Bor}
use Rattle.road.specs.Words.{class_word}
use Rattle.rows.specs.Ends.{end_word, sense_word}
use Rattle.plain.specs.declared.NewRow.TheVariants as new
use Rattle.commands.specs.declared.command.Command.{Command}
use Rattle.commands.specs.declared.command.Command.TheVariants.{Road, Label, Sheet, Rows, Report, Limit}
use Rattle.commands.specs.declared.command.SheetCommand.TheVariants.{Add, Remove, Set, Check, Fit, Parameter, Reopen}
use Rattle.commands.specs.declared.name.Name.{Name}
use Rattle.commands.specs.declared.mistake.Expected.{Expected}
use Rattle.commands.specs.declared.mistake.Expected.TheVariants as want
use Rattle.commands.specs.declared.mistake.ParseError.{ParseError}
use Rattle.commands.specs.Names.{name_word, name_of, Names}
use Rattle.commands.specs.Mistakes.{Blames, Expects, In, StandsAt, Wrong, WrongBehind}
use Rattle.commands.specs.Words.{word, Spells, choice_word}

-- from position i on the words are `before N`, or the line ends there
abbrev pub BeforeFrom : List (Bor (List ℕ)) → ℕ → Option ℕ → Type 0
BeforeFrom ws i None = length ws ≡ i
BeforeFrom ws i (Some n) = (length ws ≡ i + 2) × (word ws i ≡ codes "before") × Spells (word ws (i + 1)) n

-- the words after the first say the command's operands
abbrev pub Operands : List (Bor (List ℕ)) → Command → Type 0
Operands ws (Road design) =
    (length ws ≡ 6) × (word ws 1 ≡ class_word design.class) ×
    Spells (word ws 2) design.speed × Spells (word ws 3) design.edge × Spells (word ws 4) design.lanes ×
    (word ws 5 ≡ choice_word design.choice)
Operands ws (Label radius turn) = (length ws ≡ 3) × Spells (word ws 1) radius × Spells (word ws 2) turn
Operands ws (Sheet (Add (new.Straight len) before)) = Spells (word ws 1) len × BeforeFrom ws 2 before
Operands ws (Sheet (Add (new.Curve sense radius turn) before)) =
    (word ws 1 ≡ sense_word sense) × Spells (word ws 2) radius × Spells (word ws 3) turn × BeforeFrom ws 4 before
Operands ws (Sheet (Remove row)) = (length ws ≡ 2) × Spells (word ws 1) row
Operands ws (Sheet (Set row entry exit)) =
    (length ws ≡ 4) × Spells (word ws 1) row × Spells (word ws 2) entry × Spells (word ws 3) exit
Operands ws (Sheet Check) = length ws ≡ 1
Operands ws (Sheet Fit) = length ws ≡ 1
Operands ws (Sheet (Parameter row at)) = (length ws ≡ 3) × Spells (word ws 1) row × (word ws 2 ≡ end_word at)
Operands ws (Sheet Reopen) = length ws ≡ 1
Operands ws Rows = length ws ≡ 1
Operands ws Report = length ws ≡ 1
Operands ws Limit = (1 < length ws) × (length ws < 64) × Names (drop 1 ws)

-- the words ws say the command
abbrev pub Says : List (Bor (List ℕ)) → Command → Type 0
Says ws command = (word ws 0 ≡ name_word (name_of command)) × Operands ws command

-- the first word begins with '#'
abbrev pub Comment : List (Bor (List ℕ)) → Type 0
Comment ws = slice_index (word ws 0) 0 ≡ 35

-- what reading the words as a command answers
abbrev pub Parsed : List (Bor (List ℕ)) → Result Command ParseError → Type 0
Parsed ws r = MatchResult r (λ c. Says ws c) (λ e. Blames ws e × Expects ws e × Wrong ws e)

-- for private contracts: nothing stands behind the command's name
abbrev pub IsBare : List (Bor (List ℕ)) → Command → Type 0
IsBare ws command =
    (length ws ≡ 1 → Operands ws command)
    × ((at : ℕ) (x : Expected) → In (want.EndOfLine ∷ []) ws at x → StandsAt (name_of command) ws at x)

-- what reading the words of a command of the name answers
abbrev pub ReadAs : Name → List (Bor (List ℕ)) → Result Command ParseError → Type 0
ReadAs name ws r =
    MatchResult r (λ c. Says ws c) (WrongBehind ws (StandsAt name ws))

-- what the words of a line answer: the command that they say, or an error where they say none
abbrev pub Answers : List (Bor (List ℕ)) → Result (Option Command) ParseError → Type 0
Answers ws (Ok None) = (length ws ≡ 0) ⊎ Comment ws
Answers ws (Ok (Some c)) = Says ws c
Answers ws (Err e) =
    (0 < length ws) × (Comment ws → ⊥) × Blames ws e × Expects ws e × Wrong ws e × ((c : Command) → Says ws c → ⊥)
