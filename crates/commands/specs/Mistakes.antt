-- Which word of a line is wrong, and what had to stand there.
use Rattle.std.specs.Prelude.{◌≡◌, ℕ, ◌+◌, ◌-◌, ◌<◌, ◌≤◌, ◌⊎◌, List, [], ◌∷◌, length, take, drop, Some, codes, MatchOption, slice_get}
use Rattle.std.specs.Borrow.{Bor}
use Rattle.std.specs.Str.Parse.{IsNumeral}
use Rattle.road.specs.Words.{class_word}
use Rattle.road.specs.declared.class.Class.{Class}
use Rattle.road.specs.declared.jerk.JerkChoice.{JerkChoice}
use Rattle.rows.specs.declared.end.End.{End}
use Rattle.rows.specs.declared.row.Sense.{Sense}
use Rattle.rows.specs.Ends.{end_word, sense_word}
use Rattle.commands.specs.declared.name.Name.{Name}
use Rattle.commands.specs.declared.name.Name.TheVariants.{Road, Label, Straight, Curve, Remove, Set, Rows, Report, Limit, Check, Fit, Parameter, Reopen}
use Rattle.commands.specs.declared.mistake.Expected.{Expected}
use Rattle.commands.specs.declared.mistake.Expected.TheVariants as want
use Rattle.commands.specs.declared.mistake.ParseError.{ParseError}
use Rattle.limit_names.specs.Names.{ALimit}
use Rattle.commands.specs.Names.{name_word, ACommand, Names}
use Rattle.commands.specs.Words.{word, choice_word}

-- the error names a word of the line and its position, counted from 1, or the position after the last word
abbrev pub Blames : List (Bor (List ℕ)) → ParseError → Type 0
Blames ws e =
    MatchOption e.word (e.at ≡ length ws + 1) (λ w. (0 < e.at) × (e.at ≤ length ws) × (w.now ≡ word ws (e.at - 1)))

-- w is what is expected
abbrev pub Wanted : Expected → List ℕ → Type 0
Wanted want.Command w = ACommand w
Wanted want.Class w = (class : Class) × (w ≡ class_word class)
Wanted want.Number w = IsNumeral 10 w
Wanted want.JerkChoice w = (choice : JerkChoice) × (w ≡ choice_word choice)
Wanted want.Sense w = (sense : Sense) × (w ≡ sense_word sense)
Wanted want.End w = (end : End) × (w ≡ end_word end)
Wanted want.Before w = w ≡ codes "before"
Wanted want.LimitName w = ALimit w
Wanted want.FileName w = Unit {0}
Wanted want.EndOfLine w = ⊥

-- the line may end where this is expected
abbrev pub MayEnd : Expected → Type 0
MayEnd want.Before = Unit {0}
MayEnd want.EndOfLine = Unit {0}
MayEnd x = ⊥

-- what stands at the error's position, a word or the end of the line, is not what should have stood there
abbrev pub Wrong : List (Bor (List ℕ)) → ParseError → Type 0
Wrong ws e =
    (e.at ≤ length ws → Wanted e.expected (word ws (e.at - 1)) → ⊥) × (e.at ≡ length ws + 1 → MayEnd e.expected → ⊥)

-- there is a word at position i, counted from 0, and it is what is expected
abbrev pub IsThere : List (Bor (List ℕ)) → ℕ → Expected → Type 0
IsThere ws i x = (i < length ws) × Wanted x (word ws i)

-- the error is of the word at position `at`, where x should have stood
abbrev pub WrongAt : List (Bor (List ℕ)) → (at : ℕ) → Expected → ParseError → Type 0
WrongAt ws at x e = Blames ws e × (e.at ≡ at) × (e.expected ≡ x) × Wrong ws e

-- the error is of a word, where there should have stood what Stands says
abbrev pub WrongWhere : List (Bor (List ℕ)) → (Stands : ℕ → Expected → Type 0) → ParseError → Type 0
WrongWhere ws Stands e = Blames ws e × Stands e.at e.expected × Wrong ws e

-- the same of a word behind the first
abbrev pub WrongBehind : List (Bor (List ℕ)) → (Stands : ℕ → Expected → Type 0) → ParseError → Type 0
WrongBehind ws Stands e = Blames ws e × (1 < e.at) × Stands e.at e.expected × Wrong ws e

-- the words from position i on, counted from 0, are what the list has
abbrev pub AllWanted : List Expected → List (Bor (List ℕ)) → ℕ → Type 0
AllWanted [] ws i = Unit {0}
AllWanted (x ∷ xs) ws i = Wanted x (word ws i) × AllWanted xs ws (i + 1)

-- the words after the first and before the position are what the list has, so that no word before the position is wrong
abbrev pub RightBefore : List Expected → List (Bor (List ℕ)) → ℕ → Type 0
RightBefore xs ws at = AllWanted (take (at - 2) xs) ws 1

-- x is the one of the list that stands at the position, where the first stands at the second position of a line, and the words before are right
abbrev pub In : List Expected → List (Bor (List ℕ)) → ℕ → Expected → Type 0
In xs ws at x = (slice_get xs (at - 2) ≡ Some x) × RightBefore xs ws at

-- what stands at a position after position i, where the words may be `before N`, and those of them before the position are right
abbrev pub BeforeAt : List (Bor (List ℕ)) → ℕ → ℕ → Expected → Type 0
BeforeAt ws i at x =
    ((at ≡ i + 1) × (x ≡ want.Before))
    ⊎ ((at ≡ i + 2) × (x ≡ want.Number) × Wanted want.Before (word ws i))
    ⊎ ((at ≡ i + 3) × (x ≡ want.EndOfLine) × Wanted want.Before (word ws i) × Wanted want.Number (word ws (i + 1)))

-- the words after the first and before the position are names of limits
abbrev pub NamesBefore : List (Bor (List ℕ)) → ℕ → Type 0
NamesBefore ws at = Names (take (at - 2) (drop 1 ws))

-- what stands at a position of a `limit` line, where the words before the position are right; but a line of 64 words or more may have been cut, and is wrong
-- at word 64 whatever stands before
abbrev pub LimitAt : List (Bor (List ℕ)) → ℕ → Expected → Type 0
LimitAt ws at want.LimitName = (length ws < 64) × NamesBefore ws at × ((at ≡ 2) ⊎ (at ≤ length ws))
LimitAt ws at want.FileName = (length ws < 64) × (2 < at) × NamesBefore ws (at - 1) × (word ws (at - 2) ≡ codes "table")
LimitAt ws at want.EndOfLine = at ≡ 64
LimitAt ws at x = ⊥

-- what stands at a position of a command's line, counted from 1, where the words before the position are right
abbrev pub StandsAt : Name → List (Bor (List ℕ)) → ℕ → Expected → Type 0
StandsAt Road ws = In (want.Class ∷ want.Number ∷ want.Number ∷ want.Number ∷ want.JerkChoice ∷ want.EndOfLine ∷ []) ws
StandsAt Label ws = In (want.Number ∷ want.Number ∷ want.EndOfLine ∷ []) ws
StandsAt Straight ws = In (want.Number ∷ want.Before ∷ want.Number ∷ want.EndOfLine ∷ []) ws
StandsAt Curve ws = In (want.Sense ∷ want.Number ∷ want.Number ∷ want.Before ∷ want.Number ∷ want.EndOfLine ∷ []) ws
StandsAt Remove ws = In (want.Number ∷ want.EndOfLine ∷ []) ws
StandsAt Set ws = In (want.Number ∷ want.Number ∷ want.Number ∷ want.EndOfLine ∷ []) ws
StandsAt Rows ws = In (want.EndOfLine ∷ []) ws
StandsAt Report ws = In (want.EndOfLine ∷ []) ws
StandsAt Check ws = In (want.EndOfLine ∷ []) ws
StandsAt Fit ws = In (want.EndOfLine ∷ []) ws
StandsAt Parameter ws = In (want.Number ∷ want.End ∷ want.EndOfLine ∷ []) ws
StandsAt Reopen ws = In (want.EndOfLine ∷ []) ws
StandsAt Limit ws = LimitAt ws

-- the error says what should have stood at its position: a command's name, or what the command that is named has there after words that are right,
-- so that of several wrong words it names the first
abbrev pub Expects : List (Bor (List ℕ)) → ParseError → Type 0
Expects ws e =
    ((e.at ≡ 1) × (e.expected ≡ want.Command))
    ⊎ ((name : Name) × (word ws 0 ≡ name_word name) × (1 < e.at) × StandsAt name ws e.at e.expected)
