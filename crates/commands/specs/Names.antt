-- The words that commands begin with, and those that name limits.
use Rattle.std.specs.Prelude.{◌≡◌, ℕ, ◌⊎◌, List, [], ◌∷◌, codes}
use Rattle.std.specs.Borrow.{Bor}
use Rattle.limit_names.specs.Names.{ALimit}
use Rattle.plain.specs.declared.NewRow.TheVariants as new
use Rattle.commands.specs.declared.command.Command.{Command}
use Rattle.commands.specs.declared.command.Command.TheVariants as command
use Rattle.commands.specs.declared.command.SheetCommand.{SheetCommand}
use Rattle.commands.specs.declared.command.SheetCommand.TheVariants as sheet
use Rattle.commands.specs.declared.name.Name.{Name}
use Rattle.commands.specs.declared.name.Name.TheVariants.{Road, Label, Straight, Curve, Remove, Set, Rows, Report, Limit, Check, Fit, Parameter, Reopen}

-- the names, in the order in which a message lists them
abbrev pub names : List Name
names =
    Road ∷ Label ∷ Straight ∷ Curve ∷ Remove ∷ Set ∷ Rows ∷ Report ∷ Limit ∷ Check ∷ Fit ∷ Parameter ∷ Reopen ∷ []

abbrev pub name_word : Name → List ℕ
name_word Road = codes "road"
name_word Label = codes "label"
name_word Straight = codes "straight"
name_word Curve = codes "curve"
name_word Remove = codes "remove"
name_word Set = codes "set"
name_word Rows = codes "rows"
name_word Report = codes "report"
name_word Limit = codes "limit"
name_word Check = codes "check"
name_word Fit = codes "fit"
name_word Parameter = codes "parameter"
name_word Reopen = codes "reopen"

-- w is the name of a command
abbrev pub ACommand : List ℕ → Type 0
ACommand w = (name : Name) × (w ≡ name_word name)

-- the name of a call of the open sheet
abbrev pub name_of_call : SheetCommand → Name
name_of_call (sheet.Add (new.Straight length) before) = Straight
name_of_call (sheet.Add (new.Curve sense radius turn) before) = Curve
name_of_call (sheet.Remove row) = Remove
name_of_call (sheet.Set row entry exit) = Set
name_of_call sheet.Check = Check
name_of_call sheet.Fit = Fit
name_of_call (sheet.Parameter row at) = Parameter
name_of_call sheet.Reopen = Reopen

-- the name of a command
abbrev pub name_of : Command → Name
name_of (command.Road design) = Road
name_of (command.Label radius turn) = Label
name_of (command.Sheet call) = name_of_call call
name_of command.Rows = Rows
name_of command.Report = Report
name_of command.Limit = Limit

-- the name of a limit that is named without a file
abbrev pub NamedAlone : List ℕ → Type 0
NamedAlone w = ALimit w × (w ≡ codes "table" → ⊥)

-- the words are names of limits, where `table` has one word after it, the name of a file
abbrev pub Names : List (Bor (List ℕ)) → Type 0
Names [] = Unit {0}
Names (w ∷ []) = NamedAlone w.now
Names (w ∷ v ∷ ws) = (NamedAlone w.now × Names (v ∷ ws)) ⊎ ((w.now ≡ codes "table") × Names ws)
