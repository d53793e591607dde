-- How a line that was refused is shown: the refusal, the value that was refused, and the line's number.
use Rattle.std.specs.Prelude.{ℕ, List, [], ◌∷◌, codes, decimal, cond, nat_lt}
use Rattle.plain.specs.declared.NewRow.TheVariants as new
use Rattle.road.specs.declared.refusal.Refusal.{Refusal}
use Rattle.road.specs.declared.refusal.Refusal.TheVariants.{NoSuchRoad, EdgeOrLanes, StraightLength, Radius, Turn, HandLength, NoSuchRow}
use Rattle.road.specs.Refusals.{number_of, row_of}
use Rattle.road.specs.Words.{class_word, reason_of}
use Rattle.commands.specs.declared.command.Command.{Command}
use Rattle.commands.specs.declared.command.Command.TheVariants.{Road, Label, Sheet}
use Rattle.commands.specs.declared.command.SheetCommand.{SheetCommand}
use Rattle.commands.specs.declared.command.SheetCommand.TheVariants.{Add, Set}
use Rattle.answers.specs.Shown.{joined}

-- Of two lengths that are set by hand, the one that is refused: the entry, unless only the exit is above the longest.
abbrev pub above_longest : (entry exit : ℕ) → ℕ
above_longest entry exit = cond (nat_lt 2_000_000 entry) entry exit

abbrev pub one_value : ℕ → List ℕ
one_value n = joined (codes ", and is " ∷ decimal n ∷ [])

abbrev pub two_values : (first second : List ℕ) → List ℕ
two_values first second = joined (codes ", and are " ∷ first ∷ codes " and " ∷ second ∷ [])

-- The value of a call that was refused, behind the reason; nothing where the reason or the row says it all.
abbrev pub call_value_text : Refusal → SheetCommand → List ℕ
call_value_text (StraightLength row) (Add (new.Straight length) before) = one_value length
call_value_text (Radius row) (Add (new.Curve sense radius turn) before) = one_value radius
call_value_text (Turn row) (Add (new.Curve sense radius turn) before) = one_value turn
call_value_text (HandLength row) (Set n entry exit) = one_value (above_longest entry exit)
call_value_text (NoSuchRow row) call = one_value row
call_value_text refusal call = []

-- The same of a command.
abbrev pub value_text : Refusal → Command → List ℕ
value_text NoSuchRoad (Road design) = two_values (class_word design.class) (decimal design.speed)
value_text EdgeOrLanes (Road design) = two_values (decimal design.edge) (decimal design.lanes)
value_text (Radius row) (Label radius turn) = one_value radius
value_text (Turn row) (Label radius turn) = one_value turn
value_text refusal (Sheet call) = call_value_text refusal call
value_text refusal command = []

abbrev pub refused_text : Refusal → Command → (line : ℕ) → List ℕ
refused_text refusal command line =
    joined
    (
    codes "refused " ∷ decimal (number_of refusal)
    ∷ codes " " ∷ decimal (row_of refusal)
    ∷ codes ": " ∷ reason_of refusal
    ∷ value_text refusal command
    ∷ codes " (line " ∷ decimal line
    ∷ codes ")"
    ∷ []
    )
