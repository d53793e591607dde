-- Lines that are answered on an output.
use Rattle.std.specs.Prelude.{ℕ, Bool, List, Option}
use Rattle.std.specs.Io.KnownBytes.{Appends}
use Rattle.session.specs.declared.Session.{Session}
use Rattle.session.specs.Inputs.{LinesDone}

-- the lines are answered up to the one that the program stops at, if any, and what they write stands behind what the output held
abbrev pub LinesAnswered : (stop : Bool) (lines : List (Option (List ℕ))) (s s' : Session) (old new : Option (List ℕ)) → Type 0
LinesAnswered stop lines s s' old new = (text : List ℕ) × LinesDone stop lines s s' text × Appends old new text
