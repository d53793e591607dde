-- What a writer holds after a text of some kind.
use Rattle.std.specs.Prelude.{ℕ, List, Option}
use Rattle.std.specs.Io.KnownBytes.{Appends}

-- Behind what it held before stands one text, of that kind.
abbrev pub WritesText : (Text : List ℕ → Type 0) → (old new : Option (List ℕ)) → Type 0
WritesText Text old new = (text : List ℕ) × Text text × Appends old new text
