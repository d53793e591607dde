-- The words of a line, and those for values.
use Rattle.std.specs.Prelude.{◌≡◌, ℕ, ◌-◌, ◌^◌, min, List, [], codes, slice_index_or}
use Rattle.std.specs.Borrow.{Bor}
use Rattle.std.specs.Str.Parse.{IsNumeral, digits_value}
use Rattle.road.specs.declared.jerk.JerkChoice.{JerkChoice}
use Rattle.road.specs.declared.jerk.JerkChoice.TheVariants.{Usual, Top}

-- what a read past the end gives
abbrev pub none : Bor (List ℕ)
none = record { ref_ptr = (0, 0); now = [] }

-- the word at position i, counted from 0
abbrev pub word : List (Bor (List ℕ)) → ℕ → List ℕ
word ws i = (slice_index_or ws i none).now

-- w is a numeral, and n its value, or the greatest number of 32 bits where the value is beyond
abbrev pub Spells : List ℕ → ℕ → Type 0
Spells w n = IsNumeral 10 w × (n ≡ min (digits_value 10 w) (2 ^ 32 - 1))

abbrev pub choice_word : JerkChoice → List ℕ
choice_word Usual = codes "usual"
choice_word Top = codes "top"
