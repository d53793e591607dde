-- The line that is being read.
use Rattle.std.specs.Prelude.{◌≡◌, ℕ, ◌+◌, ◌<◌, ◌≤◌, Some, None, Option, List, [], ◌∷◌, ◌++◌, length, ◌≢◌, slice_index, cond, nat_lt, ◌==◌}

-- a line's front is within 16,384 bytes; None stands for a line that is too long
abbrev pub WithinLongest : Option (List ℕ) → Type 0
WithinLongest None = Unit {0}
WithinLongest (Some front) = length front ≤ 16_384

-- a part is added where the line stays within 16,384 bytes; past that the line is too long, and nothing more is kept
abbrev pub Grown : Option (List ℕ) → List ℕ → Option (List ℕ) → Type 0
Grown None part after = after ≡ None
Grown (Some front) part None = 16_384 < length front + length part
Grown (Some front) part (Some front') = (length front + length part ≤ 16_384) × (front' ≡ front ++ part)

-- none of the bytes is a newline, 10
abbrev pub NoNewline : List ℕ → Type 0
NoNewline bytes = (k : ℕ) → k < length bytes → slice_index bytes k ≢ 10

-- a byte more of a line, as far as it has come: None where it has more than 16,384 bytes
abbrev pub one_byte : Option (List ℕ) → ℕ → Option (List ℕ)
one_byte None b = None
one_byte (Some front) b = cond (nat_lt (length front) 16_384) (Some (front ++ b ∷ [])) None

-- the lines that end in a newline, the first behind what had come of it
abbrev pub ended_lines : Option (List ℕ) → List ℕ → List (Option (List ℕ))
ended_lines begun [] = []
ended_lines begun (b ∷ bs) = cond (b == 10) (begun ∷ ended_lines (Some []) bs) (ended_lines (one_byte begun b) bs)

-- what has come of the line behind these
abbrev pub unended : Option (List ℕ) → List ℕ → Option (List ℕ)
unended begun [] = begun
unended begun (b ∷ bs) = cond (b == 10) (unended (Some []) bs) (unended (one_byte begun b) bs)

-- the last line, which may lack its newline; where nothing has come of it, there is none
abbrev pub last_line : Option (List ℕ) → List (Option (List ℕ))
last_line None = None ∷ []
last_line (Some []) = []
last_line (Some (b ∷ bs)) = Some (b ∷ bs) ∷ []

-- The lines of an input, each without its newline, or None where it has more than 16,384 bytes.
abbrev pub lines_of : List ℕ → List (Option (List ℕ))
lines_of input = ended_lines (Some []) input ++ last_line (unended (Some []) input)
