-- Numbers in larger units: the whole part, a point, and each digit after it. And lengths and turns with their units.
use Rattle.std.specs.Prelude.{ℕ, ◌/◌, ◌%◌, List, ◌++◌, codes, decimal}
use Rattle.units.specs.declared.Scale.{Scale}
use Rattle.units.specs.declared.Scale.TheVariants.{Millimetres, Metres}

-- The digit of n that counts its ones, tens, hundreds or thousands.
abbrev pub digit : (unit n : ℕ) → List ℕ
digit unit n = decimal (n / unit % 10)

-- Millimetres in metres.
abbrev pub metres_text : ℕ → List ℕ
metres_text n = decimal (n / 1_000) ++ (codes "." ++ (digit 100 n ++ (digit 10 n ++ digit 1 n)))

-- Ten-thousandths of a gon in gon.
abbrev pub gon_text : ℕ → List ℕ
gon_text n = decimal (n / 10_000) ++ (codes "." ++ (digit 1_000 n ++ (digit 100 n ++ (digit 10 n ++ digit 1 n))))

-- Hundredths of a percent in percent.
abbrev pub percent_text : ℕ → List ℕ
percent_text n = decimal (n / 100) ++ (codes "." ++ (digit 10 n ++ digit 1 n))

-- A length of so many millimetres, with its unit.
abbrev pub length_text : Scale → ℕ → List ℕ
length_text Millimetres n = decimal n ++ codes " mm"
length_text Metres n = metres_text n ++ codes " m"

-- A turn of so many ten-thousandths of a gon, with its unit.
abbrev pub turn_text : Scale → ℕ → List ℕ
turn_text Millimetres n = decimal n ++ codes " ten-thousandths of a gon"
turn_text Metres n = gon_text n ++ codes " gon"
