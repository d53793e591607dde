-- Columns of a table.
use Rattle.std.specs.Prelude.{ℕ, ◌-◌, List, ◌++◌, length, replicate}
use Rattle.units.specs.Units.{metres_text, gon_text, percent_text}

-- A text on the right of so many characters; a longer one as it is.
abbrev pub on_the_right : (width : ℕ) → List ℕ → List ℕ
on_the_right width text = replicate (width - length text) 32 ++ text

abbrev pub metres_column : ℕ → List ℕ
metres_column n = on_the_right 10 (metres_text n)

abbrev pub gon_column : ℕ → List ℕ
gon_column n = on_the_right 10 (gon_text n)

abbrev pub percent_column : ℕ → List ℕ
percent_column n = on_the_right 10 (percent_text n)
