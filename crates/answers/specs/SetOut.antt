-- What is set out of a row.
use Rattle.std.specs.Prelude.{◌≡◌, ℕ}
use Rattle.roots.specs.Roots.{Parameter}
use Rattle.rows.specs.declared.row.Row.{Row}
use Rattle.rows.specs.declared.row.Row.TheVariants as row
use Rattle.answers.specs.declared.set_out.SetOut.{SetOut}
use Rattle.answers.specs.declared.set_out.SetOut.TheVariants.{Straight, Curve}

-- The length of a straight; of a curve the lengths of its entry and exit clothoids, each with its parameter.
abbrev pub SetsOut : (position : ℕ) → Row → SetOut → Type 0
SetsOut position (row.Straight s) line = line ≡ Straight position s.length
SetsOut position (row.Curve c) line =
    (entry : ℕ) × (exit : ℕ) × Parameter c.radius c.entry entry × Parameter c.radius c.exit exit
    × (line ≡ Curve position c.entry entry c.exit exit)
