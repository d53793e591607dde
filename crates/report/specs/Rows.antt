-- What the table has of a row.
use Rattle.std.specs.Prelude.{◌≡◌, ℕ, ◌⊎◌, Option, None}
use Rattle.superelevation.specs.Superelevation.{superelevation_of}
use Rattle.road.specs.declared.road.Road.{Road}
use Rattle.roots.specs.Roots.{Parameter}
use Rattle.rows.specs.declared.row.Row.{Row}
use Rattle.rows.specs.declared.row.Row.TheVariants as row
use Rattle.rows.specs.declared.row.Curve.{Curve}
use Rattle.rows.specs.Curves.{place_of, Calling}
use Rattle.choice.specs.InForce.{in_force}
use Rattle.choice.specs.Governors.{limits_of, Governed}
use Rattle.choice.specs.declared.governor.Governing.{Governing}
use Rattle.choice.specs.declared.in_force.LimitsInForce.{LimitsInForce}
use Rattle.report.specs.declared.table_row.TableRow.{TableRow}
use Rattle.report.specs.declared.table_row.TableRow.TheVariants as table

-- The limit that governs the place of a curve's clothoids, where it calls for them.
abbrev pub GovernsCurve : Road → LimitsInForce → Curve → Option Governing → Type 0
GovernsCurve road limits c g =
    (Calling road c × Governed (in_force limits (place_of road c)) (limits_of limits) (place_of road c) g)
    ⊎ ((Calling road c → ⊥) × (g ≡ None))

-- The length of a straight; of a curve its superelevation, the parameters of its clothoids and the limit that governs them.
abbrev pub Tabulates : Road → LimitsInForce → (position : ℕ) → Row → TableRow → Type 0
Tabulates road limits position (row.Straight s) t = t ≡ table.Straight position s.length
Tabulates road limits position (row.Curve c) t =
    (entry : ℕ) × (exit : ℕ) × (g : Option Governing) × Parameter c.radius c.entry entry × Parameter c.radius c.exit exit × GovernsCurve road limits c g
    × (t ≡ table.Curve position c (superelevation_of road.group c.radius) entry exit g)
