-- The radii that keep a rule, as a range.
use Rattle.std.specs.Prelude.{ℕ, ◌+◌, ◌-◌, ◌*◌, ◌/◌, ◌%◌, ◌≤◌, min, cond, nat_lt, nat_le, Some, None, Option}
use Rattle.road.specs.declared.road.Road.{Road}
use Rattle.figures.specs.declared.range.NextRadius.{NextRadius}

abbrev pub UpTo : Option ℕ → ℕ → Type 0
UpTo (Some greatest) radius = radius ≤ greatest
UpTo None radius = Unit {0}

abbrev pub Within : NextRadius → ℕ → Type 0
Within range radius = (range.least ≤ radius) × UpTo range.greatest radius

-- Every radius of the range keeps the rule, and no other does.
pub record RangeOf (Keeps : ℕ → Type 0) (range : NextRadius) : Type 0 where
  pub sound : (radius : ℕ) → Within range radius → Keeps radius
  pub complete : (radius : ℕ) → Keeps radius → Within range radius

-- The same, computed. The contracts show that these are the ranges of the rules.

-- A quotient, rounded up.
abbrev pub divided_up : (n by : ℕ) → ℕ
divided_up n by = n / by + min 1 (n % by)

abbrev pub from_least_lem : ℕ → NextRadius
from_least_lem least = record { least = least; greatest = None }

-- Table 4.7.
abbrev pub tabled_radii_lem : (r : ℕ) → NextRadius
tabled_radii_lem r =
    cond (nat_lt r 50_000) (from_least_lem 0)
    (cond (nat_le r 450_000) (record { least = divided_up (50 * r + 600_600) 77; greatest = Some ((127 * r - 1_152_001) / 80) })
    (cond (nat_le r 700_000) (record { least = divided_up (40 * r + 22_504_500) 135; greatest = Some ((110 * r - 32_000_001) / 25) })
    (cond (nat_le r 1_800_000) (from_least_lem (divided_up (40 * r + 22_504_500) 135)) (from_least_lem 700_000))))

-- The radii that may follow r over a run.
abbrev pub next_radius_lem : Road → (run r : ℕ) → NextRadius
next_radius_lem road run r =
    cond (nat_le run road.limited_run) (tabled_radii_lem r) (from_least_lem road.radius_after_run)

-- The least radius that is wide enough for a turn.
abbrev pub least_radius_lem : (turn : ℕ) → ℕ
least_radius_lem turn = divided_up (1_591_500 * (130_000 - turn)) turn
