-- The radii that keep a rule: mm, and turns in ten-thousandths of a gon.
use Rattle.std.specs.Prelude.{ℕ, ◌+◌, ◌-◌, ◌*◌, ◌<◌, ◌≤◌}
use Rattle.road.specs.declared.road.Road.{Road}
use Rattle.rows.specs.declared.row.Curve.{Curve}

-- Rule 8: consecutive radii r, then next, by Table 4.7, which says nothing of radii below 50 m.
pub record Tabled (r next : ℕ) : Type 0 where
  pub tight : 50_000 ≤ r → r ≤ 450_000 → (50 * r + 600_600 ≤ 77 * next) × (80 * next + 1_152_000 < 127 * r)
  pub middle : 450_000 < r → r ≤ 700_000 → (40 * r + 22_504_500 ≤ 135 * next) × (25 * next + 32_000_000 < 110 * r)
  pub wide : 700_000 < r → r ≤ 1_800_000 → 40 * r + 22_504_500 ≤ 135 * next
  pub widest : 1_800_000 < r → 700_000 ≤ next

-- Rule 8 (4.5): the radius r may be followed by next, over a run of that length (0 where there is none).
pub record Follows (road : Road) (run r next : ℕ) : Type 0 where
  pub near : run ≤ road.limited_run → Tabled r next
  pub far : road.limited_run < run → road.radius_after_run ≤ next

-- Rule 9 (4.4.8): the radius is wide enough for a small turn.
abbrev pub WideEnough : (turn radius : ℕ) → Type 0
WideEnough turn radius = 1_591_500 * (130_000 - turn) ≤ radius * turn

-- A curve of a small turn, below 6 gon, that is not wide enough.
abbrev pub Cramped : Curve → Type 0
Cramped c = (c.turn < 60_000) × (WideEnough c.turn c.radius → ⊥)
