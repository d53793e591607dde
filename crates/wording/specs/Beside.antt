-- The curves beside a row, and the runs between: how the rows read before it and after it.
-- A run is told in 64 bits: one that is longer than their greatest number is told as that number.
use Rattle.std.specs.Prelude.{◌≡◌, ℕ, ◌+◌, ◌-◌, ◌^◌, min, cond, List, [], ◌∷◌, Some, None, Option, length, ◌==◌}
use Rattle.rows.specs.declared.row.Row.{Row}
use Rattle.rows.specs.declared.row.Row.TheVariants as row
use Rattle.rows.specs.declared.row.Straight.{Straight}
use Rattle.findings.specs.Around.{total, EndWith, BeginWith, RunGoesOn}
use Rattle.wording.specs.declared.neighbours.Neighbour.{Neighbour}

abbrev pub told : (run : ℕ) → ℕ
told run = min run (2 ^ 64 - 1)

-- The last row before is this curve.
abbrev pub RightBefore : (before : List Row) → Neighbour → Type 0
RightBefore before n = EndWith before n.curve [] × (n.row + 1 ≡ length before) × (n.run ≡ 0)

-- The last curve before is this one, over straights (maybe none).
abbrev pub LastBefore : (before : List Row) → Neighbour → Type 0
LastBefore before n = (ss : List Straight) × EndWith before n.curve ss × (n.row + 1 + length ss ≡ length before) × (n.run ≡ told (total ss))

-- The first curve after is this one, over straights (maybe none); the first row after has that number.
abbrev pub FirstAfter : (from : ℕ) (after : List Row) → Neighbour → Type 0
FirstAfter from after n = (ss : List Straight) × BeginWith after ss n.curve × (n.row ≡ from + length ss) × (n.run ≡ told (total ss))

-- The run that begins with a straight of that length has this length.
abbrev pub RunIs : (first : ℕ) (after : List Row) (run : ℕ) → Type 0
RunIs first after run = (ss : List Straight) × RunGoesOn after ss × (run ≡ told (first + total ss))

-- The same, computed. The contract of `reason` shows that it is what is said above.

-- The first curve of the rows, which are counted from a number, over a run.
abbrev pub next_curve : (run from : ℕ) → List Row → Option Neighbour
next_curve run from [] = None
next_curve run from (row.Straight s ∷ rows) = next_curve (told (run + s.length)) (from + 1) rows
next_curve run from (row.Curve c ∷ rows) = Some (record { row = from; curve = c; run = run })

abbrev pub longer : (length : ℕ) → Option Neighbour → Option Neighbour
longer length None = None
longer length (Some n) = Some (record { row = n.row; curve = n.curve; run = told (n.run + length) })

-- The last curve of the rows, which are counted from a number, or else the one that was found before them.
abbrev pub latest_curve : Option Neighbour → (from : ℕ) → List Row → Option Neighbour
latest_curve found from [] = found
latest_curve found from (row.Straight s ∷ rows) = latest_curve (longer s.length found) (from + 1) rows
latest_curve found from (row.Curve c ∷ rows) = latest_curve (Some (record { row = from; curve = c; run = 0 })) (from + 1) rows

abbrev pub last_curve_lem : List Row → Option Neighbour
last_curve_lem rows = latest_curve None 0 rows

-- Where no run lies between.
abbrev pub adjacent : Option Neighbour → Option Neighbour
adjacent None = None
adjacent (Some n) = cond (n.run == 0) (Some n) None

abbrev pub right_before_lem : List Row → Option Neighbour
right_before_lem rows = adjacent (last_curve_lem rows)

-- The length of a run that goes on with these rows.
abbrev pub run_on : (run : ℕ) → List Row → ℕ
run_on run [] = run
run_on run (row.Straight s ∷ rows) = run_on (told (run + s.length)) rows
run_on run (row.Curve c ∷ rows) = run
