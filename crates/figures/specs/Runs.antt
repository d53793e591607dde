-- The runs of straights that the Norma advises, mm, by the speed in km/h.
use Rattle.std.specs.Prelude.{ℕ, ◌*◌}
use Rattle.rows.specs.declared.row.Sense.{Sense}
use Rattle.rows.specs.declared.row.Sense.TheVariants.{Left, Right}

-- Rule 10 (4.2.1): the shortest run between two curves, by their senses.
abbrev pub shortest_run_lem : Sense → Sense → (speed : ℕ) → ℕ
shortest_run_lem Left Left speed = 2_780 * speed
shortest_run_lem Left Right speed = 1_390 * speed
shortest_run_lem Right Left speed = 1_390 * speed
shortest_run_lem Right Right speed = 2_780 * speed

-- Rule 11 (4.2.1): the longest run.
abbrev pub longest_run_lem : (speed : ℕ) → ℕ
longest_run_lem speed = 16_700 * speed
