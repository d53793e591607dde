-- The tests of the rules, computed. The contracts say beside each what it decides, so there is nothing here to believe.
use Rattle.std.specs.Prelude.{ℕ, ◌+◌, ◌-◌, ◌*◌, Bool, true, cond, ◌&&◌, nat_le, nat_lt}
use Rattle.road.specs.declared.road.Road.{Road}
use Rattle.rows.specs.declared.row.Curve.{Curve}

-- rule 2
abbrev pub exceeds_longest_lem : (least length : ℕ) → Bool
exceeds_longest_lem least length = nat_lt (3 * least) (2 * length)

-- rule 5
abbrev pub are_harmonious_lem : (exit entry : ℕ) → Bool
are_harmonious_lem exit entry = nat_le (2 * entry) (3 * exit) && nat_le (2 * exit) (3 * entry)

-- rule 6
abbrev pub leaves_no_arc_lem : Curve → Bool
leaves_no_arc_lem c = nat_le (c.turn * c.radius) (318_300 * (c.entry + c.exit))

-- rule 8
abbrev pub is_tabled_lem : (r next : ℕ) → Bool
is_tabled_lem r next =
    cond (nat_lt r 50_000) true
    (cond (nat_le r 450_000) (nat_le (50 * r + 600_600) (77 * next) && nat_lt (80 * next + 1_152_000) (127 * r))
    (cond (nat_le r 700_000) (nat_le (40 * r + 22_504_500) (135 * next) && nat_lt (25 * next + 32_000_000) (110 * r))
    (cond (nat_le r 1_800_000) (nat_le (40 * r + 22_504_500) (135 * next)) (nat_le 700_000 next))))

abbrev pub follows_radius_lem : Road → (run r next : ℕ) → Bool
follows_radius_lem road run r next = cond (nat_le run road.limited_run) (is_tabled_lem r next) (nat_le road.radius_after_run next)

-- rule 9
abbrev pub is_cramped_lem : Curve → Bool
is_cramped_lem c = nat_lt c.turn 60_000 && nat_lt (c.radius * c.turn) (1_591_500 * (130_000 - c.turn))
