-- The lengths of clothoids that keep a rule, mm.
use Rattle.std.specs.Prelude.{ℕ, ◌+◌, ◌-◌, ◌*◌, ◌/◌, ◌<◌, ◌≤◌}
use Rattle.rows.specs.declared.row.Curve.{Curve}

-- Rule 2 (4.4.4): a length is at most one and a half times the least that is admitted.
abbrev pub AtMostHalfMore : (least length : ℕ) → Type 0
AtMostHalfMore least length = 2 * length ≤ 3 * least

-- Rule 5: an exit and the next entry in harmony, neither above one and a half times the other.
abbrev pub Harmonious : (exit entry : ℕ) → Type 0
Harmonious exit entry = (2 * entry ≤ 3 * exit) × (2 * exit ≤ 3 * entry)

-- Rule 6 (4.4.7): clothoids of that length together leave an arc of the curve.
abbrev pub ArcBeside : Curve → (both : ℕ) → Type 0
ArcBeside c both = 318_300 * both < c.turn * c.radius

-- The curve's own clothoids do.
abbrev pub LeavesArc : Curve → Type 0
LeavesArc c = ArcBeside c (c.entry + c.exit)

-- The greatest number that keeps a rule.
pub record Greatest (Keeps : ℕ → Type 0) (n : ℕ) : Type 0 where
  pub keeps : Keeps n
  pub greatest : (other : ℕ) → Keeps other → other ≤ n

-- Every number from the low one to the high one keeps the rule, and no other does.
pub record Exactly (Keeps : ℕ → Type 0) (low high : ℕ) : Type 0 where
  pub sound : (n : ℕ) → low ≤ n → n ≤ high → Keeps n
  pub complete : (n : ℕ) → Keeps n → (low ≤ n) × (n ≤ high)

-- The same, computed. The contracts show that these are the figures of the rules.

-- The longest clothoid by the least admitted length: one and a half times that, rounded down.
abbrev pub longest_length_lem : (least : ℕ) → ℕ
longest_length_lem least = 3 * least / 2

-- The lengths beside another: from two thirds of it, rounded up, to one and a half times it, rounded down.
abbrev pub least_beside_lem : ℕ → ℕ
least_beside_lem length = (2 * length + 2) / 3

abbrev pub longest_beside_lem : ℕ → ℕ
longest_beside_lem length = 3 * length / 2

-- The longest that a curve's clothoids can be together so that an arc is left.
abbrev pub longest_pair_lem : Curve → ℕ
longest_pair_lem c = (c.turn * c.radius - 1) / 318_300
