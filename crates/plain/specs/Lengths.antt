-- A list of lengths gives every curve an entry and an exit: the same rows with other lengths. Which lists keep the six clothoid rules, and the least of those.
use Rattle.std.specs.Prelude.{◌≡◌, ℕ, ◌+◌, ◌<◌, ◌≤◌, List, length, take}
use Rattle.std.specs.List.{AllZip}
use Rattle.road.specs.declared.road.Road.{Road}
use Rattle.rows.specs.declared.row.Row.{Row}
use Rattle.rows.specs.declared.row.Row.TheVariants as row
use Rattle.findings.specs.declared.finding.Finding.{Finding}
use Rattle.findings.specs.Findings.{rule_number, Found}
use Rattle.findings.specs.Rules.{Admission}

-- The same straight, or a curve of the same sense, radius and turn. Its lengths are any from 0 to 2,000,000, as every curve has them.
abbrev pub AlikeRow : Row → Row → Type 0
AlikeRow (row.Straight s) (row.Straight t) = t.length ≡ s.length
AlikeRow (row.Straight s) (row.Curve d) = ⊥
AlikeRow (row.Curve c) (row.Straight t) = ⊥
AlikeRow (row.Curve c) (row.Curve d) = (d.sense ≡ c.sense) × (d.radius ≡ c.radius) × (d.turn ≡ c.turn)

-- The same rows, with some list of lengths.
abbrev pub Alike : List Row → List Row → Type 0
Alike = AllZip AlikeRow

-- No entry and no exit is longer than the other rows'.
abbrev pub NoLongerRow : Row → Row → Type 0
NoLongerRow (row.Straight s) (row.Straight t) = Unit {0}
NoLongerRow (row.Straight s) (row.Curve d) = ⊥
NoLongerRow (row.Curve c) (row.Straight t) = ⊥
NoLongerRow (row.Curve c) (row.Curve d) = (c.entry ≤ d.entry) × (c.exit ≤ d.exit)

abbrev pub NoLonger : List Row → List Row → Type 0
NoLonger = AllZip NoLongerRow

module _ (road : Road) (admission : Admission) where
  -- The rows keep rules 1 to 6: every finding is of a later rule.
  abbrev pub Keeps : List Row → Type 0
  Keeps rows = (f : Finding) → Found road admission rows f → 6 < rule_number f.rule

  -- The least list: it keeps the rules, and every list that keeps them is at least as long at each entry and at each exit.
  pub record LeastLengths (rows fitted : List Row) : Type 0 where
    pub alike : Alike rows fitted
    pub keeps : Keeps fitted
    pub least : (others : List Row) → Alike rows others → Keeps others → NoLonger fitted others

  abbrev pub SomeLengths : List Row → Type 0
  SomeLengths rows = (others : List Row) × Alike rows others × Keeps others

  abbrev pub NoLengths : List Row → Type 0
  NoLengths rows = (others : List Row) → Alike rows others → Keeps others → ⊥

  -- Rows 0 to n, as a sheet of their own, are the first without a list of lengths that keeps the rules.
  pub record FirstWithout (rows : List Row) (n : ℕ) : Type 0 where
    pub within : n < length rows
    pub none : NoLengths (take (n + 1) rows)
    pub some : (k : ℕ) → k ≤ n → SomeLengths (take k rows)
