-- The findings of a sheet under a limit, and what a check answers.
use Rattle.std.specs.Prelude.{◌≡◌, ℕ, ◌<◌, ◌≤◌, ◌⊎◌, List, [], ◌∷◌, ◌++◌, length, drop, Ok, Err, Result}
use Rattle.road.specs.declared.road.Road.{Road}
use Rattle.rows.specs.declared.row.Row.{Row}
use Rattle.findings.specs.declared.TooMany.{TooMany}
use Rattle.findings.specs.declared.TooMany.TheVariants.{Rows, Findings}
use Rattle.findings.specs.declared.finding.Finding.{Finding}
use Rattle.findings.specs.declared.finding.Rule.{Rule}
use Rattle.findings.specs.declared.finding.Rule.TheVariants as rule
use Rattle.findings.specs.declared.finding.Side.{Side}
use Rattle.findings.specs.declared.finding.Side.TheVariants.{Whole, Entry, Exit}
use Rattle.findings.specs.declared.finding.Weight.{Weight}
use Rattle.findings.specs.declared.finding.Weight.TheVariants.{Breach, Advice}
use Rattle.findings.specs.declared.kind.Kind.{Kind}
use Rattle.findings.specs.declared.kind.Kind.TheVariants.{UnadmittedEntry, UnadmittedExit, LongEntry, LongExit, UncalledEntry, UncalledExit, Unequal, Disharmony, NoArc, TightRadius, NextRadius, ReturnRadius, SmallTurn, ShortRun, LongRun, SlightTurn}
use Rattle.findings.specs.Rules.{Admission, Broken}

-- The number of a rule.
abbrev pub rule_number : Rule → ℕ
rule_number rule.AdmittedLength = 1
rule_number rule.LongestLength = 2
rule_number rule.NoClothoids = 3
rule_number rule.Symmetry = 4
rule_number rule.Harmony = 5
rule_number rule.ArcLeft = 6
rule_number rule.LeastRadius = 7
rule_number rule.ConsecutiveRadii = 8
rule_number rule.SmallTurn = 9
rule_number rule.ShortestRun = 10
rule_number rule.LongestRun = 11
rule_number rule.LeastTurn = 12

-- The number of a side.
abbrev pub side_number : Side → ℕ
side_number Whole = 0
side_number Entry = 1
side_number Exit = 2

-- The weight of a rule: rules 10 to 12 advise; a breach is of one of the others.
abbrev pub weight_of : Rule → Weight
weight_of rule.AdmittedLength = Breach
weight_of rule.LongestLength = Breach
weight_of rule.NoClothoids = Breach
weight_of rule.Symmetry = Breach
weight_of rule.Harmony = Breach
weight_of rule.ArcLeft = Breach
weight_of rule.LeastRadius = Breach
weight_of rule.ConsecutiveRadii = Breach
weight_of rule.SmallTurn = Breach
weight_of rule.ShortestRun = Advice
weight_of rule.LongestRun = Advice
weight_of rule.LeastTurn = Advice

-- A finding by its numbers: its row, rule and side, and whether it is a breach or advice.
pub record Numbers : Type 0 where
  pub row : ℕ
  pub rule : ℕ
  pub side : ℕ
  pub weight : Weight

abbrev pub numbers : Finding → Numbers
numbers f = record { row = f.row; rule = rule_number f.rule; side = side_number f.side; weight = f.weight }

-- The rule of a kind.
abbrev pub rule_of : Kind → Rule
rule_of UnadmittedEntry = rule.AdmittedLength
rule_of UnadmittedExit = rule.AdmittedLength
rule_of LongEntry = rule.LongestLength
rule_of LongExit = rule.LongestLength
rule_of UncalledEntry = rule.NoClothoids
rule_of UncalledExit = rule.NoClothoids
rule_of Unequal = rule.Symmetry
rule_of Disharmony = rule.Harmony
rule_of NoArc = rule.ArcLeft
rule_of TightRadius = rule.LeastRadius
rule_of NextRadius = rule.ConsecutiveRadii
rule_of ReturnRadius = rule.ConsecutiveRadii
rule_of SmallTurn = rule.SmallTurn
rule_of ShortRun = rule.ShortestRun
rule_of LongRun = rule.LongestRun
rule_of SlightTurn = rule.LeastTurn

-- The side that a kind names.
abbrev pub side_of : Kind → Side
side_of UnadmittedEntry = Entry
side_of UnadmittedExit = Exit
side_of LongEntry = Entry
side_of LongExit = Exit
side_of UncalledEntry = Entry
side_of UncalledExit = Exit
side_of Unequal = Whole
side_of Disharmony = Entry
side_of NoArc = Whole
side_of TightRadius = Whole
side_of NextRadius = Entry
side_of ReturnRadius = Exit
side_of SmallTurn = Whole
side_of ShortRun = Whole
side_of LongRun = Whole
side_of SlightTurn = Whole

-- The finding of a kind at row n.
abbrev pub finding_of : ℕ → Kind → Finding
finding_of n kind = record { row = n; rule = rule_of kind; side = side_of kind; weight = weight_of (rule_of kind) }

-- The rules give this finding: somewhere the rows read so that the kind's rule is broken, and the finding names that row.
pub record Found (road : Road) (admission : Admission) (rows : List Row) (f : Finding) : Type 0 where
  pub before : List Row
  pub this : Row
  pub after : List Row
  pub reads : rows ≡ before ++ this ∷ after
  pub kind : Kind
  pub is : f ≡ finding_of (length before) kind
  pub broken : Broken road admission kind before this after

-- The order of findings: by row, then rule, then side.
abbrev pub Earlier : Numbers → Numbers → Type 0
Earlier f g =
    (f.row < g.row)
    ⊎ ((f.row ≡ g.row) × ((f.rule < g.rule) ⊎ ((f.rule ≡ g.rule) × (f.side < g.side))))

-- f comes before g in that order.
abbrev pub Sooner : Finding → Finding → Type 0
Sooner f g = Earlier (numbers f) (numbers g)

-- f is one of the findings.
abbrev pub Among : Finding → List Finding → Type 0
Among f [] = ⊥
Among f (g ∷ gs) = (f ≡ g) ⊎ Among f gs

-- Each comes sooner than every later one, so none is there twice.
abbrev pub Ordered : List Finding → Type 0
Ordered [] = Unit {0}
Ordered (f ∷ fs) = ((g : Finding) → Among g fs → Sooner f g) × Ordered fs

-- The list of the findings: every one, in order, and nothing else.
pub record FindingsOf (road : Road) (admission : Admission) (rows : List Row) (fs : List Finding) : Type 0 where
  pub ordered : Ordered fs
  pub sound : (f : Finding) → Among f fs → Found road admission rows f
  pub complete : (f : Finding) → Found road admission rows f → Among f fs

-- There is one such list.
abbrev pub OneList : Type 0
OneList = (road : Road) (admission : Admission) (rows : List Row) (fs gs : List Finding) → FindingsOf road admission rows fs → FindingsOf road admission rows gs → fs ≡ gs

-- A check that is not refused: n is the number of the findings, and the memory has them at its front and, past them, what it held.
pub record Written (road : Road) (admission : Admission) (rows : List Row) (old new : List Finding) (n : ℕ) : Type 0 where
  pub list : List Finding
  pub findings : FindingsOf road admission rows list
  pub number : n ≡ length list
  pub memory : new ≡ list ++ drop n old

-- A check refuses more than 4,000 rows, and findings that outnumber the slots of the memory; then the memory stays.
abbrev pub Checked : Road → Admission → List Row → (old new : List Finding) → Result ℕ TooMany → Type 0
Checked road admission rows old new (Ok n) = (length rows ≤ 4_000) × Written road admission rows old new n
Checked road admission rows old new (Err Rows) = (4_000 < length rows) × (new ≡ old)
Checked road admission rows old new (Err Findings) =
    (length rows ≤ 4_000) × ((list : List Finding) × FindingsOf road admission rows list × (length old < length list)) × (new ≡ old)
