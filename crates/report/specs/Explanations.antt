-- Findings with what they speak of, a line each.
use Rattle.std.specs.Prelude.{◌≡◌, ℕ, ◌<◌, ◌≤◌, ◌⊎◌, List, [], ◌∷◌, ◌++◌, length, get_or, Option, None}
use Rattle.road.specs.declared.road.Road.{Road}
use Rattle.limits.specs.Admission.{In}
use Rattle.limits.specs.Least.{LeastOf}
use Rattle.rows.specs.declared.record.RowRecord.{RowRecord}
use Rattle.rows.specs.declared.row.Row.{Row}
use Rattle.rows.specs.declared.row.Row.TheVariants.{Straight, Curve}
use Rattle.rows.specs.Curves.{place_of}
use Rattle.rows.specs.Records.{row_of, blank_record}
use Rattle.findings.specs.declared.finding.Finding.{Finding}
use Rattle.findings.specs.declared.finding.Rule.{Rule}
use Rattle.findings.specs.declared.finding.Rule.TheVariants.{AdmittedLength, LongestLength}
use Rattle.choice.specs.InForce.{in_force}
use Rattle.choice.specs.declared.in_force.LimitsInForce.{LimitsInForce}
use Rattle.wording.specs.declared.explained.Explained.{Explained}
use Rattle.report.specs.Tables.{as_line}

-- The least length that is admitted for the clothoids of a row; a straight has none.
abbrev pub LeastOfRow : Road → LimitsInForce → Row → Option ℕ → Type 0
LeastOfRow road limits (Straight s) least = least ≡ None
LeastOfRow road limits (Curve c) least = LeastOf (In (in_force limits (place_of road c))) least

module _ (road : Road) (limits : LimitsInForce) (rows : List RowRecord) where
  -- The same of the row of a number, if there is one.
  abbrev pub LeastAt : ℕ → Option ℕ → Type 0
  LeastAt n least = ((n < length rows) × LeastOfRow road limits (row_of (get_or rows n blank_record)) least) ⊎ ((length rows ≤ n) × (least ≡ None))

  -- Rules 1 and 2 speak of the least length, and no other.
  abbrev pub LeastFor : Rule → ℕ → Option ℕ → Type 0
  LeastFor AdmittedLength n least = LeastAt n least
  LeastFor LongestLength n least = LeastAt n least
  LeastFor rule n least = least ≡ None

  -- A finding with what it speaks of.
  pub record ExplainedAs (f : Finding) (e : Explained) : Type 0 where
    pub its_finding : e.finding ≡ f
    pub its_road : e.road.now ≡ road
    pub its_rows : e.rows.now ≡ rows
    pub its_least : LeastFor f.rule f.row e.least

  -- Findings, a line each.
  abbrev pub LinesOf : (Explained → List ℕ) → List Finding → List ℕ → Type 0
  LinesOf shown [] text = text ≡ []
  LinesOf shown (f ∷ findings) text =
      (e : Explained) × (rest : List ℕ) × ExplainedAs f e × LinesOf shown findings rest × (text ≡ as_line (shown e) ++ rest)
