-- The findings below the table.
use Rattle.std.specs.Prelude.{◌≡◌, ℕ, List, ◌++◌, length, codes, decimal}
use Rattle.road.specs.declared.road.Road.{Road}
use Rattle.rows.specs.declared.record.RowRecord.{RowRecord}
use Rattle.findings.specs.declared.finding.Finding.{Finding}
use Rattle.findings.specs.Findings.{rule_number}
use Rattle.findings.specs.Words.{weight_word}
use Rattle.choice.specs.declared.in_force.LimitsInForce.{LimitsInForce}
use Rattle.wording.specs.declared.explained.Explained.{Explained}
use Rattle.wording.specs.Lines.{line_in_metres}
use Rattle.report.specs.Headings.{counted_text}
use Rattle.report.specs.Tables.{as_line}
use Rattle.report.specs.Explanations.{LinesOf}

abbrev pub finding_line : Explained → List ℕ
finding_line e =
    codes "row " ++ (decimal e.finding.row ++ (codes ", rule " ++ (decimal (rule_number e.finding.rule) ++ (
    codes ", " ++ (weight_word e.finding.weight ++ (codes ": " ++ line_in_metres e))))))

-- How many findings there are, and then a line for each.
abbrev pub FindingsBelow : Road → LimitsInForce → List RowRecord → List Finding → List ℕ → Type 0
FindingsBelow road limits rows findings text =
    (lines : List ℕ) × LinesOf road limits rows finding_line findings lines × (text ≡ as_line (counted_text (length findings) (codes "finding")) ++ lines)
