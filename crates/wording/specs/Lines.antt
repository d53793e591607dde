-- A whole finding as it is shown: a line of a check, and what a report says of it.
use Rattle.std.specs.Prelude.{ℕ, List, ◌++◌, codes, decimal}
use Rattle.findings.specs.Findings.{rule_number}
use Rattle.findings.specs.Words.{side_word, weight_word}
use Rattle.units.specs.declared.Scale.TheVariants.{Millimetres, Metres}
use Rattle.wording.specs.declared.explained.Explained.{Explained}
use Rattle.wording.specs.Reasons.{reason_of}
use Rattle.wording.specs.Sentences.{sentence_text}

-- In mm and ten-thousandths of a gon.
abbrev pub explained_text : Explained → List ℕ
explained_text e =
    codes "finding " ++ (decimal e.finding.row ++ (codes " " ++ (decimal (rule_number e.finding.rule) ++ (codes " " ++ (
    side_word e.finding.side ++ (codes " " ++ (weight_word e.finding.weight ++ (codes ": " ++ sentence_text Millimetres (reason_of e)))))))))

-- In metres and gon.
abbrev pub line_in_metres : Explained → List ℕ
line_in_metres e = sentence_text Metres (reason_of e)
