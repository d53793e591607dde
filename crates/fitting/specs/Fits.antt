-- What fitting answers, and what the records then hold.
use Rattle.std.specs.Prelude.{◌≡◌, ℕ, List, map, Ok, Err, Result}
use Rattle.std.specs.List.{AllZip}
use Rattle.road.specs.declared.road.Road.{Road}
use Rattle.rows.specs.declared.record.RowRecord.{RowRecord}
use Rattle.rows.specs.declared.row.Row.TheVariants as row
use Rattle.rows.specs.declared.row.Straight.{Straight}
use Rattle.rows.specs.Records.{row_of}
use Rattle.findings.specs.Rules.{Admission}
use Rattle.plain.specs.Lengths.{LeastLengths, NoLengths, FirstWithout}

-- Only curves are written: where a record reads as a straight, it stays.
abbrev pub OnlyCurves : (before after : List RowRecord) → Type 0
OnlyCurves = AllZip (λ r t. (s : Straight) → row_of r ≡ row.Straight s → t ≡ r)

-- The curves get the least lengths that keep the rules; or no lengths keep them, the answer names the first row without any, and nothing changes.
abbrev pub Fits : Road → Admission → List RowRecord → List RowRecord → Result (Unit {0}) ℕ → Type 0
Fits road admission before after (Ok done) = LeastLengths road admission (map row_of before) (map row_of after) × OnlyCurves before after
Fits road admission before after (Err n) =
    NoLengths road admission (map row_of before) × FirstWithout road admission (map row_of before) n × (after ≡ before)
