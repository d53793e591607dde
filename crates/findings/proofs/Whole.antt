-- Findings put into an empty roll are what a check writes.
use Rattle.std.proofs.Common.{◌≡◌, ℕ, ◌+◌, ◌*◌, ◌<◌, ◌≤◌, true, false, leb, List, [], ◌++◌, map, length, take, sym, ap, ◌∙◌, arith}
use Rattle.std.proofs.lemmas.List.{take-append-drop, length-map}
use Rattle.std.proofs.lemmas.Bool.{le-leb, leb-true, leb-false}
use Rattle.limits.specs.declared.place.Place.{Place}
use Rattle.limits.specs.Admission.{UpToLongest}
use Rattle.road.specs.declared.road.Road.{Road}
use Rattle.roll.specs.declared.Roll.{Roll}
use Rattle.roll.specs.Edits as roll
use Rattle.rows.specs.declared.record.RowRecord.{RowRecord}
use Rattle.rows.specs.declared.row.Row.{Row}
use Rattle.rows.specs.Records.{row_of}
use Rattle.findings.specs.declared.finding.Finding.{Finding}
use Rattle.findings.specs.Findings.{FindingsOf, Written}
use Rattle.findings.specs.Reports.{Put}
use Rattle.findings.specs.Rules.{Admission}
use Rattle.findings.specs.Walk.{nothing, listed}
use Rattle.findings.proofs.Listed.{listed_is}
use Rattle.findings.proofs.Steps.{listed_few}

module _ (road : Road) (admission : Admission) (records : List RowRecord) where
  abbrev rows : List Row
  rows = map row_of records

  abbrev all : List Finding
  all = listed road admission 0 nothing rows

  pub few_rows : length records ≤ 4_000 → length rows ≤ 4_000
  few_rows h = let e = length-map records row_of in omega arith

  pub many_rows : 4_000 < length records → 4_000 < length rows
  many_rows h = let e = length-map records row_of in omega arith

  -- there is a slot for one finding of each kind at each row
  pub room_for_all : (slots : ℕ) → 16 * length records ≤ slots → leb (16 * length records) slots ≡ leb (length all) slots
  room_for_all slots h =
      let few = listed_few road admission 0 nothing rows in
      let e = length-map records row_of in
      le-leb (16 * length records) slots h ∙ sym (le-leb (length all) slots (omega arith))

  -- what fits is not refused
  pub never_refused : (old : List Finding) (before : Roll Finding) → leb (length all) (length old) ≡ true → roll.memory before ≡ old
      → roll.number before ≡ 0 → length (roll.memory before) < roll.number before + length all → ⊥
  never_refused old before fit there none refused =
      let a = leb-true (length all) (length old) fit in
      let b = ap length there in
      omega arith

  module _ (lawful : (place : Place) → UpToLongest (admission place)) where
    pub too_many : (room : ℕ) → leb (length all) room ≡ false → (list : List Finding) × FindingsOf road admission rows list × (room < length list)
    too_many room e = (all, listed_is road admission lawful rows, leb-false (length all) room e)

    pub written : (old new : List Finding) (n : ℕ) (before after : Roll Finding) → new ≡ roll.memory after → roll.memory before ≡ old
        → roll.number before ≡ 0 → n ≡ roll.number after → Put before after all → Written road admission rows old new n
    written old new n before after here there none many put =
        let whole = take-append-drop (roll.number after) (roll.memory after) in
        let first : roll.entries_of before ≡ [] = ap (λ (k : ℕ). take k (roll.memory before)) none in
        let front : roll.entries_of after ≡ all = put.front ∙ ap (λ (xs : List Finding). xs ++ all) first in
        record {
          list = all;
          findings = listed_is road admission lawful rows;
          number = omega (arith, put.more);
          memory = cc (whole, front, put.rest);
        }
