-- The parameter of a row of the first rows is the plain sheet's.
use Rattle.std.proofs.Common.{◌≡◌, ℕ, ◌<◌, ◌≤◌, List, [], ◌∷◌, length, Err, get_or, refl, inl, inr, arith}
use Rattle.roots.specs.Roots.{Parameter}
use Rattle.road.specs.declared.road.Road.{Road}
use Rattle.road.specs.declared.refusal.Refusal.{Refusal}
use Rattle.road.specs.Refusals.{ground, number_of}
use Rattle.rows.specs.Ends.{length_at}
use Rattle.rows.specs.Records.{row_of, rows_of}
use Rattle.rows.specs.declared.end.End.{End}
use Rattle.rows.specs.declared.record.RowRecord.{RowRecord}
use Rattle.rows.specs.declared.row.Curve.{Curve}
use Rattle.rows.specs.declared.row.Row.TheVariants as row
use Rattle.rows.specs.declared.row.Straight.{Straight}
use Rattle.plain.specs.Sheet.{fitted, StraightAt, parameter, value, refused}
use Rattle.sheet.specs.States.{State, refusal, Performs, RecordAt}
use Rattle.sheet.proofs.Keeps.{halted, looked, more_grounds, row_at, never_both}

module _ (road : Road) (count : ℕ) (memory : List RowRecord) (n : ℕ) (at : End) where
  abbrev here : State
  here = record { mark = fitted; road = road; count = count; memory = memory }

  -- there is no record of that row
  pub unrecorded : (e : Refusal) → RecordAt memory count n (Err e) → Performs here (parameter n at) (refusal e) here
  unrecorded e why =
      let later = more_grounds (ground 7 (length memory < count) ∷ ground 8 (count ≤ n) ∷ []) (ground 9 (StraightAt (rows_of memory count) n) ∷ []) (number_of e) why.smallest in
      rw why.names (halted here (parameter n at) (number_of e) tt later)

  -- a straight has no parameter
  pub straight : (s : Straight) (d : RowRecord) → count ≤ length memory → n < count → row.Straight s ≡ row_of (get_or memory n d) → Performs here (parameter n at) (refused 9 n) here
  straight s d fits within reads =
      halted here (parameter n at) 9 tt
      (inr (λ short. omega arith, inr (λ beyond. omega arith, inl ((s, row_at memory count n (row.Straight s) d fits within reads), refl))))

  -- a curve's parameter
  pub curve : (c : Curve) (A : ℕ) (d : RowRecord) → count ≤ length memory → n < count → row.Curve c ≡ row_of (get_or memory n d) → Parameter c.radius (length_at at c) A → Performs here (parameter n at) (value A) here
  curve c A d fits within reads is =
      let stands = row_at memory count n (row.Curve c) d fits within reads in
      looked here (parameter n at) (value A) tt
      (λ short. omega arith, (λ beyond. omega arith, (λ other. never_both _ n c other.0 stands other.1, tt)))
      (c, A, stands, is, refl, refl) refl
