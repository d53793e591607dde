-- What the passes leave in the records is what fitting answers.
use Rattle.std.proofs.Common.{◌≡◌, ℕ, List, [], ◌∷◌, map, Ok, Err, Some, None, Option, refl, sym, ap, subst, ◌∙◌}
use Rattle.limits.specs.declared.place.Place.{Place}
use Rattle.limits.specs.Admission.{UpToLongest}
use Rattle.road.specs.declared.road.Road.{Road}
use Rattle.rows.specs.declared.record.RowRecord.{RowRecord}
use Rattle.rows.specs.declared.row.Row.{Row}
use Rattle.rows.specs.declared.row.Row.TheVariants as row
use Rattle.rows.specs.declared.row.Straight.{Straight}
use Rattle.rows.specs.Records.{row_of}
use Rattle.findings.specs.Rules.{Admission}
use Rattle.fitting.specs.declared.reach.Reach.TheVariants as reach
use Rattle.fitting.specs.Fits.{OnlyCurves, Fits}
use Rattle.fitting.specs.Passes.{decide, started, pushed, fitted, body_by, body, demands, all_lengths}
use Rattle.fitting.proofs.Walk.{LeastWalk}
use Rattle.fitting.proofs.Fitting.{Decided, decided}
use Rattle.fitting.proofs.InPlace.{alike_bodies, demands_same}
use Rattle.fitting.proofs.Loops.{fitted_is}
use Rattle.fitting.proofs.SubjectRows.{carried_least, carried_refusal, carried_none}

-- where the bodies are as they were, only curves were written
only_row : (x y : RowRecord) (p q : Row) → body_by y q ≡ body_by x p → (s : Straight) → p ≡ row.Straight s → y ≡ x
only_row x y (row.Straight s) (row.Straight t) e u is = cc
only_row x y (row.Straight s) (row.Curve d) e u is = cc
only_row x y (row.Curve c) q e u is = cc

only_curves : (before after : List RowRecord) → map body after ≡ map body before → OnlyCurves before after
only_curves [] [] e = tt
only_curves [] (y ∷ ys) e = cc
only_curves (x ∷ xs) [] e = cc
only_curves (x ∷ xs) (y ∷ ys) e =
    let h : body y ≡ body x = cc in
    let t : map body ys ≡ map body xs = cc in
    (only_row x y (row_of x) (row_of y) h, only_curves xs ys t)

module _ (road : Road) (admission : Admission) (lawful : (place : Place) → UpToLongest (admission place)) where
  answered : (before : List RowRecord) (o : Option ℕ) → o ≡ decide 0 reach.Free (demands road admission before) → Decided (demands road admission before) o
  answered before o is = subst (Decided (demands road admission before)) (sym is) (decided (demands road admission before))

  pub fits_none : (before : List RowRecord) (n : ℕ) → Some n ≡ decide 0 reach.Free (demands road admission before) → Fits road admission before before (Err n)
  fits_none before n is =
      let first = answered before (Some n) is in
      (carried_none road admission lawful (map row_of before) n first, carried_refusal road admission lawful (map row_of before) n first, refl)

  pub fits_all : (before middle after : List RowRecord) → None ≡ decide 0 reach.Free (demands road admission before) → map body middle ≡ map body before
      → all_lengths middle ≡ started 0 (demands road admission before) → map body after ≡ map body middle
      → all_lengths after ≡ pushed (demands road admission middle) (all_lengths middle) → Fits road admission before after (Ok tt)
  fits_all before middle after is first start second push =
      let same = second ∙ first in
      let given : all_lengths after ≡ fitted 0 (demands road admission before)
      = push ∙ ap (λ t. pushed t (all_lengths middle)) (demands_same road admission middle before first) ∙ ap (pushed (demands road admission before)) start
      ∙ fitted_is 0 (demands road admission before) in (
        carried_least road admission lawful (map row_of before) (map row_of after) (alike_bodies after before same)
            (subst (LeastWalk (demands road admission before)) (sym given) (answered before None is)),
        only_curves before after same,
      )
