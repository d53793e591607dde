-- Rows have least lengths, or a first row without any.
use Rattle.std.proofs.Common.{ℕ, ◌⊎◌, List, map, Some, None, Option, sym, subst, inl, inr}
use Rattle.road.specs.declared.road.Road.{Road}
use Rattle.limits.specs.declared.place.Place.{Place}
use Rattle.limits.specs.Admission.{UpToLongest}
use Rattle.rows.specs.declared.row.Row.{Row}
use Rattle.findings.specs.Rules.{Admission}
use Rattle.plain.specs.Lengths.{LeastLengths, NoLengths, FirstWithout}
use Rattle.fitting.specs.Demands.{demand}
use Rattle.fitting.proofs.Walk.{LeastWalk}
use Rattle.fitting.proofs.Walk.Link.{apart}
use Rattle.fitting.proofs.Fitting.{Decided, decided}
use Rattle.fitting.proofs.SubjectRows.{rows_given, carried_least, carried_refusal, carried_none}

module _ (road : Road) (admission : Admission) (lawful : (place : Place) → UpToLongest (admission place)) (rows : List Row) where
  abbrev pub Outcome : Type 0
  Outcome = ((fitted : List Row) × LeastLengths road admission rows fitted) ⊎ ((n : ℕ) × NoLengths road admission rows × FirstWithout road admission rows n)

  outcome_of : (o : Option ℕ) → Decided (map (demand road admission) rows) o → Outcome
  outcome_of None walk =
      let (fitted, alike, is) = rows_given road admission apart rows _ walk.keeps in
      inl (fitted, carried_least road admission lawful rows fitted alike (subst (LeastWalk (map (demand road admission) rows)) (sym is) walk))
  outcome_of (Some n) walk = inr (n, carried_none road admission lawful rows n walk, carried_refusal road admission lawful rows n walk)

  pub outcome : Outcome
  outcome = outcome_of _ (decided (map (demand road admission) rows))
