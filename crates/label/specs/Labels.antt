-- What the label of a curve holds.
use Rattle.std.specs.Prelude.{◌≡◌, ℕ, Some, None, Ok, Err, Option, Result}
use Rattle.roots.specs.Roots.{Parameter}
use Rattle.road.specs.declared.refusal.Refusal.{Refusal}
use Rattle.road.specs.declared.road.Road.{Road}
use Rattle.road.specs.Refusals.{Clear, Refused}
use Rattle.limits.specs.declared.place.Place.{Place}
use Rattle.limits.specs.Admission.{In}
use Rattle.limits.specs.Least.{LeastOf}
use Rattle.limits.specs.Places.{place_grounds, PlaceOf}
use Rattle.norma.specs.Formulas.{comfort, transition, azimuth, shift, fifth_of_turn, compulsory}
use Rattle.label.specs.declared.Label.{Label}

-- The parameter at a length; there is one exactly where there is a length.
abbrev pub ParameterOf : ℕ → Option ℕ → Option ℕ → Type 0
ParameterOf radius (Some length) (Some parameter) = Parameter radius length parameter
ParameterOf radius (Some length) None = ⊥
ParameterOf radius None (Some parameter) = ⊥
ParameterOf radius None None = Unit {0}

-- The superelevation of a place, the least length there under each limit and under the compulsory pile, and the parameter at the last.
pub record LabelAt (place : Place) (label : Label) : Type 0 where
  pub banked : label.superelevation ≡ place.superelevation
  pub by_comfort : LeastOf (In (comfort place)) label.comfort
  pub by_transition : LeastOf (In (transition place)) label.transition
  pub by_azimuth : LeastOf (In (azimuth place)) label.azimuth
  pub by_shift : LeastOf (In (shift place)) label.shift
  pub by_fifth : LeastOf (In (fifth_of_turn place)) label.fifth
  pub by_compulsory : LeastOf (In (compulsory place)) label.least
  pub parameter : ParameterOf place.radius label.least label.parameter

-- The label of the place of a radius and a turn that are both in range; of others, the first ground that applies is the refusal, and it names no row.
abbrev pub Labelled : Road → (radius turn : ℕ) → Result Label Refusal → Type 0
Labelled road radius turn (Ok label) = Clear (place_grounds radius turn) × ((place : Place) × PlaceOf road radius turn place × LabelAt place label)
Labelled road radius turn (Err refusal) = Refused (place_grounds radius turn) 0 refusal
