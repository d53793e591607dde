-- Which of the limits in force governs a place.
use Rattle.std.specs.Prelude.{◌≡◌, ℕ, ◌-◌, ◌<◌, ◌≤◌, Bool, List, [], ◌∷◌, length, get_or, vec_items, Some, None, Option}
use Rattle.limit_names.specs.declared.LimitName.{LimitName}
use Rattle.limit_names.specs.declared.LimitName.TheVariants as names
use Rattle.limits.specs.declared.place.Place.{Place}
use Rattle.limits.specs.Admission.{In}
use Rattle.limits.specs.Least.{LeastOf}
use Rattle.choice.specs.Chosen.{chosen}
use Rattle.choice.specs.declared.ChosenLimit.{ChosenLimit}
use Rattle.choice.specs.declared.ChosenLimit.TheVariants.{Comfort, Transition, Azimuth, Shift, FifthOfTurn, Table}
use Rattle.choice.specs.declared.governor.Governing.{Governing}
use Rattle.choice.specs.declared.in_force.LimitsInForce.{LimitsInForce}
use Rattle.choice.specs.declared.in_force.LimitsInForce.TheVariants.{Compulsory, Named}

abbrev pub name_of : ChosenLimit → LimitName
name_of Comfort = names.Comfort
name_of Transition = names.Transition
name_of Azimuth = names.Azimuth
name_of Shift = names.Shift
name_of FifthOfTurn = names.Fifth
name_of (Table bytes) = names.Table

-- The limits in force, one by one.
abbrev pub limits_of : LimitsInForce → List ChosenLimit
limits_of Compulsory = Comfort ∷ Transition ∷ Azimuth ∷ Shift ∷ []
limits_of (Named limits) = vec_items limits

-- A limit of the list governs where its least length is that of the set that all together admit, and it is the first such limit. Where it admits no
-- length, neither do all together.
pub record Governs (together : ℕ → Bool) (limits : List ChosenLimit) (place : Place) (g : Governing) : Type 0 where
  pub within : (1 ≤ g.number) × (g.number ≤ length limits)
  pub name : g.name ≡ name_of (get_or limits (g.number - 1) Comfort)
  pub own : LeastOf (In (chosen (get_or limits (g.number - 1) Comfort) place)) g.least
  pub whole : LeastOf (In together) g.least
  pub first : (i : ℕ) → i < g.number - 1 → LeastOf (In (chosen (get_or limits i Comfort) place)) g.least → ⊥

-- No limit governs where there is none.
abbrev pub Governed : (together : ℕ → Bool) → List ChosenLimit → Place → Option Governing → Type 0
Governed together limits place (Some g) = Governs together limits place g
Governed together limits place None = limits ≡ []
