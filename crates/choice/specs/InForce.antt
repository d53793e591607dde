-- The lengths that the limits in force admit: where none were named, what the compulsory pile admits, and otherwise what all that were named admit.
use Rattle.std.specs.Prelude.{ℕ, Bool, vec_items}
use Rattle.limits.specs.declared.place.Place.{Place}
use Rattle.limits.specs.Admission.{UpToLongest, both}
use Rattle.limits.specs.All.{all_of, all_lawful}
use Rattle.limits.specs.Lawful.{both_lawful}
use Rattle.norma.specs.Formulas.{comfort, transition, azimuth, shift, compulsory}
use Rattle.norma.specs.Lawful.{comfort_lawful, transition_lawful, azimuth_lawful, shift_lawful}
use Rattle.choice.specs.Chosen.{chosen, chosen_lawful}
use Rattle.choice.specs.declared.in_force.LimitsInForce.{LimitsInForce}
use Rattle.choice.specs.declared.in_force.LimitsInForce.TheVariants.{Compulsory, Named}

abbrev pub in_force : LimitsInForce → Place → ℕ → Bool
in_force Compulsory place = compulsory place
in_force (Named limits) place = all_of (λ limit. chosen limit place) (vec_items limits)

pub compulsory_lawful : (place : Place) → UpToLongest (compulsory place)
compulsory_lawful place =
    both_lawful (comfort place) (both (transition place) (both (azimuth place) (shift place))) (comfort_lawful place)
    (both_lawful (transition place) (both (azimuth place) (shift place)) (transition_lawful place)
    (both_lawful (azimuth place) (shift place) (azimuth_lawful place) (shift_lawful place)))

pub in_force_lawful : (limits : LimitsInForce) (place : Place) → UpToLongest (in_force limits place)
in_force_lawful Compulsory place = compulsory_lawful place
in_force_lawful (Named limits) place = all_lawful (λ limit. chosen_lawful limit place) (vec_items limits)
