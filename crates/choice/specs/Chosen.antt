-- The lengths that a chosen limit admits: the Norma's limit of that name, or the client's table of the whole entries of those bytes.
use Rattle.std.specs.Prelude.{ℕ, Bool, vec_items}
use Rattle.limits.specs.declared.place.Place.{Place}
use Rattle.limits.specs.Admission.{UpToLongest}
use Rattle.norma.specs.Formulas.{comfort, transition, azimuth, shift, fifth_of_turn}
use Rattle.norma.specs.Lawful.{comfort_lawful, transition_lawful, azimuth_lawful, shift_lawful, fifth_lawful}
use Rattle.client_table.specs.Tables.{whole_entries, table}
use Rattle.client_table.specs.Lawful.{table_lawful}
use Rattle.choice.specs.declared.ChosenLimit.{ChosenLimit}
use Rattle.choice.specs.declared.ChosenLimit.TheVariants.{Comfort, Transition, Azimuth, Shift, FifthOfTurn, Table}

abbrev pub chosen : ChosenLimit → Place → ℕ → Bool
chosen Comfort = comfort
chosen Transition = transition
chosen Azimuth = azimuth
chosen Shift = shift
chosen FifthOfTurn = fifth_of_turn
chosen (Table bytes) = table (whole_entries (vec_items bytes))

pub chosen_lawful : (limit : ChosenLimit) (place : Place) → UpToLongest (chosen limit place)
chosen_lawful Comfort = comfort_lawful
chosen_lawful Transition = transition_lawful
chosen_lawful Azimuth = azimuth_lawful
chosen_lawful Shift = shift_lawful
chosen_lawful FifthOfTurn = fifth_lawful
chosen_lawful (Table bytes) = table_lawful (whole_entries (vec_items bytes))
