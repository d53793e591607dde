-- The words that name limits.
use Rattle.std.specs.Prelude.{◌≡◌, ℕ, List, [], ◌∷◌, codes}
use Rattle.limit_names.specs.declared.LimitName.{LimitName}
use Rattle.limit_names.specs.declared.LimitName.TheVariants.{Comfort, Transition, Azimuth, Shift, Fifth, Table}

-- the limits, in the order in which a message lists them
abbrev pub limits : List LimitName
limits = Comfort ∷ Transition ∷ Azimuth ∷ Shift ∷ Fifth ∷ Table ∷ []

abbrev pub limit_word : LimitName → List ℕ
limit_word Comfort = codes "comfort"
limit_word Transition = codes "transition"
limit_word Azimuth = codes "azimuth"
limit_word Shift = codes "shift"
limit_word Fifth = codes "fifth"
limit_word Table = codes "table"

-- w is the name of a limit
abbrev pub ALimit : List ℕ → Type 0
ALimit w = (name : LimitName) × (w ≡ limit_word name)
