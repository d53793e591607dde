-- The plain sheet, and the one relation that every call of a sheet keeps: the sheet before, the call with its operands, its limit's meaning
-- and how many rows and findings its memories can hold; the answer; the sheet after.
use Rattle.std.specs.Prelude.{◌≡◌, ℕ, ◌<◌, ◌≤◌, Bool, ◌⊎◌, List, [], ◌∷◌, length, slice_index_or, slice_set}
use Rattle.std.specs.List.{insert, remove}
use Rattle.roots.specs.Roots.{Parameter}
use Rattle.road.specs.declared.road.Road.{Road}
use Rattle.road.specs.Openings.{Outside}
use Rattle.road.specs.Refusals.{Ground, ground, FirstApplying, Clear}
use Rattle.limits.specs.declared.place.Place.{Place}
use Rattle.limits.specs.Admission.{UpToLongest}
use Rattle.rows.specs.Ends.{length_at}
use Rattle.rows.specs.declared.end.End.{End}
use Rattle.rows.specs.declared.row.Curve.{Curve}
use Rattle.rows.specs.declared.row.Row.{Row}
use Rattle.rows.specs.declared.row.Row.TheVariants as row
use Rattle.rows.specs.declared.row.Straight.{Straight}
use Rattle.findings.specs.declared.finding.Finding.{Finding}
use Rattle.findings.specs.Findings.{FindingsOf}
use Rattle.plain.specs.declared.NewRow.{NewRow}
use Rattle.plain.specs.declared.NewRow.TheVariants as new
use Rattle.plain.specs.Lengths.{LeastLengths, NoLengths, FirstWithout}

-- A sheet's mark says which calls it has: a draft may be edited and fitted; a fitted sheet, as a fit left it, may be asked for parameters and reopened.
pub data Mark : Type 0 where
  draft : Mark
  fitted : Mark

-- The plain sheet is a sheet as the rules see it, whatever memory its rows lie in: a road, the rows with their lengths, and a mark.
pub record Plain : Type 0 where
  pub road : Road
  pub rows : List Row
  pub mark : Mark

-- A sheet just opened.
abbrev pub opened : Road → Plain
opened road = record { road = road; rows = []; mark = draft }

-- What a limit means: at each place a set of admitted lengths, which holds with a length every longer one up to the longest.
pub record Meaning : Type 0 where
  pub admits : Place → ℕ → Bool
  pub lawful : (place : Place) → UpToLongest (admits place)

-- What the limits of a type mean, by its ghost members `admitted` and `lawful`.
abbrev pub meaning : {L : Type 0} (admitted : L → Place → ℕ → Bool) → ((limit : L) (place : Place) → UpToLongest (admitted limit place)) → L → Meaning
meaning admitted lawful limit = record { admits = admitted limit; lawful = lawful limit }

-- The calls after opening, with their operands; a row is named by its position in the list, from 0 on. Checking also has how many findings its memory can hold.
pub data Call : Type 0 where
  add : (position : ℕ) (row : NewRow) → Call
  take_out : (row : ℕ) → Call
  set_lengths : (row entry exit : ℕ) → Call
  check : (limit : Meaning) (space : ℕ) → Call
  fit : (limit : Meaning) → Call
  parameter : (row : ℕ) (at : End) → Call
  reopen : Call

pub data Answer : Type 0 where
  -- the call was carried out
  done : Answer
  -- the findings of a check, and how many they are
  found : (number : ℕ) (findings : List Finding) → Answer
  -- a parameter, mm
  value : ℕ → Answer
  -- one of the twelve refusals, with the row that it names
  refused : (number row : ℕ) → Answer
  -- barred: a sheet of this mark does not have the call; this is no refusal, and names no row
  barred : Answer

-- The answers of a call that was not carried out.
abbrev pub Stopped : Answer → Type 0
Stopped done = ⊥
Stopped (found number findings) = ⊥
Stopped (value A) = ⊥
Stopped (refused number row) = Unit {0}
Stopped barred = Unit {0}

-- A sheet of this mark has the call.
abbrev pub Allowed : Mark → Call → Type 0
Allowed draft (add position row) = Unit {0}
Allowed draft (take_out row) = Unit {0}
Allowed draft (set_lengths row entry exit) = Unit {0}
Allowed draft (check limit space) = Unit {0}
Allowed draft (fit limit) = Unit {0}
Allowed draft (parameter row at) = ⊥
Allowed draft reopen = ⊥
Allowed fitted (add position row) = ⊥
Allowed fitted (take_out row) = ⊥
Allowed fitted (set_lengths row entry exit) = ⊥
Allowed fitted (check limit space) = Unit {0}
Allowed fitted (fit limit) = ⊥
Allowed fitted (parameter row at) = Unit {0}
Allowed fitted reopen = Unit {0}

-- The row that a call names, 0 where it names none.
abbrev pub named : Call → ℕ
named (add position row) = position
named (take_out row) = row
named (set_lengths row entry exit) = row
named (check limit space) = 0
named (fit limit) = 0
named (parameter row at) = row
named reopen = 0

-- The row at position n of the rows, counted from 0, is r.
pub record RowAt (rows : List Row) (n : ℕ) (r : Row) : Type 0 where
  pub within : n < length rows
  pub is : r ≡ slice_index_or rows n r

-- The row at position n is a straight.
abbrev pub StraightAt : List Row → ℕ → Type 0
StraightAt rows n = (s : Straight) × RowAt rows n (row.Straight s)

-- The grounds for refusing the numbers of a row to be added.
abbrev pub number_grounds : NewRow → List Ground → List Ground
number_grounds (new.Straight length) others = ground 3 (Outside 1 20_000_000 length) ∷ others
number_grounds (new.Curve sense radius turn) others = ground 4 (Outside 1_000 10_000_000 radius) ∷ ground 5 (Outside 1 2_000_000 turn) ∷ others

-- The grounds for refusing another row, before the row at that position, whatever its numbers.
abbrev pub room_grounds : (room count position : ℕ) → List Ground
room_grounds room count position =
    ground 7 (room < count) ∷ ground 8 (count < position) ∷ ground 10 ((4_000 ≤ count) ⊎ (room ≤ count)) ∷ []

-- The grounds for refusing a call, by their numbers, on a sheet of `count` rows whose memory can hold `room`.
-- Number 12 belongs to what fitting does, since it names a row of its own.
abbrev pub grounds : (room count : ℕ) → Plain → Call → List Ground
grounds room count s (add position row) = number_grounds row (room_grounds room count position)
grounds room count s (take_out row) = ground 7 (room < count) ∷ ground 8 (count ≤ row) ∷ []
grounds room count s (set_lengths row entry exit) =
    ground 6 ((2_000_000 < entry) ⊎ (2_000_000 < exit)) ∷ ground 7 (room < count) ∷ ground 8 (count ≤ row) ∷ ground 9 (StraightAt s.rows row) ∷ []
grounds room count s (check limit space) =
    ground 7 (room < count)
    ∷ ground 10 ((findings : List Finding) × FindingsOf s.road limit.admits s.rows findings × (space < length findings))
    ∷ []
grounds room count s (fit limit) = ground 7 (room < count) ∷ ground 11 (count ≡ 0) ∷ []
grounds room count s (parameter row at) = ground 7 (room < count) ∷ ground 8 (count ≤ row) ∷ ground 9 (StraightAt s.rows row) ∷ []
grounds room count s reopen = []

-- The row that is added: these numbers, and no clothoids yet.
abbrev pub Given : NewRow → Row → Type 0
Given (new.Straight length) (row.Straight s) = s.length ≡ length
Given (new.Straight length) (row.Curve c) = ⊥
Given (new.Curve sense radius turn) (row.Straight s) = ⊥
Given (new.Curve sense radius turn) (row.Curve c) =
    (c.sense ≡ sense) × (c.radius ≡ radius) × (c.turn ≡ turn) × (c.entry ≡ 0) × (c.exit ≡ 0)

-- The curve with these lengths in place of its own.
pub record WithLengths (c : Curve) (entry exit : ℕ) (d : Curve) : Type 0 where
  pub sense : d.sense ≡ c.sense
  pub radius : d.radius ≡ c.radius
  pub turn : d.turn ≡ c.turn
  pub entry_is : d.entry ≡ entry
  pub exit_is : d.exit ≡ exit

abbrev pub with_rows : Plain → List Row → Plain
with_rows s rows = record { road = s.road; rows = rows; mark = s.mark }

abbrev pub marked : Mark → Plain → Plain
marked mark s = record { road = s.road; rows = s.rows; mark = mark }

-- What a call does and answers where none of its grounds applies. Fitting alone may then still be refused: by number 12, which names a row of its own.
abbrev pub Effect : Plain → Call → Answer → Plain → Type 0
Effect s (add position given) a s' = (a ≡ done) × ((r : Row) × Given given r × (s' ≡ with_rows s (insert s.rows position r)))
Effect s (take_out n) a s' = (a ≡ done) × (s' ≡ with_rows s (remove s.rows n))
Effect s (set_lengths n entry exit) a s' =
    (a ≡ done) × ((c d : Curve) × RowAt s.rows n (row.Curve c) × WithLengths c entry exit d × (s' ≡ with_rows s (slice_set s.rows n (row.Curve d))))
Effect s (check limit space) a s' = (findings : List Finding) × FindingsOf s.road limit.admits s.rows findings × (a ≡ found (length findings) findings) × (s' ≡ s)
Effect s (fit limit) a s' =
    ((a ≡ done) × ((rows : List Row) × LeastLengths s.road limit.admits s.rows rows × (s' ≡ marked fitted (with_rows s rows))))
    ⊎ ((n : ℕ) × NoLengths s.road limit.admits s.rows × FirstWithout s.road limit.admits s.rows n × (a ≡ refused 12 n) × (s' ≡ s))
Effect s (parameter n at) a s' = (c : Curve) × (A : ℕ) × RowAt s.rows n (row.Curve c) × Parameter c.radius (length_at at c) A × (a ≡ value A) × (s' ≡ s)
Effect s reopen a s' = (a ≡ done) × (s' ≡ marked draft s)

-- One call on a sheet of `count` rows: barred, refused, both with nothing changed, or carried out.
pub data StepAt (room count : ℕ) (s : Plain) (c : Call) (a : Answer) (s' : Plain) : Type 0 where
  barring : (Allowed s.mark c → ⊥) → a ≡ barred → s' ≡ s → StepAt room count s c a s'
  refusing : Allowed s.mark c → (number : ℕ) → FirstApplying (grounds room count s c) number → a ≡ refused number (named c) → s' ≡ s → StepAt room count s c a s'
  carrying : Allowed s.mark c → Clear (grounds room count s c) → Effect s c a s' → StepAt room count s c a s'

-- One call on the plain sheet, with row memory that can hold `room` rows.
abbrev pub Step : (room : ℕ) → Plain → Call → Answer → Plain → Type 0
Step room s c a s' = StepAt room (length s.rows) s c a s'
