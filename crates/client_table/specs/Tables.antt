-- The lengths that a client's table admits.
use Rattle.std.specs.Prelude.{◌≡◌, Bool, true, cond, List, [], ℕ, ◌+◌, ◌*◌, ◌/◌, ◌<◌, ◌≤◌, leb, length as count, take, drop, get_or, Decides}
use Rattle.std.specs.List.{All, list_all}
use Rattle.std.specs.Simd.{first_chunks}
use Rattle.limits.specs.declared.place.Place.{Place}
use Rattle.limits.specs.Admission.{up_to_longest}
use Rattle.client_table.specs.declared.entry.Entry.{Entry}

-- The whole entries of a file's bytes, twelve bytes each, in order. A last entry cut short does not count.
abbrev pub whole_entries : List ℕ → List (List ℕ)
whole_entries bytes = first_chunks 12 (count bytes / 12) bytes

-- The same by positions, from 0: entry `index` is bytes 12 index to 12 index + 11, for as many entries as stand whole in the bytes.
pub record WholeEntries (bytes : List ℕ) (entries : List (List ℕ)) : Type 0 where
  pub many : count entries ≡ count bytes / 12
  pub each : (index : ℕ) → index < count entries → get_or entries index [] ≡ take 12 (drop (12 * index) bytes)

-- The number that the four bytes from place `at` on are, high byte first.
abbrev pub number_at : List ℕ → ℕ → ℕ
number_at entry at = get_or entry at 0 * 16_777_216 + get_or entry (at + 1) 0 * 65_536 + get_or entry (at + 2) 0 * 256 + get_or entry (at + 3) 0

-- An entry read from its twelve bytes: a first radius, a last radius and a least length.
abbrev pub read : List ℕ → Entry
read entry = record { first_radius = number_at entry 0; last_radius = number_at entry 4; least_length = number_at entry 8 }

-- At a radius that the entry has, the length is at least the entry's: as a test, and as a fact.
abbrev pub allows : Entry → (radius length : ℕ) → Bool
allows entry radius length =
    cond (leb entry.first_radius radius) (cond (leb radius entry.last_radius) (leb entry.least_length length) true) true

abbrev pub Allows : Entry → (radius length : ℕ) → Type 0
Allows entry radius length = entry.first_radius ≤ radius → radius ≤ entry.last_radius → entry.least_length ≤ length

-- Each entry allows the length: as a test, and as a fact.
abbrev pub each_allows : List (List ℕ) → (radius length : ℕ) → Bool
each_allows entries radius length = list_all (λ entry. allows (read entry) radius length) entries

abbrev pub EachAllows : List (List ℕ) → (radius length : ℕ) → Type 0
EachAllows entries radius length = All (λ entry. Allows (read entry) radius length) entries

-- The table admits the lengths up to the longest that each entry allows.
abbrev pub table : List (List ℕ) → Place → ℕ → Bool
table entries place = up_to_longest (each_allows entries place.radius)

-- The same of an answer: it is yes for these lengths, and only for them.
abbrev pub ByEntries : List (List ℕ) → Place → (length : ℕ) → Bool → Type 0
ByEntries entries place length answer = Decides answer ((length ≤ 2_000_000) × EachAllows entries place.radius length)

-- The least length that the entry lets a curve of that radius have. Only a private contract cites this.
abbrev pub wanted : Entry → (radius : ℕ) → ℕ
wanted entry radius = cond (leb entry.first_radius radius) (cond (leb radius entry.last_radius) entry.least_length 0) 0
