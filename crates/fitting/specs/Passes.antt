-- The passes of fitting, as functions of what the rows ask. Only private contracts cite this; proofs/ tie it to the rules.
use Rattle.std.specs.Prelude.{◌≡◌, ℕ, ◌+◌, ◌-◌, ◌/◌, ◌<◌, max, min, Bool, true, false, cond, ◌&&◌, nat_le, List, [], ◌∷◌, length, get_or, slice_index, map, Some, None, Option}
use Rattle.rows.specs.declared.record.RowRecord.{RowRecord}
use Rattle.rows.specs.declared.row.Row.{Row}
use Rattle.rows.specs.declared.row.Row.TheVariants as row
use Rattle.rows.specs.declared.row.Sense.{Sense}
use Rattle.rows.specs.Records.{row_of}
use Rattle.road.specs.declared.road.Road.{Road}
use Rattle.figures.specs.Lengths.{longest_length_lem, least_beside_lem, longest_beside_lem}
use Rattle.findings.specs.Rules.{Admission}
use Rattle.fitting.specs.Demands.{demand, lengths}
use Rattle.fitting.specs.declared.demand.Bounds.{Bounds}
use Rattle.fitting.specs.declared.demand.Demand.{Demand}
use Rattle.fitting.specs.declared.demand.Demand.TheVariants.{Free, Called}
use Rattle.fitting.specs.declared.demand.Lengths.{Lengths}
use Rattle.fitting.specs.declared.reach.Reach.{Reach}
use Rattle.fitting.specs.declared.reach.Reach.TheVariants as reach

-- The lengths of a place, from low to high; none where low is above high.
abbrev pub low_lem : Option ℕ → ℕ
low_lem None = 1
low_lem (Some m) = m

abbrev pub high_lem : Option ℕ → ℕ
high_lem None = 0
high_lem (Some m) = min 2_000_000 (longest_length_lem m)

-- Forward: the lengths that the entry can have after a reach.
abbrev pub from : Reach → Option ℕ → ℕ
from reach.Free o = low_lem o
from (reach.Exits a b) o = max (low_lem o) (least_beside_lem a)

abbrev pub upto : Reach → Option ℕ → ℕ
upto reach.Free o = high_lem o
upto (reach.Exits a b) o = min (high_lem o) (longest_beside_lem b)

-- Forward: the exits of a calling curve, if there are any.
abbrev pub exits : Bool → Reach → Bounds → Option Reach
exits true s b =
    let x : ℕ = max (from s b.entry) (low_lem b.exit) in
    let y : ℕ = min (upto s b.entry) (min (high_lem b.exit) (b.room / 2)) in
    cond (nat_le x y) (Some (reach.Exits x y)) None
exits false s b =
    let e : ℕ = from s b.entry in
    let x : ℕ = low_lem b.exit in
    let y : ℕ = min (high_lem b.exit) (b.room - e) in
    cond (nat_le e (upto s b.entry) && (nat_le x y && nat_le e b.room)) (Some (reach.Exits x y)) None

abbrev pub step : Reach → Demand → Option Reach
step s Free = Some reach.Free
step s (Called b) = exits b.even s b

-- Forward: the first row that has no lengths, counted from i.
abbrev pub decide : ℕ → Reach → List Demand → Option ℕ
decide i s [] = None
decide i s (d ∷ ds) = elim (step s d) [ None ↦ Some i | Some t ↦ decide (i + 1) t ds ]

-- Forward: the least lengths of a row that the rows up to it ask, where its entry is at least a.
abbrev pub first : ℕ → Demand → Lengths
first a Free = record { entry = 0; exit = 0 }
first a (Called b) =
    let e : ℕ = max a (low_lem b.entry) in
    record { entry = e; exit = cond b.even (max e (low_lem b.exit)) (low_lem b.exit) }

-- What a row asks of the next entry.
abbrev pub asks : Demand → Lengths → ℕ
asks Free l = 0
asks (Called b) l = least_beside_lem l.exit

-- The least length that a row asks of its clothoids by itself: 0 of a row with none.
abbrev pub least_asked : Demand → ℕ
least_asked Free = 0
least_asked (Called b) = low_lem b.entry

-- Some numbers are what the rows ask so, one by one, as far as there are both.
abbrev pub Kept : List Demand → List ℕ → Type 0
Kept ds leasts = (i : ℕ) → i < length ds → i < length leasts → slice_index leasts i ≡ least_asked (get_or ds i Free)

-- Backward: the lengths of a row where the exit is at least a.
abbrev pub raised : ℕ → Demand → Lengths → Lengths
raised a Free l = l
raised a (Called b) l =
    let x : ℕ = max a l.exit in
    record { entry = cond b.even x l.entry; exit = x }

-- What the first of the lengths asks of the exit before it: 0 of a row with no clothoids.
abbrev pub asked : List Lengths → ℕ
asked [] = 0
asked (l ∷ ls) = least_beside_lem l.entry

-- Forward on the way in, backward on the way out.
abbrev pub fitted : ℕ → List Demand → List Lengths
fitted a [] = []
fitted a (d ∷ ds) =
    let l : Lengths = first a d in
    let ls : List Lengths = fitted (asks d l) ds in
    raised (asked ls) d l ∷ ls

-- The same in two passes: all rows forward, then all backward.
abbrev pub started : ℕ → List Demand → List Lengths
started a [] = []
started a (d ∷ ds) = first a d ∷ started (asks d (first a d)) ds

abbrev pub pushed : List Demand → List Lengths → List Lengths
pushed [] ls = []
pushed (d ∷ ds) [] = []
pushed (d ∷ ds) (l ∷ ls) = raised (asked (pushed ds ls)) d l ∷ pushed ds ls

-- What a record is besides the lengths of a curve.
pub data Body : Type 0 where
  straight : RowRecord → Body
  curve : Sense → (radius turn : ℕ) → Body

abbrev pub body_by : RowRecord → Row → Body
body_by stored (row.Straight s) = straight stored
body_by stored (row.Curve c) = curve c.sense c.radius c.turn

abbrev pub body : RowRecord → Body
body stored = body_by stored (row_of stored)

-- The lengths that a row has once they are written: a straight has none.
abbrev pub only_of : Row → Lengths → Lengths
only_of (row.Straight s) l = record { entry = 0; exit = 0 }
only_of (row.Curve c) l = l

-- What the rows of records ask, and the lengths that they have.
abbrev pub demands : Road → Admission → List RowRecord → List Demand
demands road admission stored = map (demand road admission) (map row_of stored)

abbrev pub all_lengths : List RowRecord → List Lengths
all_lengths stored = map lengths (map row_of stored)
