-- Curves worked by hand, as facts about the definitions.
use Rattle.std.specs.Prelude.{◌≡◌, ℕ, ◌≤◌, Some}
use Rattle.superelevation.specs.declared.group.Group.TheVariants.{One, Three}
use Rattle.superelevation.specs.Superelevation.{Superelevation}
use Rattle.roots.specs.Roots.{Parameter}
use Rattle.road.specs.declared.class.Class.TheVariants.{C}
use Rattle.road.specs.declared.jerk.JerkChoice.TheVariants.{Usual}
use Rattle.road.specs.declared.design.RoadDesign.{RoadDesign}
use Rattle.road.specs.declared.road.Road.{Road}
use Rattle.road.specs.Openings.{Holds}
use Rattle.limits.specs.declared.place.Place.{Place}
use Rattle.limits.specs.Admission.{In}
use Rattle.limits.specs.Least.{Smallest}
use Rattle.norma.specs.Formulas.{comfort, transition, azimuth, shift, fifth_of_turn, compulsory}
use Rattle.rows.specs.declared.row.Curve.{Curve}
use Rattle.figures.specs.Lengths.{LeavesArc}
use Rattle.findings.specs.Rules.{Admitted, TooLong}
use Rattle.label.specs.declared.Label.{Label}

-- The example road: C-100, edge distance 3,500 mm, one lane turning, the usual J.
abbrev pub example_design : RoadDesign
example_design = record { class = C; speed = 100; edge = 3_500; lanes = 1; choice = Usual }

-- A road of that design.
abbrev pub Example : Road → Type 0
Example road = Holds example_design road

-- A place on it with a turn of 30 gon.
pub record ExamplePlace (radius : ℕ) (place : Place) : Type 0 where
  pub its_road : Example place.road
  pub its_radius : place.radius ≡ radius
  pub its_turn : place.turn ≡ 300_000

-- A curve of 1,000 m with clothoids of 111,112 mm at both ends.
pub record TwoClothoids (c : Curve) : Type 0 where
  pub its_radius : c.radius ≡ 1_000_000
  pub its_entry : c.entry ≡ 111_112
  pub its_exit : c.exit ≡ 111_112

-- There are such roads, places and curves, so that no fact of the table is said of none.
pub record Met : Type 0 where
  pub road : (road : Road) × Example road
  pub place : (radius : ℕ) → 1_000 ≤ radius → radius ≤ 10_000_000 → (place : Place) × ExamplePlace radius place
  pub curve : (turn : ℕ) → 1 ≤ turn → turn ≤ 2_000_000 → (c : Curve) × TwoClothoids c × (c.turn ≡ turn)
  pub tight : (c : Curve) × (c.radius ≡ 450_000)

-- The table of the worked curves.
pub record Worked : Type 0 where
  -- superelevations: on the example road, in the first group, and where the third group's formula ends
  pub conventional : (road : Road) → Example road → Superelevation road.group 1_000_000 647
  pub motorway : Superelevation One 2_100_000 454
  pub last_of_formula : Superelevation Three 2_499_999 201
  pub first_of_least : Superelevation Three 2_500_000 200
  -- least lengths on the example road at 1,000 m
  pub by_comfort : (place : Place) → ExamplePlace 1_000_000 place → Smallest (In (comfort place)) 9_555
  pub by_transition : (place : Place) → ExamplePlace 1_000_000 place → Smallest (In (transition place)) 49_229
  pub by_azimuth : (place : Place) → ExamplePlace 1_000_000 place → Smallest (In (azimuth place)) 111_112
  pub by_shift : (place : Place) → ExamplePlace 1_000_000 place → Smallest (In (shift place)) 109_545
  pub by_fifth : (place : Place) → ExamplePlace 1_000_000 place → Smallest (In (fifth_of_turn place)) 188_502
  -- at 111,112 mm the parameter
  pub parameter : Parameter 1_000_000 111_112 333_335
  -- azimuth and shift want the same at 972 m, on every road
  pub azimuth_meets : (place : Place) → place.radius ≡ 972_000 → Smallest (In (azimuth place)) 108_000
  pub shift_meets : (place : Place) → place.radius ≡ 972_000 → Smallest (In (shift place)) 108_000
  -- between two clothoids of 111,112 mm an arc of radius 1,000 m is left at a turn of 7.0734 gon, and none at 7.0733
  pub arc_left : (c : Curve) → TwoClothoids c → c.turn ≡ 70_734 → LeavesArc c
  pub no_arc : (c : Curve) → TwoClothoids c → c.turn ≡ 70_733 → LeavesArc c → ⊥
  -- on the example road the least compulsory length at 450 m is 73,485, so that 110,227 is not too long, and 110,228 is
  pub tight_least : (road : Road) (c : Curve) → Example road → c.radius ≡ 450_000 → Smallest (Admitted road compulsory c) 73_485
  pub longest : (road : Road) (c : Curve) → Example road → c.radius ≡ 450_000 → TooLong road compulsory c 110_227 → ⊥
  pub too_long : (road : Road) (c : Curve) → Example road → c.radius ≡ 450_000 → TooLong road compulsory c 110_228
  -- the premises above are met
  pub met : Met

-- The label of the example curve of 1,000 m.
abbrev pub example_label : Label
example_label = record {
  superelevation = 647;
  comfort = Some 9_555;
  transition = Some 49_229;
  azimuth = Some 111_112;
  shift = Some 109_545;
  fifth = Some 188_502;
  least = Some 111_112;
  parameter = Some 333_335;
}
