-- The worked curves, computed.
use Rattle.std.proofs.Common.{◌≡◌, ℕ, ◌+◌, ◌*◌, ◌<◌, ◌≤◌, Some, None, Ok, Err, Option, Result, true, sym, refl, ap, ◌∙◌, inl, inr, arith, lit<, lit≤}
use Rattle.superelevation.specs.declared.group.Group.TheVariants.{One, Two, Three}
use Rattle.superelevation.specs.Superelevation.{Superelevation, superelevation_of}
use Rattle.superelevation.proofs.Values.{agrees, computed}
use Rattle.roots.specs.Roots.{Parameter}
use Rattle.roots.proofs.Squares.{past}
use Rattle.road.specs.declared.class.Class.TheVariants.{C}
use Rattle.road.specs.declared.jerk.JerkChoice.TheVariants.{Usual}
use Rattle.road.specs.declared.road.Road.{Road}
use Rattle.limits.specs.declared.place.Place.{Place}
use Rattle.limits.specs.Admission.{In, UpToLongest, both}
use Rattle.limits.specs.Lawful.{both_lawful}
use Rattle.limits.specs.Least.{Smallest}
use Rattle.limits.proofs.Bracket.{smallest_by}
use Rattle.limits.proofs.Leasts.{found}
use Rattle.norma.specs.Formulas.{comfort, transition, azimuth, shift, fifth_of_turn, compulsory}
use Rattle.norma.specs.Lawful.{comfort_lawful, transition_lawful, azimuth_lawful, shift_lawful, fifth_lawful}
use Rattle.rows.specs.declared.row.Curve.{Curve}
use Rattle.rows.specs.declared.row.Sense.TheVariants.{Left}
use Rattle.rows.specs.Bounded.{within_top}
use Rattle.rows.specs.Curves.{place_of}
use Rattle.figures.specs.Lengths.{LeavesArc}
use Rattle.findings.specs.Rules.{Admitted, TooLong}
use Rattle.road.specs.declared.refusal.Refusal.{Refusal}
use Rattle.road.specs.Refusals.{number_of, FirstApplying}
use Rattle.limits.specs.Places.{place_grounds}
use Rattle.label.specs.declared.Label.{Label}
use Rattle.label.specs.Labels.{ParameterOf, Labelled}
use Rattle.worked.specs.Worked.{Example, ExamplePlace, TwoClothoids, Worked, example_label}

compulsory_lawful : (place : Place) → UpToLongest (compulsory place)
compulsory_lawful place =
    both_lawful (comfort place) (both (transition place) (both (azimuth place) (shift place))) (comfort_lawful place)
    (both_lawful (transition place) (both (azimuth place) (shift place)) (transition_lawful place)
    (both_lawful (azimuth place) (shift place) (azimuth_lawful place) (shift_lawful place)))

group_is : (road : Road) → Example road → road.group ≡ Two
group_is road e = let same = e.line in cc

conventional : (road : Road) → Example road → Superelevation road.group 1_000_000 647
conventional road e = rw (group_is road e) (computed Two 1_000_000 647 tt)

-- the superelevation of the example place of 1,000 m
banked : (place : Place) → ExamplePlace 1_000_000 place → place.superelevation ≡ 647
banked place e =
    let here : superelevation_of place.road.group place.radius ≡ superelevation_of place.road.group 1_000_000 = rw e.its_radius in
    place.tabled ∙ here ∙ sym (agrees place.road.group 1_000_000 647 (conventional place.road e.its_road))

module _ (place : Place) (e : ExamplePlace 1_000_000 place) where
  by_comfort : Smallest (In (comfort place)) 9_555
  by_comfort =
      smallest_by 9_554 (comfort_lawful place) (rw (e.its_road.its_speed, e.its_road.jerk, e.its_radius, banked place e) tt)
      (λ t. rw (e.its_road.its_speed, e.its_road.jerk, e.its_radius, banked place e) at t)

  by_transition : Smallest (In (transition place)) 49_229
  by_transition =
      smallest_by 49_228 (transition_lawful place) (rw (e.its_road.its_speed, e.its_road.its_edge, e.its_road.factor, banked place e) tt)
      (λ t. rw (e.its_road.its_speed, e.its_road.its_edge, e.its_road.factor, banked place e) at t)

  by_azimuth : Smallest (In (azimuth place)) 111_112
  by_azimuth = smallest_by 111_111 (azimuth_lawful place) (rw e.its_radius tt) (λ t. rw e.its_radius at t)

  by_shift : Smallest (In (shift place)) 109_545
  by_shift = smallest_by 109_544 (shift_lawful place) (rw e.its_radius tt) (λ t. rw e.its_radius at t)

  by_fifth : Smallest (In (fifth_of_turn place)) 188_502
  by_fifth = smallest_by 188_501 (fifth_lawful place) (rw (e.its_radius, e.its_turn) tt) (λ t. rw (e.its_radius, e.its_turn) at t)

  by_compulsory : Smallest (In (compulsory place)) 111_112
  by_compulsory =
      smallest_by 111_111 (compulsory_lawful place)
      (rw (e.its_road.its_speed, e.its_road.its_edge, e.its_road.factor, e.its_road.jerk, e.its_radius, banked place e) tt)
      (λ t. rw (e.its_road.its_speed, e.its_road.its_edge, e.its_road.factor, e.its_road.jerk, e.its_radius, banked place e) at t)

parameter : Parameter 1_000_000 111_112 333_335
parameter = record { reached = lit≤ tt; least = λ other reaches. past 333_334 other (omega (arith, reaches)) }

tight_bank : Superelevation Two 450_000 800
tight_bank = record {
  tight = λ h. refl;
  formula = λ h k. absurd (omega arith);
  wide = λ h k. absurd (omega arith);
  level = λ h. absurd (omega arith);
}

-- the least compulsory length of a curve of 450 m on the example road, where the superelevation is the top
module _ (road : Road) (c : Curve) (e : Example road) (at : c.radius ≡ 450_000) where
  top_bank : superelevation_of road.group c.radius ≡ 800
  top_bank = rw (group_is road e, at) (sym (agrees Two 450_000 800 tight_bank))

  tight_least : Smallest (Admitted road compulsory c) 73_485
  tight_least =
      smallest_by 73_484 (compulsory_lawful (place_of road c)) (rw (e.its_speed, e.its_edge, e.factor, e.jerk, top_bank, at) tt)
      (λ t. rw (e.its_speed, e.its_edge, e.factor, e.jerk, top_bank, at) at t)

  longest : TooLong road compulsory c 110_227 → ⊥
  longest (m, smallest, above) = above (omega (arith, smallest.least 73_485 tight_least.admitted, tight_least.least m smallest.admitted))

  too_long : TooLong road compulsory c 110_228
  too_long = (73_485, tight_least, λ h. omega arith)

-- an arc of 1,000 m between two clothoids of 111,112 mm
arc_left : (c : Curve) → TwoClothoids c → c.turn ≡ 70_734 → LeavesArc c
arc_left c t w = rw (t.its_radius, t.its_entry, t.its_exit, w) (lit< tt)

no_arc : (c : Curve) → TwoClothoids c → c.turn ≡ 70_733 → LeavesArc c → ⊥
no_arc c t w left =
    let here : 318_300 * (111_112 + 111_112) < 70_733 * 1_000_000 = rw (t.its_radius, t.its_entry, t.its_exit, w) at left in
    omega arith

-- the road, a place on it, and curves
abbrev example_road : Road
example_road = record {
  class = C;
  speed = 100;
  edge = 3_500;
  lanes = 1;
  choice = Usual;
  group = Two;
  least_radius = 450_000;
  lane_factor = 100;
  jerk = 4;
  free_radius = 5_000_000;
  symmetric = true;
  limited_run = 400_000;
  radius_after_run = 700_000;
  both_senses = true;
  listed = refl;
  grouped = refl;
  least = refl;
  factored = refl;
  chosen = refl;
  free = refl;
  even = refl;
  limited = refl;
  after = refl;
  judged = refl;
  speeds = (lit≤ tt, lit≤ tt);
  edges = (lit≤ tt, lit≤ tt);
  turning = (lit≤ tt, lit≤ tt);
  radii = (lit≤ tt, lit≤ tt);
  factors = (lit≤ tt, lit≤ tt);
  jerks = (lit≤ tt, lit≤ tt);
  free_radii = (lit≤ tt, lit≤ tt);
  limited_runs = (lit≤ tt, lit≤ tt);
  radii_after = (lit≤ tt, lit≤ tt);
}

is_example : Example example_road
is_example = record {
  its_class = refl;
  its_speed = refl;
  its_edge = refl;
  its_lanes = refl;
  its_choice = refl;
  line = refl;
  factor = refl;
  jerk = refl;
  free = refl;
  symmetry = refl;
  limited = refl;
  after_run = refl;
  senses = refl;
}

some_place : (radius : ℕ) → 1_000 ≤ radius → radius ≤ 10_000_000 → (place : Place) × ExamplePlace radius place
some_place radius low high = (
  record {
    road = example_road;
    radius = radius;
    turn = 300_000;
    superelevation = superelevation_of Two radius;
    radii = (low, high);
    turns = (lit≤ tt, lit≤ tt);
    tabled = refl;
    slopes = within_top Two radius;
  },
  record { its_road = is_example; its_radius = refl; its_turn = refl },
)

some_curve : (turn : ℕ) → 1 ≤ turn → turn ≤ 2_000_000 → (c : Curve) × TwoClothoids c × (c.turn ≡ turn)
some_curve turn low high = (
  record { sense = Left; radius = 1_000_000; turn = turn; entry = 111_112; exit = 111_112; within = ((lit≤ tt, lit≤ tt), ((low, high), (lit≤ tt, lit≤ tt))) },
  record { its_radius = refl; its_entry = refl; its_exit = refl },
  refl,
)

tight_curve : (c : Curve) × (c.radius ≡ 450_000)
tight_curve = (record { sense = Left; radius = 450_000; turn = 1; entry = 0; exit = 0; within = ((lit≤ tt, lit≤ tt), ((lit≤ tt, lit≤ tt), (lit≤ tt, lit≤ tt))) }, refl)

pub worked : Worked
worked = record {
  conventional = conventional;
  motorway = computed One 2_100_000 454 tt;
  last_of_formula = computed Three 2_499_999 201 tt;
  first_of_least = record {
    tight = λ h. absurd (omega arith);
    formula = λ h k. absurd (omega arith);
    wide = λ h k. refl;
    level = λ h. absurd (omega arith);
  };
  by_comfort = by_comfort;
  by_transition = by_transition;
  by_azimuth = by_azimuth;
  by_shift = by_shift;
  by_fifth = by_fifth;
  parameter = parameter;
  azimuth_meets = λ place is. smallest_by 107_999 (azimuth_lawful place) (rw is tt) (λ t. rw is at t);
  shift_meets = λ place is. smallest_by 107_999 (shift_lawful place) (rw is tt) (λ t. rw is at t);
  arc_left = arc_left;
  no_arc = no_arc;
  tight_least = tight_least;
  longest = longest;
  too_long = too_long;
  met = record { road = (example_road, is_example); place = some_place; curve = some_curve; tight = tight_curve };
}

parameter_is : (radius : ℕ) (least found : Option ℕ) → radius ≡ 1_000_000 → least ≡ Some 111_112 → ParameterOf radius least found → found ≡ Some 333_335
parameter_is radius (Some length) (Some a) at_radius at_length is =
    let long : length ≡ 111_112 = cc in
    let here : Parameter 1_000_000 111_112 a = rw (at_radius, long) at is in
    ap Some (omega (arith, here.least 333_335 parameter.reached, parameter.least a here.reached))
parameter_is radius (Some length) None at_radius at_length is = absurd is
parameter_is radius None (Some a) at_radius at_length is = absurd is
parameter_is radius None None at_radius at_length is = let never : ◌≡◌ {A = ℕ} 0 1 = cc in absurd (omega arith)

same_label : (l : Label) → l.superelevation ≡ 647 → l.comfort ≡ Some 9_555 → l.transition ≡ Some 49_229 → l.azimuth ≡ Some 111_112 → l.shift ≡ Some 109_545 → l.fifth ≡ Some 188_502 → l.least ≡ Some 111_112 → l.parameter ≡ Some 333_335 → l ≡ example_label
same_label l p comfort_is transition_is azimuth_is Shift-is fifth_is least_is a_is =
    let spelt : ◌≡◌ {A = Label} (record { superelevation = l.superelevation; comfort = l.comfort; transition = l.transition; azimuth = l.azimuth; shift = l.shift; fifth = l.fifth; least = l.least; parameter = l.parameter }) example_label =
    rw (p, comfort_is, transition_is, azimuth_is, Shift-is, fifth_is, least_is, a_is) refl in
    spelt

-- what labels the example curve is the example's label
pub label_is : (road : Road) → Example road → (answer : Result Label Refusal) → Labelled road 1_000_000 300_000 answer → answer ≡ Ok example_label
label_is road e (Ok label) (clear, (place, is, at)) =
    let here : ExamplePlace 1_000_000 place = record { its_road = rw is.its_road e; its_radius = is.its_radius; its_turn = is.its_turn } in
    let least_is = found label.least 111_112 at.by_compulsory (by_compulsory place here) in
    ap Ok
    (same_label label (at.banked ∙ banked place here) (found label.comfort 9_555 at.by_comfort (by_comfort place here))
    (found label.transition 49_229 at.by_transition (by_transition place here)) (found label.azimuth 111_112 at.by_azimuth (by_azimuth place here))
    (found label.shift 109_545 at.by_shift (by_shift place here)) (found label.fifth 188_502 at.by_fifth (by_fifth place here)) least_is
    (parameter_is place.radius label.least label.parameter is.its_radius least_is at.parameter))
label_is road e (Err refusal) refused = absurd (never_refused refused.smallest)
  where
    never_refused : FirstApplying (place_grounds 1_000_000 300_000) (number_of refusal) → ⊥
    never_refused (inl (inl low, _)) = omega arith
    never_refused (inl (inr high, _)) = omega arith
    never_refused (inr (_, inl (inl low, _))) = omega arith
    never_refused (inr (_, inl (inr high, _))) = omega arith
    never_refused (inr (_, inr (_, never))) = never
