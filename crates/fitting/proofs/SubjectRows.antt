-- What the walk answers for the demands of rows is what plain/specs asks of the rows.
use Rattle.std.proofs.Common.{◌≡◌, ℕ, zero, suc, ◌+◌, ◌-◌, ◌*◌, ◌/◌, ◌≤◌, Bool, true, false, cond, ◌&&◌, List, [], ◌∷◌, map, take, nat_le, nat_lt, Some, None, Option, sym, refl, ap, ap₂, ◌∙◌, subst, subst₂, lit≤, arith}
use Rattle.std.proofs.lemmas.List.{length-map, take-map}
use Rattle.superelevation.specs.Superelevation.{superelevation_of}
use Rattle.road.specs.declared.road.Road.{Road}
use Rattle.limits.specs.declared.place.Place.{Place}
use Rattle.limits.specs.Admission.{UpToLongest}
use Rattle.rows.proofs.Fits.{range_prop}
use Rattle.rows.specs.declared.row.Curve.{Curve}
use Rattle.rows.specs.declared.row.Row.{Row}
use Rattle.rows.specs.declared.row.Row.TheVariants as row
use Rattle.rows.specs.Bounded.{within_top}
use Rattle.rows.specs.Curves.{place_of}
use Rattle.rows.specs.Leasts.{least_in}
use Rattle.rows.specs.Ranges.{InRange}
use Rattle.findings.specs.Rules.{Admission}
use Rattle.findings.specs.Walk.{calls}
use Rattle.plain.specs.Lengths.{AlikeRow, Alike, NoLongerRow, NoLonger, Keeps, LeastLengths, SomeLengths, NoLengths, FirstWithout}
use Rattle.fitting.specs.declared.demand.Demand.{Demand}
use Rattle.fitting.specs.declared.demand.Demand.TheVariants.{Free, Called}
use Rattle.fitting.specs.declared.demand.Lengths.{Lengths}
use Rattle.fitting.specs.Demands.{bounds, demand, lengths}
use Rattle.fitting.proofs.Walk.{Within, Link, RowKeeps, leaves, KeepsAfter, Below, LeastWalk, FirstWalk}
use Rattle.fitting.proofs.Walk.Link.{apart}
use Rattle.fitting.proofs.Subject.{keeps_walk, walk_keeps}

-- no longer, on rows and on their lengths
no_longer_row : (r f o : Row) → AlikeRow r f → AlikeRow r o → (lengths f).entry ≤ (lengths o).entry → (lengths f).exit ≤ (lengths o).exit → NoLongerRow f o
no_longer_row (row.Straight s) (row.Straight t) (row.Straight u) a b entry exit = tt
no_longer_row (row.Straight s) (row.Straight t) (row.Curve e) a b entry exit = absurd b
no_longer_row (row.Straight s) (row.Curve d) o a b entry exit = absurd a
no_longer_row (row.Curve c) (row.Straight t) o a b entry exit = absurd a
no_longer_row (row.Curve c) (row.Curve d) (row.Straight u) a b entry exit = absurd b
no_longer_row (row.Curve c) (row.Curve d) (row.Curve e) a b entry exit = (entry, exit)

pub no_longer : (rows fitted others : List Row) → Alike rows fitted → Alike rows others → Below (map lengths fitted) (map lengths others) → NoLonger fitted others
no_longer [] [] [] a b below = tt
no_longer [] [] (o ∷ others) a b below = absurd b
no_longer [] (f ∷ fitted) others a b below = absurd a
no_longer (r ∷ rows) [] others a b below = absurd a
no_longer (r ∷ rows) (f ∷ fitted) [] a b below = absurd b
no_longer (r ∷ rows) (f ∷ fitted) (o ∷ others) a b below =
    (no_longer_row r f o a.0 b.0 below.0 below.1, no_longer rows fitted others a.1 b.1 below.2)

below_row : (f o : Row) → NoLongerRow f o → ((lengths f).entry ≤ (lengths o).entry) × ((lengths f).exit ≤ (lengths o).exit)
below_row (row.Straight s) (row.Straight t) h = (lit≤ tt, lit≤ tt)
below_row (row.Straight s) (row.Curve d) h = absurd h
below_row (row.Curve c) (row.Straight t) h = absurd h
below_row (row.Curve c) (row.Curve d) h = h

pub no_longer_below : (fitted others : List Row) → NoLonger fitted others → Below (map lengths fitted) (map lengths others)
no_longer_below [] [] h = tt
no_longer_below [] (o ∷ others) h = absurd h
no_longer_below (f ∷ fitted) [] h = absurd h
no_longer_below (f ∷ fitted) (o ∷ others) h =
    let (entry, exit) = below_row f o h.0 in (entry, exit, no_longer_below fitted others h.1)

-- the place of a curve, by its radius and turn alone
abbrev place_by : (road : Road) (radius turn : ℕ) → InRange 1_000 10_000_000 radius → InRange 1 2_000_000 turn → Place
place_by road radius turn radii turns =
    record {
      road = road;
      radius = radius;
      turn = turn;
      superelevation = superelevation_of road.group radius;
      radii = radii;
      turns = turns;
      tabled = refl;
      slopes = within_top road.group radius;
    }

same_radius : (road : Road) (r s turn : ℕ) (radii : InRange 1_000 10_000_000 r) (others : InRange 1_000 10_000_000 s) (turns : InRange 1 2_000_000 turn) → s ≡ r
    → place_by road s turn others turns ≡ place_by road r turn radii turns
same_radius road r s turn radii others turns e =
    subst (λ (x : ℕ). (q : InRange 1_000 10_000_000 x) → place_by road x turn q turns ≡ place_by road r turn radii turns) (sym e)
    (λ q. ap (λ (f : InRange 1_000 10_000_000 r). place_by road r turn f turns) (range_prop 1_000 10_000_000 r q radii)) others

same_turn : (road : Road) (r t u : ℕ) (radii : InRange 1_000 10_000_000 r) (turns : InRange 1 2_000_000 t) (others : InRange 1 2_000_000 u) → u ≡ t
    → place_by road r u radii others ≡ place_by road r t radii turns
same_turn road r t u radii turns others e =
    subst (λ (x : ℕ). (q : InRange 1 2_000_000 x) → place_by road r x radii q ≡ place_by road r t radii turns) (sym e)
    (λ q. ap (λ (f : InRange 1 2_000_000 t). place_by road r t radii f) (range_prop 1 2_000_000 t q turns)) others

same_place : (road : Road) (c d : Curve) → d.radius ≡ c.radius → d.turn ≡ c.turn → place_of road d ≡ place_of road c
same_place road c d radius turn =
    same_radius road c.radius d.radius d.turn c.within.0 d.within.0 d.within.1.0 radius
    ∙ same_turn road c.radius c.turn d.turn c.within.0 c.within.1.0 d.within.1.0 turn

module _ (road : Road) (admission : Admission) where
  alike_demand : (r o : Row) → AlikeRow r o → demand road admission o ≡ demand road admission r
  alike_demand (row.Straight s) (row.Straight t) a = refl
  alike_demand (row.Straight s) (row.Curve d) a = absurd a
  alike_demand (row.Curve c) (row.Straight t) a = absurd a
  alike_demand (row.Curve c) (row.Curve d) (sense, radius, turn) =
      let place = same_place road c d radius turn in
      λ i.
      cond (nat_le 60_000 (turn i) && nat_lt (radius i) road.free_radius)
      (Called (record {
        entry = least_in (admission (place i));
        exit = least_in (admission (place i));
        even = road.symmetric;
        room = (turn i * radius i - 1) / 318_300;
      })) Free

  pub alike_demands : (rows others : List Row) → Alike rows others → map (demand road admission) others ≡ map (demand road admission) rows
  alike_demands [] [] a = refl
  alike_demands [] (o ∷ others) a = absurd a
  alike_demands (r ∷ rows) [] a = absurd a
  alike_demands (r ∷ rows) (o ∷ others) a = ap₂ ◌∷◌ (alike_demand r o a.0) (alike_demands rows others a.1)

-- rows with these lengths
same_lengths : (l m : Lengths) → l.entry ≡ m.entry → l.exit ≡ m.exit → l ≡ m
same_lengths l m entry exit = λ i. record { entry = entry i; exit = exit i }

within_longest : (o : Option ℕ) (l : ℕ) → Within o l → l ≤ 2_000_000
within_longest None l w = absurd w
within_longest (Some m) l w = w.1

-- a row that is alike and has these lengths
Given : Row → Lengths → Type 0
Given r l = (o : Row) × AlikeRow r o × (lengths o ≡ l)

curve_given : (c : Curve) (l : Lengths) → l.entry ≤ 2_000_000 → l.exit ≤ 2_000_000 → Given (row.Curve c) l
unfolding Given
curve_given c l entry exit = (
  row.Curve (record { sense = c.sense; radius = c.radius; turn = c.turn; entry = l.entry; exit = l.exit; within = (c.within.0, (c.within.1.0, (entry, exit))) }),
  (refl, refl, refl),
  refl,
)

module _ (road : Road) (admission : Admission) where
  called_given : (p : Link) (c : Curve) (l : Lengths) (b : Bool) → RowKeeps p (cond b (Called (bounds road admission c)) Free) l → Given (row.Curve c) l
  called_given p c l true keeps =
      curve_given c l (within_longest (least_in (admission (place_of road c))) l.entry keeps.1.at_entry)
      (within_longest (least_in (admission (place_of road c))) l.exit keeps.1.at_exit)
  called_given p c l false keeps = curve_given c l (omega (arith, keeps.0)) (omega (arith, keeps.1))

  row_given : (p : Link) (r : Row) (l : Lengths) → RowKeeps p (demand road admission r) l → Given r l
  unfolding Given
  row_given p (row.Straight s) l keeps = (row.Straight s, refl, same_lengths (lengths (row.Straight s)) l (sym keeps.0) (sym keeps.1))
  row_given p (row.Curve c) l keeps = called_given p c l (calls road c) keeps

  pub rows_given : (p : Link) (rows : List Row) (ls : List Lengths) → KeepsAfter p (map (demand road admission) rows) ls
      → (others : List Row) × Alike rows others × (map lengths others ≡ ls)
  unfolding Given
  rows_given p [] [] keeps = ([], tt, refl)
  rows_given p [] (l ∷ ls) keeps = absurd keeps
  rows_given p (r ∷ rows) [] keeps = absurd keeps
  rows_given p (r ∷ rows) (l ∷ ls) keeps =
      let (o, alike, here) = row_given p r l keeps.0 in
      let (others, all_alike, there) = rows_given (leaves (demand road admission r) l) rows ls keeps.1 in
      (o ∷ others, (alike, all_alike), ap₂ ◌∷◌ here there)

-- what keeps the rules keeps them on each first part
pub alike_take : (k : ℕ) (rows others : List Row) → Alike rows others → Alike (take k rows) (take k others)
alike_take zero rows others a = tt
alike_take (suc k) [] [] a = tt
alike_take (suc k) [] (o ∷ others) a = absurd a
alike_take (suc k) (r ∷ rows) [] a = absurd a
alike_take (suc k) (r ∷ rows) (o ∷ others) a = (a.0, alike_take k rows others a.1)

pub keeps_take : (k : ℕ) (p : Link) (ds : List Demand) (ls : List Lengths) → KeepsAfter p ds ls → KeepsAfter p (take k ds) (take k ls)
keeps_take zero p ds ls h = tt
keeps_take (suc k) p [] [] h = tt
keeps_take (suc k) p [] (l ∷ ls) h = absurd h
keeps_take (suc k) p (d ∷ ds) [] h = absurd h
keeps_take (suc k) p (d ∷ ds) (l ∷ ls) h = (h.0, keeps_take k (leaves d l) ds ls h.1)

module _ (road : Road) (admission : Admission) (lawful : (place : Place) → UpToLongest (admission place)) where
  -- Alike rows ask the same, so they keep the rules where their lengths keep them along the walk of the first rows' demands.
  pub alike_walk : (rows others : List Row) → Alike rows others → Keeps road admission others
      → KeepsAfter apart (map (demand road admission) rows) (map lengths others)
  alike_walk rows others alike keeps =
      subst (λ (ds : List Demand). KeepsAfter apart ds (map lengths others)) (alike_demands road admission rows others alike)
      (keeps_walk road admission lawful others keeps)

  pub walk_alike : (rows others : List Row) → Alike rows others → KeepsAfter apart (map (demand road admission) rows) (map lengths others)
      → Keeps road admission others
  walk_alike rows others alike walk =
      walk_keeps road admission lawful others
      (subst (λ (ds : List Demand). KeepsAfter apart ds (map lengths others)) (sym (alike_demands road admission rows others alike)) walk)

  pub carried_least : (rows fitted : List Row) → Alike rows fitted → LeastWalk (map (demand road admission) rows) (map lengths fitted)
      → LeastLengths road admission rows fitted
  carried_least rows fitted alike walk =
      record {
        alike = alike;
        keeps = walk_alike rows fitted alike walk.keeps;
        least = λ others other_alike keeps. no_longer rows fitted others alike other_alike (walk.below (map lengths others) (alike_walk rows others other_alike keeps));
      }

  some_carried : (rows : List Row) (ls : List Lengths) → KeepsAfter apart (map (demand road admission) rows) ls → SomeLengths road admission rows
  some_carried rows ls keeps =
      let (others, alike, is) = rows_given road admission apart rows ls keeps in (
        others,
        alike,
        walk_alike rows others alike
            (subst (λ (ms : List Lengths). KeepsAfter apart (map (demand road admission) rows) ms) (sym is) keeps),
      )

  pub carried_refusal : (rows : List Row) (n : ℕ) → FirstWalk (map (demand road admission) rows) n → FirstWithout road admission rows n
  carried_refusal rows n walk =
      record {
        within = omega (arith, walk.within, length-map rows (demand road admission));
        none = λ others alike keeps.
            walk.none (map lengths others)
            (subst (λ (ds : List Demand). KeepsAfter apart ds (map lengths others)) (sym (take-map (demand road admission) (n + 1) rows))
            (alike_walk (take (n + 1) rows) others alike keeps));
        some = λ k le.
            let (ls, keeps) = walk.some k le in
            some_carried (take k rows) ls
            (subst (λ (ds : List Demand). KeepsAfter apart ds ls) (take-map (demand road admission) k rows) keeps);
      }

  keeps_first : (k : ℕ) (rows : List Row) → Keeps road admission rows → Keeps road admission (take k rows)
  keeps_first k rows keeps =
      walk_keeps road admission lawful (take k rows)
      (subst₂ (λ (ds : List Demand) (ls : List Lengths). KeepsAfter apart ds ls) (take-map (demand road admission) k rows) (take-map lengths k rows)
      (keeps_take k apart (map (demand road admission) rows) (map lengths rows) (keeps_walk road admission lawful rows keeps)))

  pub none : (rows : List Row) (n : ℕ) → FirstWithout road admission rows n → NoLengths road admission rows
  none rows n first others alike keeps =
      first.none (take (n + 1) others) (alike_take (n + 1) rows others alike) (keeps_first (n + 1) others keeps)

  -- and no lengths where the walk has a first demand without any
  pub carried_none : (rows : List Row) (n : ℕ) → FirstWalk (map (demand road admission) rows) n → NoLengths road admission rows
  carried_none rows n walk = none rows n (carried_refusal rows n walk)
