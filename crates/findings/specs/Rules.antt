-- The twelve rules: when each kind of finding is given for a row, by the rows before it and the rows after it. Their figures are those of `figures`.
-- Lengths and radii in mm, turns in ten-thousandths of a gon, speeds in km/h.
use Rattle.std.specs.Prelude.{◌≡◌, ℕ, ◌+◌, ◌<◌, Bool, true, List, [], ◌≢◌}
use Rattle.road.specs.declared.road.Road.{Road}
use Rattle.limits.specs.declared.place.Place.{Place}
use Rattle.limits.specs.Admission.{In}
use Rattle.limits.specs.Least.{Smallest}
use Rattle.rows.specs.declared.row.Curve.{Curve}
use Rattle.rows.specs.declared.row.Row.{Row}
use Rattle.rows.specs.declared.row.Row.TheVariants as row
use Rattle.rows.specs.declared.row.Straight.{Straight}
use Rattle.rows.specs.Curves.{place_of, Calling}
use Rattle.figures.specs.Lengths.{AtMostHalfMore, Harmonious, LeavesArc}
use Rattle.figures.specs.Radii.{Follows, Cramped}
use Rattle.figures.specs.Runs.{shortest_run_lem, longest_run_lem}
use Rattle.findings.specs.declared.kind.Kind.{Kind}
use Rattle.findings.specs.declared.kind.Kind.TheVariants.{UnadmittedEntry, UnadmittedExit, LongEntry, LongExit, UncalledEntry, UncalledExit, Unequal, Disharmony, NoArc, TightRadius, NextRadius, ReturnRadius, SmallTurn, ShortRun, LongRun, SlightTurn}
use Rattle.findings.specs.Around.{total, EndWith, BeginWith, RunBegins, RunGoesOn}

-- What a limit means: the lengths that it admits at each place, as a test.
abbrev pub Admission : Type 0
Admission = Place → ℕ → Bool

module _ (road : Road) (admission : Admission) where
  -- A length is admitted for the clothoids of the curve.
  abbrev pub Admitted : Curve → ℕ → Type 0
  Admitted c length = In (admission (place_of road c)) length

  -- A length is above one and a half times the least that is admitted; where nothing is admitted, no length is.
  abbrev pub TooLong : Curve → ℕ → Type 0
  TooLong c length = (least : ℕ) × Smallest (Admitted c) least × (AtMostHalfMore least length → ⊥)

  -- What is found at a curve, by the rows before it and after it. The two kinds of the rules on runs are never found there.
  abbrev pub BrokenByCurve : Kind → List Row → Curve → List Row → Type 0
  -- 1: a calling curve has an admitted length
  BrokenByCurve UnadmittedEntry before c after = Calling road c × (Admitted c c.entry → ⊥)
  BrokenByCurve UnadmittedExit before c after = Calling road c × (Admitted c c.exit → ⊥)
  -- 2: that is not too long
  BrokenByCurve LongEntry before c after = Calling road c × TooLong c c.entry
  BrokenByCurve LongExit before c after = Calling road c × TooLong c c.exit
  -- 3: other curves have lengths of 0
  BrokenByCurve UncalledEntry before c after = (Calling road c → ⊥) × (c.entry ≢ 0)
  BrokenByCurve UncalledExit before c after = (Calling road c → ⊥) × (c.exit ≢ 0)
  -- 4: on a symmetric road entry equals exit
  BrokenByCurve Unequal before c after = (road.symmetric ≡ true) × (c.entry ≢ c.exit)
  -- 5: neighbouring calling curves are in harmony
  BrokenByCurve Disharmony before c after =
      Calling road c × ((b : Curve) × EndWith before b [] × Calling road b × (Harmonious b.exit c.entry → ⊥))
  -- 6: an arc is left
  BrokenByCurve NoArc before c after = LeavesArc c → ⊥
  -- 7: the radius is at least the road's least
  BrokenByCurve TightRadius before c after = c.radius < road.least_radius
  -- 8: the radius follows that of the curve before, and on a road judged in both senses in the return sense that of the curve after
  BrokenByCurve NextRadius before c after =
      (b : Curve) × (ss : List Straight) × EndWith before b ss × (Follows road (total ss) b.radius c.radius → ⊥)
  BrokenByCurve ReturnRadius before c after =
      (road.both_senses ≡ true) × ((d : Curve) × (ss : List Straight) × BeginWith after ss d × (Follows road (total ss) d.radius c.radius → ⊥))
  -- 9: a curve of a small turn is wide enough
  BrokenByCurve SmallTurn before c after = Cramped c
  BrokenByCurve ShortRun before c after = ⊥
  BrokenByCurve LongRun before c after = ⊥
  -- 12: the turn is at least 2 gon
  BrokenByCurve SlightTurn before c after = c.turn < 20_000

  -- What is found at a straight: the two kinds of the rules on runs alone.
  abbrev pub BrokenByStraight : Kind → List Row → Straight → List Row → Type 0
  BrokenByStraight UnadmittedEntry before s after = ⊥
  BrokenByStraight UnadmittedExit before s after = ⊥
  BrokenByStraight LongEntry before s after = ⊥
  BrokenByStraight LongExit before s after = ⊥
  BrokenByStraight UncalledEntry before s after = ⊥
  BrokenByStraight UncalledExit before s after = ⊥
  BrokenByStraight Unequal before s after = ⊥
  BrokenByStraight Disharmony before s after = ⊥
  BrokenByStraight NoArc before s after = ⊥
  BrokenByStraight TightRadius before s after = ⊥
  BrokenByStraight NextRadius before s after = ⊥
  BrokenByStraight ReturnRadius before s after = ⊥
  BrokenByStraight SmallTurn before s after = ⊥
  -- 10: a run between two curves, named by its first row, is long enough
  BrokenByStraight ShortRun before s after =
      (b d : Curve) × (ss : List Straight) × EndWith before b [] × BeginWith after ss d
      × (s.length + total ss < shortest_run_lem b.sense d.sense road.speed)
  -- 11: a run, named by its first row, is not too long
  BrokenByStraight LongRun before s after =
      (ss : List Straight) × RunBegins before × RunGoesOn after ss × (longest_run_lem road.speed < s.length + total ss)
  BrokenByStraight SlightTurn before s after = ⊥

  -- The row breaks the rule of a kind.
  abbrev pub Broken : Kind → List Row → Row → List Row → Type 0
  Broken kind before (row.Curve c) after = BrokenByCurve kind before c after
  Broken kind before (row.Straight s) after = BrokenByStraight kind before s after
