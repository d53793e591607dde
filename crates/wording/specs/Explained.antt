-- What decides a finding: of the row that it names, its rule and its side, by the rows before and after.
use Rattle.std.specs.Prelude.{◌≡◌, ◌+◌, List, [], ◌∷◌, ◌++◌, map, length, Some, None, Option, Decides}
use Rattle.limits.specs.Least.{Smallest}
use Rattle.rows.specs.declared.end.End.{End}
use Rattle.rows.specs.declared.end.End.TheVariants as end
use Rattle.rows.specs.declared.row.Curve.{Curve}
use Rattle.rows.specs.declared.row.Row.{Row}
use Rattle.rows.specs.declared.row.Row.TheVariants as row
use Rattle.rows.specs.declared.row.Straight.{Straight}
use Rattle.rows.specs.Ends.{length_at}
use Rattle.rows.specs.Records.{row_of}
use Rattle.findings.specs.declared.finding.Rule.TheVariants as rule
use Rattle.findings.specs.declared.finding.Side.{Side}
use Rattle.findings.specs.declared.finding.Side.TheVariants as side
use Rattle.findings.specs.Around.{total, EndWith, BeginWith}
use Rattle.figures.specs.Radii.{Follows, WideEnough}
use Rattle.figures.specs.Runs.{shortest_run_lem, longest_run_lem}
use Rattle.figures.specs.Ranges.{RangeOf}
use Rattle.wording.specs.declared.explained.Explained.{Explained}
use Rattle.wording.specs.declared.neighbours.Neighbour.{Neighbour}
use Rattle.wording.specs.declared.reason.Clothoid.{Clothoid}
use Rattle.wording.specs.declared.reason.Reason.{Reason}
use Rattle.wording.specs.declared.reason.Reason.TheVariants.{Unadmitted, TooLong, Uncalled, Unequal, Disharmony, NoArc, TightRadius, Disagreeing, SmallTurn, ShortRun, LongRun, SlightTurn}
use Rattle.wording.specs.Beside.{told, RightBefore, LastBefore, FirstAfter, RunIs}

-- The side that an end of a curve is.
abbrev pub side_at : End → Side
side_at end.Entry = side.Entry
side_at end.Exit = side.Exit

-- The clothoid at a side of a curve.
abbrev pub ClothoidAt : Side → Curve → Clothoid → Type 0
ClothoidAt at c clothoid = (at ≡ side_at clothoid.end) × (clothoid.length ≡ length_at clothoid.end c)

-- The next curve at an end: the last before the row at the entry, the first after it at the exit.
abbrev pub NextAt : End → (before after : List Row) → Neighbour → Type 0
NextAt end.Entry before after n = LastBefore before n
NextAt end.Exit before after n = FirstAfter (length before + 1) after n

module _ (e : Explained) (before after : List Row) where
  -- At a curve.
  abbrev pub DecidesAtCurve : Curve → Reason → Type 0
  -- 1 to 3: the clothoid at the side; for 1 and 2 the least length that is admitted there
  DecidesAtCurve c (Unadmitted clothoid least) = (e.finding.rule ≡ rule.AdmittedLength) × ClothoidAt e.finding.side c clothoid × (least ≡ e.least)
  DecidesAtCurve c (TooLong clothoid least) = (e.finding.rule ≡ rule.LongestLength) × ClothoidAt e.finding.side c clothoid × (least ≡ e.least)
  DecidesAtCurve c (Uncalled clothoid) = (e.finding.rule ≡ rule.NoClothoids) × ClothoidAt e.finding.side c clothoid
  -- 4: both lengths
  DecidesAtCurve c (Unequal d) = (e.finding.rule ≡ rule.Symmetry) × (d ≡ c)
  -- 5: the exit of the curve right before, and the entry
  DecidesAtCurve c (Disharmony b entry) = (e.finding.rule ≡ rule.Harmony) × RightBefore before b × (entry ≡ c.entry)
  -- 6: turn, radius and both lengths
  DecidesAtCurve c (NoArc d) = (e.finding.rule ≡ rule.ArcLeft) × (d ≡ c)
  -- 7: the radius, and the road's least
  DecidesAtCurve c (TightRadius radius least) = (e.finding.rule ≡ rule.LeastRadius) × (radius ≡ c.radius) × (least ≡ e.road.now.least_radius)
  -- 8: the radius, that of the next curve at the side, and the radii that may follow it over the run between
  DecidesAtCurve c (Disagreeing d) =
      (e.finding.rule ≡ rule.ConsecutiveRadii) × (e.finding.side ≡ side_at d.end) × (d.radius ≡ c.radius)
      × NextAt d.end before after d.neighbour × RangeOf (Follows e.road.now d.neighbour.run d.neighbour.curve.radius) d.range
  -- 9: the turn, the radius, and the least radius that is wide enough
  DecidesAtCurve c (SmallTurn d least) = (e.finding.rule ≡ rule.SmallTurn) × (d ≡ c) × Smallest (WideEnough c.turn) least
  DecidesAtCurve c (ShortRun run same_sense shortest) = ⊥
  DecidesAtCurve c (LongRun run longest) = ⊥
  -- 12: the turn
  DecidesAtCurve c (SlightTurn turn) = (e.finding.rule ≡ rule.LeastTurn) × (turn ≡ c.turn)

  -- At a straight.
  abbrev pub DecidesAtStraight : Straight → Reason → Type 0
  DecidesAtStraight s (Unadmitted clothoid least) = ⊥
  DecidesAtStraight s (TooLong clothoid least) = ⊥
  DecidesAtStraight s (Uncalled clothoid) = ⊥
  DecidesAtStraight s (Unequal d) = ⊥
  DecidesAtStraight s (Disharmony b entry) = ⊥
  DecidesAtStraight s (NoArc d) = ⊥
  DecidesAtStraight s (TightRadius radius least) = ⊥
  DecidesAtStraight s (Disagreeing d) = ⊥
  DecidesAtStraight s (SmallTurn d least) = ⊥
  -- 10: the run from the row on, between two curves, whether their senses are the same, and the shortest that is advised
  DecidesAtStraight s (ShortRun run same_sense shortest) =
      (e.finding.rule ≡ rule.ShortestRun)
      × ((b d : Curve) × (ss : List Straight) × EndWith before b [] × BeginWith after ss d × (run ≡ told (s.length + total ss))
      × Decides same_sense (b.sense ≡ d.sense) × (shortest ≡ shortest_run_lem b.sense d.sense e.road.now.speed))
  -- 11: the run from the row on, and the longest that is advised
  DecidesAtStraight s (LongRun run longest) =
      (e.finding.rule ≡ rule.LongestRun) × RunIs s.length after run × (longest ≡ longest_run_lem e.road.now.speed)
  DecidesAtStraight s (SlightTurn turn) = ⊥

  abbrev pub DecidesAt : Row → Reason → Type 0
  DecidesAt (row.Curve c) reason = DecidesAtCurve c reason
  DecidesAt (row.Straight s) reason = DecidesAtStraight s reason

-- A reason of a finding: the rows have a row of its number, and there the reason decides it.
pub record IsReason (e : Explained) (reason : Reason) : Type 0 where
  pub before : List Row
  pub this : Row
  pub after : List Row
  pub reads : map row_of e.rows.now ≡ before ++ this ∷ after
  pub number : length before ≡ e.finding.row
  pub decides : DecidesAt e before after this reason

-- What explains a finding is a reason of it, or none where it has no reason.
abbrev pub Explains : Explained → Option Reason → Type 0
Explains e (Some reason) = IsReason e reason
Explains e None = (reason : Reason) → IsReason e reason → ⊥
