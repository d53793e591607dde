-- The reason of a finding, computed, and the texts of it. The contract of `reason` shows that it explains the finding.
use Rattle.std.specs.Prelude.{ℕ, ◌+◌, Bool, true, false, List, [], ◌∷◌, map, take, drop, length, Some, None, Option}
use Rattle.road.specs.declared.road.Road.{Road}
use Rattle.rows.specs.declared.end.End.{End}
use Rattle.rows.specs.declared.end.End.TheVariants as end
use Rattle.rows.specs.declared.row.Curve.{Curve}
use Rattle.rows.specs.declared.row.Row.{Row}
use Rattle.rows.specs.declared.row.Row.TheVariants as row
use Rattle.rows.specs.declared.row.Sense.{Sense}
use Rattle.rows.specs.declared.row.Sense.TheVariants.{Left, Right}
use Rattle.rows.specs.declared.row.Straight.{Straight}
use Rattle.rows.specs.Ends.{length_at}
use Rattle.rows.specs.Records.{row_of}
use Rattle.findings.specs.declared.finding.Rule.{Rule}
use Rattle.findings.specs.declared.finding.Rule.TheVariants as rule
use Rattle.findings.specs.declared.finding.Side.{Side}
use Rattle.findings.specs.declared.finding.Side.TheVariants as side
use Rattle.figures.specs.Runs.{shortest_run_lem, longest_run_lem}
use Rattle.figures.specs.Ranges.{next_radius_lem, least_radius_lem}
use Rattle.wording.specs.declared.explained.Explained.{Explained}
use Rattle.wording.specs.declared.neighbours.Neighbour.{Neighbour}
use Rattle.wording.specs.declared.reason.Clothoid.{Clothoid}
use Rattle.wording.specs.declared.reason.Reason.{Reason}
use Rattle.wording.specs.declared.reason.Reason.TheVariants.{Unadmitted, TooLong, Uncalled, Unequal, Disharmony, NoArc, TightRadius, Disagreeing, SmallTurn, ShortRun, LongRun, SlightTurn}
use Rattle.wording.specs.Beside.{next_curve, last_curve_lem, right_before_lem, run_on}

abbrev pub end_at_lem : Side → Option End
end_at_lem side.Whole = None
end_at_lem side.Entry = Some end.Entry
end_at_lem side.Exit = Some end.Exit

-- The clothoid at an end, if that is one.
abbrev pub clothoid_at : Option End → Curve → Option Clothoid
clothoid_at None c = None
clothoid_at (Some at) c = Some (record { end = at; length = length_at at c })

abbrev pub unadmitted_of : (least : Option ℕ) → Option Clothoid → Option Reason
unadmitted_of least None = None
unadmitted_of least (Some clothoid) = Some (Unadmitted clothoid least)

abbrev pub too_long_of : (least : Option ℕ) → Option Clothoid → Option Reason
too_long_of least None = None
too_long_of least (Some clothoid) = Some (TooLong clothoid least)

abbrev pub uncalled_of : Option Clothoid → Option Reason
uncalled_of None = None
uncalled_of (Some clothoid) = Some (Uncalled clothoid)

abbrev pub disharmony_of : (entry : ℕ) → Option Neighbour → Option Reason
disharmony_of entry None = None
disharmony_of entry (Some before) = Some (Disharmony before entry)

-- The radius against that of the next curve at an end.
abbrev pub disagreement_at : Road → End → Curve → Option Neighbour → Option Reason
disagreement_at road at c None = None
disagreement_at road at c (Some n) =
    Some (Disagreeing (record { end = at; radius = c.radius; neighbour = n; range = next_radius_lem road n.run n.curve.radius }))

abbrev pub next_at : End → (before after : List Row) → Option Neighbour
next_at end.Entry before after = last_curve_lem before
next_at end.Exit before after = next_curve 0 (length before + 1) after

abbrev pub disagreement_of : Road → Option End → (before : List Row) → Curve → (after : List Row) → Option Reason
disagreement_of road None before c after = None
disagreement_of road (Some at) before c after = disagreement_at road at c (next_at at before after)

-- What decides a finding at a curve.
abbrev pub curve_reason_by : Rule → Explained → (before : List Row) → Curve → (after : List Row) → Option Reason
curve_reason_by rule.AdmittedLength e before c after = unadmitted_of e.least (clothoid_at (end_at_lem e.finding.side) c)
curve_reason_by rule.LongestLength e before c after = too_long_of e.least (clothoid_at (end_at_lem e.finding.side) c)
curve_reason_by rule.NoClothoids e before c after = uncalled_of (clothoid_at (end_at_lem e.finding.side) c)
curve_reason_by rule.Symmetry e before c after = Some (Unequal c)
curve_reason_by rule.Harmony e before c after = disharmony_of c.entry (right_before_lem before)
curve_reason_by rule.ArcLeft e before c after = Some (NoArc c)
curve_reason_by rule.LeastRadius e before c after = Some (TightRadius c.radius e.road.now.least_radius)
curve_reason_by rule.ConsecutiveRadii e before c after = disagreement_of e.road.now (end_at_lem e.finding.side) before c after
curve_reason_by rule.SmallTurn e before c after = Some (SmallTurn c (least_radius_lem c.turn))
curve_reason_by rule.ShortestRun e before c after = None
curve_reason_by rule.LongestRun e before c after = None
curve_reason_by rule.LeastTurn e before c after = Some (SlightTurn c.turn)

-- Whether two senses are the same.
abbrev pub alike : Sense → Sense → Bool
alike Left Left = true
alike Left Right = false
alike Right Left = false
alike Right Right = true

abbrev pub short_run_of : Road → (run : ℕ) → (before after : Option Neighbour) → Option Reason
short_run_of road run None after = None
short_run_of road run (Some b) None = None
short_run_of road run (Some b) (Some d) = Some (ShortRun run (alike b.curve.sense d.curve.sense) (shortest_run_lem b.curve.sense d.curve.sense road.speed))

-- What decides a finding at a straight.
abbrev pub run_reason_by : Rule → Explained → (before : List Row) → Straight → (after : List Row) → Option Reason
run_reason_by rule.AdmittedLength e before s after = None
run_reason_by rule.LongestLength e before s after = None
run_reason_by rule.NoClothoids e before s after = None
run_reason_by rule.Symmetry e before s after = None
run_reason_by rule.Harmony e before s after = None
run_reason_by rule.ArcLeft e before s after = None
run_reason_by rule.LeastRadius e before s after = None
run_reason_by rule.ConsecutiveRadii e before s after = None
run_reason_by rule.SmallTurn e before s after = None
run_reason_by rule.ShortestRun e before s after =
    short_run_of e.road.now (run_on s.length after) (right_before_lem before) (next_curve 0 (length before + 1) after)
run_reason_by rule.LongestRun e before s after = Some (LongRun (run_on s.length after) (longest_run_lem e.road.now.speed))
run_reason_by rule.LeastTurn e before s after = None

-- By the rows before the finding's row, and the rows from it on.
abbrev pub reason_among : Explained → (before from : List Row) → Option Reason
reason_among e before [] = None
reason_among e before (row.Curve c ∷ after) = curve_reason_by e.finding.rule e before c after
reason_among e before (row.Straight s ∷ after) = run_reason_by e.finding.rule e before s after

abbrev pub reason_of : Explained → Option Reason
reason_of e = reason_among e (map row_of (take e.finding.row e.rows.now)) (map row_of (drop e.finding.row e.rows.now))
