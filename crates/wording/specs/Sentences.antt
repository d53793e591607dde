-- What decides a finding, as one sentence with its figures in the units of a scale: what stands there, and after a semicolon what its rule requires or advises.
use Rattle.std.specs.Prelude.{ℕ, ◌+◌, Bool, true, false, cond, List, [], ◌++◌, Option, Some, None, codes, decimal, nat_lt}
use Rattle.rows.specs.declared.end.End.{End}
use Rattle.rows.specs.declared.end.End.TheVariants.{Entry, Exit}
use Rattle.rows.specs.declared.row.Curve.{Curve}
use Rattle.rows.specs.Ends.{end_word}
use Rattle.units.specs.declared.Scale.{Scale}
use Rattle.units.specs.Units.{length_text, turn_text}
use Rattle.wording.specs.declared.neighbours.Neighbour.{Neighbour}
use Rattle.wording.specs.declared.reason.Clothoid.{Clothoid}
use Rattle.wording.specs.declared.reason.Disagreement.{Disagreement}
use Rattle.wording.specs.declared.reason.Reason.{Reason}
use Rattle.wording.specs.declared.reason.Reason.TheVariants.{Unadmitted, TooLong, Uncalled, Unequal, Disharmony, NoArc, TightRadius, Disagreeing, SmallTurn, ShortRun, LongRun, SlightTurn}
use Rattle.figures.specs.Lengths.{longest_length_lem, least_beside_lem, longest_beside_lem, longest_pair_lem}

-- At the exit the radii are judged in the return sense.
abbrev pub sense_text : End → List ℕ
sense_text Entry = []
sense_text Exit = codes " in the return sense"

abbrev pub curves_text : (same_sense : Bool) → List ℕ
curves_text true = codes "curves of the same sense"
curves_text false = codes "opposite curves"

module _ (scale : Scale) where
  abbrev pub clothoid_text : Clothoid → List ℕ
  clothoid_text clothoid = end_word clothoid.end ++ (codes " clothoid of " ++ length_text scale clothoid.length)

  -- A run between two curves is named where there is one.
  abbrev pub over_text : (run : ℕ) → List ℕ
  over_text run = cond (nat_lt 0 run) (codes " over " ++ (length_text scale run ++ codes " of straight")) []

  abbrev pub range_text : (least : ℕ) → (greatest : Option ℕ) → List ℕ
  range_text least (Some greatest) = codes "from " ++ (length_text scale least ++ (codes " to " ++ length_text scale greatest))
  range_text least None = codes "at least " ++ length_text scale least

  abbrev pub unadmitted_text : Clothoid → (least : Option ℕ) → List ℕ
  unadmitted_text clothoid (Some least) = clothoid_text clothoid ++ (codes "; at least " ++ (length_text scale least ++ codes " required"))
  unadmitted_text clothoid None = clothoid_text clothoid ++ codes "; no length is admitted"

  abbrev pub too_long_text : Clothoid → (least : Option ℕ) → List ℕ
  too_long_text clothoid (Some least) = clothoid_text clothoid ++ (codes "; at most " ++ (length_text scale (longest_length_lem least) ++ codes " required"))
  too_long_text clothoid None = clothoid_text clothoid ++ codes "; at most 3/2 of the least admitted length required"

  abbrev pub uncalled_text : Clothoid → List ℕ
  uncalled_text clothoid = clothoid_text clothoid ++ (codes " on a curve that has none; " ++ (length_text scale 0 ++ codes " required"))

  abbrev pub unequal_text : Curve → List ℕ
  unequal_text c =
      codes "entry of " ++ (length_text scale c.entry ++ (codes " and exit of " ++ (length_text scale c.exit ++ codes "; equal lengths required in groups 1 and 2")))

  abbrev pub disharmony_text : Neighbour → (entry : ℕ) → List ℕ
  disharmony_text before entry =
      codes "entry of " ++ (length_text scale entry ++ (codes " beside the exit of " ++ (length_text scale before.curve.exit ++ (
      codes " in row " ++ (decimal before.row ++ (codes "; " ++ (
      range_text (least_beside_lem before.curve.exit) (Some (longest_beside_lem before.curve.exit)) ++ codes " required")))))))

  abbrev pub no_arc_text : Curve → List ℕ
  no_arc_text c =
      codes "clothoids of " ++ (length_text scale (c.entry + c.exit) ++ (
      codes " together; at most " ++ (length_text scale (longest_pair_lem c) ++ codes " leaves an arc")))

  abbrev pub tight_radius_text : (radius least : ℕ) → List ℕ
  tight_radius_text radius least = codes "radius of " ++ (length_text scale radius ++ (codes "; at least " ++ (length_text scale least ++ codes " required")))

  abbrev pub disagreement_text : Disagreement → List ℕ
  disagreement_text d =
      codes "radius of " ++ (length_text scale d.radius ++ (codes " after " ++ (length_text scale d.neighbour.curve.radius ++ (
      codes " in row " ++ (decimal d.neighbour.row ++ (over_text d.neighbour.run ++ (codes "; " ++ (
      range_text d.range.least d.range.greatest ++ (codes " required" ++ sense_text d.end)))))))))

  abbrev pub small_turn_text : Curve → (least : ℕ) → List ℕ
  small_turn_text c least =
      codes "radius of " ++ (length_text scale c.radius ++ (codes " with a turn of " ++ (turn_text scale c.turn ++ (
      codes "; at least " ++ (length_text scale least ++ codes " required")))))

  abbrev pub short_run_text : (run : ℕ) (same_sense : Bool) (shortest : ℕ) → List ℕ
  short_run_text run same_sense shortest =
      codes "straight of " ++ (length_text scale run ++ (codes " between " ++ (curves_text same_sense ++ (
      codes "; at least " ++ (length_text scale shortest ++ codes " advised")))))

  abbrev pub long_run_text : (run longest : ℕ) → List ℕ
  long_run_text run longest = codes "straight of " ++ (length_text scale run ++ (codes "; at most " ++ (length_text scale longest ++ codes " advised")))

  abbrev pub slight_turn_text : (turn : ℕ) → List ℕ
  slight_turn_text turn = codes "turn of " ++ (turn_text scale turn ++ (codes "; at least " ++ (turn_text scale 20_000 ++ codes " advised")))

  abbrev pub reason_text : Reason → List ℕ
  reason_text (Unadmitted clothoid least) = unadmitted_text clothoid least
  reason_text (TooLong clothoid least) = too_long_text clothoid least
  reason_text (Uncalled clothoid) = uncalled_text clothoid
  reason_text (Unequal c) = unequal_text c
  reason_text (Disharmony before entry) = disharmony_text before entry
  reason_text (NoArc c) = no_arc_text c
  reason_text (TightRadius radius least) = tight_radius_text radius least
  reason_text (Disagreeing d) = disagreement_text d
  reason_text (SmallTurn c least) = small_turn_text c least
  reason_text (ShortRun run same_sense shortest) = short_run_text run same_sense shortest
  reason_text (LongRun run longest) = long_run_text run longest
  reason_text (SlightTurn turn) = slight_turn_text turn

  -- Where there is no reason, the row is not there, or is not of the kind that the rule speaks of.
  abbrev pub sentence_text : Option Reason → List ℕ
  sentence_text (Some reason) = reason_text reason
  sentence_text None = codes "the row is not there"
