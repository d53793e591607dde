-- Every finding that the rules give has its reason.
use Rattle.std.proofs.Common.{◌≡◌, ◌+◌, List, [], ◌∷◌, ◌++◌, Some, None, Option, IsSome, map, length, refl, ap, arith, sym}
use Rattle.std.proofs.lemmas.List.{length-append}
use Rattle.rows.specs.declared.end.End.TheVariants as end
use Rattle.rows.specs.declared.row.Curve.{Curve}
use Rattle.rows.specs.declared.row.Row.{Row}
use Rattle.rows.specs.declared.row.Row.TheVariants as row
use Rattle.rows.specs.declared.row.Straight.{Straight}
use Rattle.rows.specs.Records.{row_of}
use Rattle.findings.specs.declared.finding.Finding.{Finding}
use Rattle.findings.specs.declared.kind.Kind.{Kind}
use Rattle.findings.specs.declared.kind.Kind.TheVariants as kind
use Rattle.findings.specs.Around.{straights, total, EndWith}
use Rattle.findings.specs.Findings.{rule_of, side_of, Found}
use Rattle.findings.specs.Rules.{Admission, BrokenByCurve, BrokenByStraight, Broken}
use Rattle.figures.specs.Runs.{shortest_run_lem, longest_run_lem}
use Rattle.figures.specs.Ranges.{next_radius_lem, least_radius_lem}
use Rattle.figures.proofs.Ranges.{next_radius_is, least_radius_is}
use Rattle.wording.specs.declared.explained.Explained.{Explained}
use Rattle.wording.specs.declared.neighbours.Neighbour.{Neighbour}
use Rattle.wording.specs.declared.reason.Reason.{Reason}
use Rattle.wording.specs.declared.reason.Reason.TheVariants.{Unadmitted, TooLong, Uncalled, Unequal, Disharmony, NoArc, TightRadius, Disagreeing, SmallTurn, ShortRun, LongRun, SlightTurn}
use Rattle.wording.specs.Beside.{told}
use Rattle.wording.specs.Explained.{DecidesAtCurve, DecidesAtStraight, DecidesAt, IsReason, Explains}
use Rattle.wording.specs.Reasons.{alike}
use Rattle.wording.proofs.Beside.{length_straights}
use Rattle.wording.proofs.Decided.{alike_is}

ended : (before : List Row) (c : Curve) (ss : List Straight) (ends : EndWith before c ss) → length ends.0 + 1 + length ss ≡ length before
ended before c ss (earlier, q) =
    let long : length before ≡ length (earlier ++ row.Curve c ∷ straights ss) = ap (λ (rows : List Row). length rows) q in
    omega (arith, long, length-append earlier (row.Curve c ∷ straights ss), length_straights ss)

module _ (e : Explained) (admission : Admission) (before after : List Row) where
  at_curve : (k : Kind) (c : Curve) → e.finding.rule ≡ rule_of k → e.finding.side ≡ side_of k → BrokenByCurve e.road.now admission k before c after
      → (r : Reason) × DecidesAtCurve e before after c r
  at_curve kind.UnadmittedEntry c is at broken = (Unadmitted (record { end = end.Entry; length = c.entry }) e.least, (is, (at, refl), refl))
  at_curve kind.UnadmittedExit c is at broken = (Unadmitted (record { end = end.Exit; length = c.exit }) e.least, (is, (at, refl), refl))
  at_curve kind.LongEntry c is at broken = (TooLong (record { end = end.Entry; length = c.entry }) e.least, (is, (at, refl), refl))
  at_curve kind.LongExit c is at broken = (TooLong (record { end = end.Exit; length = c.exit }) e.least, (is, (at, refl), refl))
  at_curve kind.UncalledEntry c is at broken = (Uncalled (record { end = end.Entry; length = c.entry }), (is, (at, refl)))
  at_curve kind.UncalledExit c is at broken = (Uncalled (record { end = end.Exit; length = c.exit }), (is, (at, refl)))
  at_curve kind.Unequal c is at broken = (Unequal c, (is, refl))
  at_curve kind.Disharmony c is at (calling, (b, ends, other, apart)) =
      let whole = ended before b [] ends in
      (Disharmony (record { row = length ends.0; curve = b; run = 0 }) c.entry, (is, (ends, omega (arith, whole), refl), refl))
  at_curve kind.NoArc c is at broken = (NoArc c, (is, refl))
  at_curve kind.TightRadius c is at broken = (TightRadius c.radius e.road.now.least_radius, (is, refl, refl))
  at_curve kind.NextRadius c is at (b, ss, ends, apart) =
      let n : Neighbour = record { row = length ends.0; curve = b; run = told (total ss) } in (
        Disagreeing (record { end = end.Entry; radius = c.radius; neighbour = n; range = next_radius_lem e.road.now n.run b.radius }),
        (is, at, refl, (ss, ends, ended before b ss ends, refl), next_radius_is e.road.now n.run b.radius),
      )
  at_curve kind.ReturnRadius c is at (conventional, (d, ss, begins, apart)) =
      let n : Neighbour = record { row = length before + 1 + length ss; curve = d; run = told (total ss) } in (
        Disagreeing (record { end = end.Exit; radius = c.radius; neighbour = n; range = next_radius_lem e.road.now n.run d.radius }),
        (is, at, refl, (ss, begins, refl, refl), next_radius_is e.road.now n.run d.radius),
      )
  at_curve kind.SmallTurn c is at broken =
      let turned = c.within.1.0 in
      (SmallTurn c (least_radius_lem c.turn), (is, refl, least_radius_is c.turn (omega arith)))
  at_curve kind.ShortRun c is at broken = absurd broken
  at_curve kind.LongRun c is at broken = absurd broken
  at_curve kind.SlightTurn c is at broken = (SlightTurn c.turn, (is, refl))

  at_straight : (k : Kind) (s : Straight) → e.finding.rule ≡ rule_of k → BrokenByStraight e.road.now admission k before s after
      → (r : Reason) × DecidesAtStraight e before after s r
  at_straight kind.UnadmittedEntry s is broken = absurd broken
  at_straight kind.UnadmittedExit s is broken = absurd broken
  at_straight kind.LongEntry s is broken = absurd broken
  at_straight kind.LongExit s is broken = absurd broken
  at_straight kind.UncalledEntry s is broken = absurd broken
  at_straight kind.UncalledExit s is broken = absurd broken
  at_straight kind.Unequal s is broken = absurd broken
  at_straight kind.Disharmony s is broken = absurd broken
  at_straight kind.NoArc s is broken = absurd broken
  at_straight kind.TightRadius s is broken = absurd broken
  at_straight kind.NextRadius s is broken = absurd broken
  at_straight kind.ReturnRadius s is broken = absurd broken
  at_straight kind.SmallTurn s is broken = absurd broken
  at_straight kind.ShortRun s is (b, d, ss, ends, begins, short) = (
    ShortRun (told (s.length + total ss)) (alike b.sense d.sense) (shortest_run_lem b.sense d.sense e.road.now.speed),
    (is, (b, d, ss, ends, begins, refl, alike_is b.sense d.sense, refl)),
  )
  at_straight kind.LongRun s is (ss, begins, goes, long) =
      (LongRun (told (s.length + total ss)) (longest_run_lem e.road.now.speed), (is, (ss, goes, refl), refl))
  at_straight kind.SlightTurn s is broken = absurd broken

  at_row : (k : Kind) (this : Row) → e.finding.rule ≡ rule_of k → e.finding.side ≡ side_of k → Broken e.road.now admission k before this after
      → (r : Reason) × DecidesAt e before after this r
  at_row k (row.Curve c) is at broken = at_curve k c is at broken
  at_row k (row.Straight s) is at broken = at_straight k s is broken

module _ (e : Explained) (admission : Admission) (found : Found e.road.now admission (map row_of e.rows.now) e.finding) where
  has_reason : (r : Reason) × IsReason e r
  has_reason =
      let (r, decides) = at_row e admission found.before found.after found.kind found.this
      (ap (λ (f : Finding). f.rule) found.is) (ap (λ (f : Finding). f.side) found.is) found.broken in (
        r,
        record {
          before = found.before;
          this = found.this;
          after = found.after;
          reads = found.reads;
          number = sym (ap (λ (f : Finding). f.row) found.is);
          decides = decides;
        },
      )

  pub found_explained : (o : Option Reason) → Explains e o → IsSome o
  found_explained None never = absurd (never has_reason.0 has_reason.1)
  found_explained (Some r) h = refl
