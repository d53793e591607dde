-- The computed reason explains its finding.
use Rattle.std.proofs.Common.{◌≡◌, ℕ, ◌+◌, ◌<◌, ◌^◌, List, [], ◌∷◌, ◌++◌, Some, None, Option, Decides, map, drop, length, sym, refl, ap, subst, ◌∙◌, arith}
use Rattle.std.specs.List.{IsSplitAt}
use Rattle.std.proofs.lemmas.List.{length-append, length-map, map-append, take-append-drop}
use Rattle.rows.specs.declared.end.End.{End}
use Rattle.rows.specs.declared.end.End.TheVariants as end
use Rattle.rows.specs.declared.record.RowRecord.{RowRecord}
use Rattle.rows.specs.declared.row.Curve.{Curve}
use Rattle.rows.specs.declared.row.Row.{Row}
use Rattle.rows.specs.declared.row.Row.TheVariants as row
use Rattle.rows.specs.declared.row.Sense.{Sense}
use Rattle.rows.specs.declared.row.Sense.TheVariants.{Left, Right}
use Rattle.rows.specs.declared.row.Straight.{Straight}
use Rattle.rows.specs.Ends.{length_at}
use Rattle.rows.specs.Records.{row_of}
use Rattle.findings.specs.declared.finding.Rule.{Rule}
use Rattle.findings.specs.declared.finding.Rule.TheVariants as rule
use Rattle.findings.specs.declared.finding.Side.{Side}
use Rattle.findings.specs.declared.finding.Side.TheVariants as side
use Rattle.findings.specs.Around.{total}
use Rattle.figures.specs.Runs.{shortest_run_lem, longest_run_lem}
use Rattle.figures.specs.Ranges.{next_radius_lem, least_radius_lem}
use Rattle.figures.proofs.Ranges.{next_radius_is, least_radius_is}
use Rattle.wording.specs.declared.explained.Explained.{Explained}
use Rattle.wording.specs.declared.neighbours.Neighbour.{Neighbour}
use Rattle.wording.specs.declared.reason.Clothoid.{Clothoid}
use Rattle.wording.specs.declared.reason.Reason.{Reason}
use Rattle.wording.specs.declared.reason.Reason.TheVariants.{Unadmitted, TooLong, Uncalled, Unequal, Disharmony, NoArc, TightRadius, Disagreeing, SmallTurn, ShortRun, LongRun, SlightTurn}
use Rattle.wording.specs.Beside.{told, next_curve, right_before_lem, run_on}
use Rattle.wording.specs.Explained.{side_at, ClothoidAt, NextAt, DecidesAtCurve, DecidesAtStraight, DecidesAt, IsReason, Explains}
use Rattle.wording.specs.Reasons.{end_at_lem, clothoid_at, unadmitted_of, too_long_of, uncalled_of, disharmony_of, disagreement_at, next_at, disagreement_of, curve_reason_by, alike, short_run_of, run_reason_by, reason_among}
use Rattle.wording.proofs.Beside.{first_after, next_there, run_over, run_is, last_before, last_there, right_before, right_there}

none_some : {X : Type 0} (x : X) → None ≡ Some x → ⊥
none_some x e = let z : ◌≡◌ {A = ℕ} 0 1 = cc in omega arith

-- what holds of a value holds of the one that an option has
moved : {X : Type 0} (P : X → Type 0) (x y : X) → Some x ≡ Some y → P x → P y
moved P x y e p = let is : x ≡ y = cc in subst P is p

-- ---- ends and sides

end_side : (at : Side) (one : End) → end_at_lem at ≡ Some one → at ≡ side_at one
end_side side.Whole one e = absurd (none_some one e)
end_side side.Entry one e = let is : end.Entry ≡ one = cc in ap side_at is
end_side side.Exit one e = let is : end.Exit ≡ one = cc in ap side_at is

side_end : (at : Side) (one : End) → at ≡ side_at one → end_at_lem at ≡ Some one
side_end at end.Entry e = ap end_at_lem e
side_end at end.Exit e = ap end_at_lem e

clothoid_is : (at : Side) (c : Curve) (clothoid : Clothoid) → clothoid_at (end_at_lem at) c ≡ Some clothoid → ClothoidAt at c clothoid
clothoid_is at c clothoid e = by_end (end_at_lem at) refl e
  where
    by_end : (o : Option End) → end_at_lem at ≡ o → clothoid_at o c ≡ Some clothoid → ClothoidAt at c clothoid
    by_end None q f = absurd (none_some clothoid f)
    by_end (Some one) q f = moved (λ clothoid. ClothoidAt at c clothoid) (record { end = one; length = length_at one c }) clothoid f (end_side at one q, refl)

clothoid_there : (at : Side) (c : Curve) (one : End) → at ≡ side_at one → clothoid_at (end_at_lem at) c ≡ Some (record { end = one; length = length_at one c })
clothoid_there at c one e = ap (λ (o : Option End). clothoid_at o c) (side_end at one e)

-- ---- a curve

module _ (e : Explained) (before after : List Row) (c : Curve) where
  curve_sound : (k : Rule) → e.finding.rule ≡ k → (r : Reason) → curve_reason_by k e before c after ≡ Some r → DecidesAtCurve e before after c r
  curve_sound rule.AdmittedLength is r f = by_clothoid (clothoid_at (end_at_lem e.finding.side) c) refl f
    where
      by_clothoid : (o : Option Clothoid) → clothoid_at (end_at_lem e.finding.side) c ≡ o → unadmitted_of e.least o ≡ Some r → DecidesAtCurve e before after c r
      by_clothoid None q f = absurd (none_some r f)
      by_clothoid (Some clothoid) q f = moved (DecidesAtCurve e before after c) (Unadmitted clothoid e.least) r f (is, clothoid_is e.finding.side c clothoid q, refl)
  curve_sound rule.LongestLength is r f = by_clothoid (clothoid_at (end_at_lem e.finding.side) c) refl f
    where
      by_clothoid : (o : Option Clothoid) → clothoid_at (end_at_lem e.finding.side) c ≡ o → too_long_of e.least o ≡ Some r → DecidesAtCurve e before after c r
      by_clothoid None q f = absurd (none_some r f)
      by_clothoid (Some clothoid) q f = moved (DecidesAtCurve e before after c) (TooLong clothoid e.least) r f (is, clothoid_is e.finding.side c clothoid q, refl)
  curve_sound rule.NoClothoids is r f = by_clothoid (clothoid_at (end_at_lem e.finding.side) c) refl f
    where
      by_clothoid : (o : Option Clothoid) → clothoid_at (end_at_lem e.finding.side) c ≡ o → uncalled_of o ≡ Some r → DecidesAtCurve e before after c r
      by_clothoid None q f = absurd (none_some r f)
      by_clothoid (Some clothoid) q f = moved (DecidesAtCurve e before after c) (Uncalled clothoid) r f (is, clothoid_is e.finding.side c clothoid q)
  curve_sound rule.Symmetry is r f = moved (DecidesAtCurve e before after c) (Unequal c) r f (is, refl)
  curve_sound rule.Harmony is r f = by_curve (right_before_lem before) refl f
    where
      by_curve : (o : Option Neighbour) → right_before_lem before ≡ o → disharmony_of c.entry o ≡ Some r → DecidesAtCurve e before after c r
      by_curve None q f = absurd (none_some r f)
      by_curve (Some b) q f = moved (DecidesAtCurve e before after c) (Disharmony b c.entry) r f (is, right_before before b q, refl)
  curve_sound rule.ArcLeft is r f = moved (DecidesAtCurve e before after c) (NoArc c) r f (is, refl)
  curve_sound rule.LeastRadius is r f = moved (DecidesAtCurve e before after c) (TightRadius c.radius e.road.now.least_radius) r f (is, refl, refl)
  curve_sound rule.ConsecutiveRadii is r f = by_end (end_at_lem e.finding.side) refl f
    where
      next_is : (one : End) (n : Neighbour) → next_at one before after ≡ Some n → NextAt one before after n
      next_is end.Entry n q = last_before before n q
      next_is end.Exit n q = first_after (length before + 1) after n q

      by_curve : (one : End) → e.finding.side ≡ side_at one → (o : Option Neighbour) → next_at one before after ≡ o
          → disagreement_at e.road.now one c o ≡ Some r → DecidesAtCurve e before after c r
      by_curve one s None q f = absurd (none_some r f)
      by_curve one s (Some n) q f =
          moved (DecidesAtCurve e before after c)
          (Disagreeing (record { end = one; radius = c.radius; neighbour = n; range = next_radius_lem e.road.now n.run n.curve.radius }))
          r f (is, s, refl, next_is one n q, next_radius_is e.road.now n.run n.curve.radius)

      by_end : (o : Option End) → end_at_lem e.finding.side ≡ o → disagreement_of e.road.now o before c after ≡ Some r → DecidesAtCurve e before after c r
      by_end None q f = absurd (none_some r f)
      by_end (Some one) q f = by_curve one (end_side e.finding.side one q) (next_at one before after) refl f
  curve_sound rule.SmallTurn is r f =
      let turned = c.within.1.0 in
      moved (DecidesAtCurve e before after c) (SmallTurn c (least_radius_lem c.turn)) r f (is, refl, least_radius_is c.turn (omega arith))
  curve_sound rule.ShortestRun is r f = absurd (none_some r f)
  curve_sound rule.LongestRun is r f = absurd (none_some r f)
  curve_sound rule.LeastTurn is r f = moved (DecidesAtCurve e before after c) (SlightTurn c.turn) r f (is, refl)

  -- where a reason decides, one is computed
  by_rule : (k : Rule) → e.finding.rule ≡ k → curve_reason_by e.finding.rule e before c after ≡ None → curve_reason_by k e before c after ≡ None
  by_rule k is none = ap (λ (k : Rule). curve_reason_by k e before c after) (sym is) ∙ none

  curve_there : (r : Reason) → DecidesAtCurve e before after c r → curve_reason_by e.finding.rule e before c after ≡ None → ⊥
  curve_there (Unadmitted clothoid least) h none =
      let there = clothoid_there e.finding.side c clothoid.end h.1.0 in
      none_some (Unadmitted (record { end = clothoid.end; length = length_at clothoid.end c }) e.least)
      (sym (by_rule rule.AdmittedLength h.0 none) ∙ ap (unadmitted_of e.least) there)
  curve_there (TooLong clothoid least) h none =
      let there = clothoid_there e.finding.side c clothoid.end h.1.0 in
      none_some (TooLong (record { end = clothoid.end; length = length_at clothoid.end c }) e.least)
      (sym (by_rule rule.LongestLength h.0 none) ∙ ap (too_long_of e.least) there)
  curve_there (Uncalled clothoid) h none =
      let there = clothoid_there e.finding.side c clothoid.end h.1.0 in
      none_some (Uncalled (record { end = clothoid.end; length = length_at clothoid.end c }))
      (sym (by_rule rule.NoClothoids h.0 none) ∙ ap uncalled_of there)
  curve_there (Unequal d) h none = none_some (Unequal c) (sym (by_rule rule.Symmetry h.0 none))
  curve_there (Disharmony b entry) h none = by_curve (right_before_lem before) refl (by_rule rule.Harmony h.0 none)
    where
      by_curve : (o : Option Neighbour) → right_before_lem before ≡ o → disharmony_of c.entry o ≡ None → ⊥
      by_curve None q f = right_there before b.curve h.1.0 q
      by_curve (Some d) q f = none_some (Disharmony d c.entry) (sym f)
  curve_there (NoArc d) h none = none_some (NoArc c) (sym (by_rule rule.ArcLeft h.0 none))
  curve_there (TightRadius radius least) h none = none_some (TightRadius c.radius e.road.now.least_radius) (sym (by_rule rule.LeastRadius h.0 none))
  curve_there (Disagreeing d) h none =
      let there : disagreement_of e.road.now (Some d.end) before c after ≡ None =
      ap (λ (o : Option End). disagreement_of e.road.now o before c after) (sym (side_end e.finding.side d.end h.1)) ∙ by_rule rule.ConsecutiveRadii h.0 none in
      by_curve (next_at d.end before after) refl there
    where
      next_there_at : (one : End) (n : Neighbour) → NextAt one before after n → next_at one before after ≡ None → ⊥
      next_there_at end.Entry n (ss, ends, m, t) q =
          let (at, last) = last_there before n.curve ss ends in
          none_some (record { row = at; curve = n.curve; run = told (0 + total ss) }) (sym q ∙ last)
      next_there_at end.Exit n (ss, (later, p), m, t) q = next_there 0 (length before + 1) ss n.curve later (sym (ap (next_curve 0 (length before + 1)) p) ∙ q)

      by_curve : (o : Option Neighbour) → next_at d.end before after ≡ o → disagreement_at e.road.now d.end c o ≡ None → ⊥
      by_curve None q f = next_there_at d.end d.neighbour h.3 q
      by_curve (Some n) q f =
          none_some (Disagreeing (record { end = d.end; radius = c.radius; neighbour = n; range = next_radius_lem e.road.now n.run n.curve.radius })) (sym f)
  curve_there (SmallTurn d least) h none = none_some (SmallTurn c (least_radius_lem c.turn)) (sym (by_rule rule.SmallTurn h.0 none))
  curve_there (ShortRun run same_sense shortest) h none = absurd h
  curve_there (LongRun run longest) h none = absurd h
  curve_there (SlightTurn turn) h none = none_some (SlightTurn c.turn) (sym (by_rule rule.LeastTurn h.0 none))

-- ---- a straight

pub alike_is : (one other : Sense) → Decides (alike one other) (one ≡ other)
alike_is Left Left = (λ _. refl, λ _. refl)
alike_is Left Right = (λ f. cc, λ f. absurd (let z : ◌≡◌ {A = ℕ} 0 1 = cc in omega arith))
alike_is Right Left = (λ f. cc, λ f. absurd (let z : ◌≡◌ {A = ℕ} 0 1 = cc in omega arith))
alike_is Right Right = (λ _. refl, λ _. refl)

module _ (e : Explained) (before after : List Row) (s : Straight) where
  small : s.length < 2 ^ 64
  small = let within = s.within in omega arith

  straight_sound : (k : Rule) → e.finding.rule ≡ k → (r : Reason) → run_reason_by k e before s after ≡ Some r → DecidesAtStraight e before after s r
  straight_sound rule.AdmittedLength is r f = absurd (none_some r f)
  straight_sound rule.LongestLength is r f = absurd (none_some r f)
  straight_sound rule.NoClothoids is r f = absurd (none_some r f)
  straight_sound rule.Symmetry is r f = absurd (none_some r f)
  straight_sound rule.Harmony is r f = absurd (none_some r f)
  straight_sound rule.ArcLeft is r f = absurd (none_some r f)
  straight_sound rule.LeastRadius is r f = absurd (none_some r f)
  straight_sound rule.ConsecutiveRadii is r f = absurd (none_some r f)
  straight_sound rule.SmallTurn is r f = absurd (none_some r f)
  straight_sound rule.ShortestRun is r f = by_curves (right_before_lem before) (next_curve 0 (length before + 1) after) refl refl f
    where
      by_curves : (o p : Option Neighbour) → right_before_lem before ≡ o → next_curve 0 (length before + 1) after ≡ p
          → short_run_of e.road.now (run_on s.length after) o p ≡ Some r → DecidesAtStraight e before after s r
      by_curves None p q t f = absurd (none_some r f)
      by_curves (Some b) None q t f = absurd (none_some r f)
      by_curves (Some b) (Some d) q t f =
          let ends = (right_before before b q).0 in
          let (ss, (later, reads), number, gap) = first_after (length before + 1) after d t in
          let run : run_on s.length after ≡ told (s.length + total ss) =
          ap (run_on s.length) reads ∙ run_over s.length ss (row.Curve d.curve ∷ later) small tt in
          moved (DecidesAtStraight e before after s)
          (ShortRun (run_on s.length after) (alike b.curve.sense d.curve.sense) (shortest_run_lem b.curve.sense d.curve.sense e.road.now.speed))
          r f (is, (b.curve, d.curve, ss, ends, (later, reads), run, alike_is b.curve.sense d.curve.sense, refl))
  straight_sound rule.LongestRun is r f =
      moved (DecidesAtStraight e before after s) (LongRun (run_on s.length after) (longest_run_lem e.road.now.speed)) r f
      (is, run_is s.length after small, refl)
  straight_sound rule.LeastTurn is r f = absurd (none_some r f)

  run_by_rule : (k : Rule) → e.finding.rule ≡ k → run_reason_by e.finding.rule e before s after ≡ None → run_reason_by k e before s after ≡ None
  run_by_rule k is none = ap (λ (k : Rule). run_reason_by k e before s after) (sym is) ∙ none

  straight_there : (r : Reason) → DecidesAtStraight e before after s r → run_reason_by e.finding.rule e before s after ≡ None → ⊥
  straight_there (Unadmitted clothoid least) h none = absurd h
  straight_there (TooLong clothoid least) h none = absurd h
  straight_there (Uncalled clothoid) h none = absurd h
  straight_there (Unequal d) h none = absurd h
  straight_there (Disharmony b entry) h none = absurd h
  straight_there (NoArc d) h none = absurd h
  straight_there (TightRadius radius least) h none = absurd h
  straight_there (Disagreeing d) h none = absurd h
  straight_there (SmallTurn d least) h none = absurd h
  straight_there (ShortRun run same_sense shortest) (is, (b, d, ss, ends, (later, reads), long, same, least)) none =
      by_curves (right_before_lem before) (next_curve 0 (length before + 1) after) refl refl (run_by_rule rule.ShortestRun is none)
    where
      by_curves : (o p : Option Neighbour) → right_before_lem before ≡ o → next_curve 0 (length before + 1) after ≡ p
          → short_run_of e.road.now (run_on s.length after) o p ≡ None → ⊥
      by_curves None p q t f = right_there before b ends q
      by_curves (Some one) None q t f = next_there 0 (length before + 1) ss d later (sym (ap (next_curve 0 (length before + 1)) reads) ∙ t)
      by_curves (Some one) (Some other) q t f =
          none_some
          (ShortRun (run_on s.length after) (alike one.curve.sense other.curve.sense) (shortest_run_lem one.curve.sense other.curve.sense e.road.now.speed))
          (sym f)
  straight_there (LongRun run longest) h none =
      none_some (LongRun (run_on s.length after) (longest_run_lem e.road.now.speed)) (sym (run_by_rule rule.LongestRun h.0 none))
  straight_there (SlightTurn turn) h none = absurd h

-- ---- a row among the rows

-- lists that are as long in front of one element have the same front, element and back
same_parts : (xs ys : List Row) (a b : Row) (cs ds : List Row) → xs ++ a ∷ cs ≡ ys ++ b ∷ ds → length xs ≡ length ys → (xs ≡ ys) × (a ≡ b) × (cs ≡ ds)
same_parts [] [] a b cs ds e l = (refl, cc, cc)
same_parts [] (y ∷ ys) a b cs ds e l = absurd (let z : ⊥ = omega arith in z)
same_parts (x ∷ xs) [] a b cs ds e l = absurd (let z : ⊥ = omega arith in z)
same_parts (x ∷ xs) (y ∷ ys) a b cs ds e l =
    let rest : xs ++ a ∷ cs ≡ ys ++ b ∷ ds = cc in
    let h = same_parts xs ys a b cs ds rest (omega arith) in
    let first : x ≡ y = cc in
    let tail = h.0 in
    (cc, h.1, h.2)

settled : (e : Explained) (o : Option Reason) → ((r : Reason) → o ≡ Some r → IsReason e r) → ((r : Reason) → IsReason e r → o ≡ None → ⊥) → Explains e o
settled e None sound there = λ r h. there r h refl
settled e (Some r) sound there = sound r refl

module _ (e : Explained) (before : List Row) where
  pub explained_among : (from : List Row) → map row_of e.rows.now ≡ before ++ from → length before ≡ e.finding.row → Explains e (reason_among e before from)
  explained_among [] reads number =
      λ r h.
      let p = h.reads in
      let n = h.number in
      let long : length (before ++ []) ≡ length (h.before ++ h.this ∷ h.after) = ap (λ (rows : List Row). length rows) (sym reads ∙ p) in
      omega (arith, long, number, n, length-append before [], length-append h.before (h.this ∷ h.after))
  explained_among (row.Curve c ∷ after) reads number =
      settled e (curve_reason_by e.finding.rule e before c after)
      (λ r f. record {
        before = before;
        this = row.Curve c;
        after = after;
        reads = reads;
        number = number;
        decides = curve_sound e before after c e.finding.rule refl r f;
      })
      (λ r h none.
      let parts = same_parts before h.before (row.Curve c) h.this after h.after (sym reads ∙ h.reads) (number ∙ sym h.number) in
      let at : DecidesAt e before after (row.Curve c) r =
      subst (λ (x : Row). DecidesAt e before after x r) (sym parts.1)
      (subst (λ (xs : List Row). DecidesAt e xs after h.this r) (sym parts.0)
      (subst (λ (xs : List Row). DecidesAt e h.before xs h.this r) (sym parts.2) h.decides)) in
      curve_there e before after c r at none)
  explained_among (row.Straight s ∷ after) reads number =
      settled e (run_reason_by e.finding.rule e before s after)
      (λ r f. record {
        before = before;
        this = row.Straight s;
        after = after;
        reads = reads;
        number = number;
        decides = straight_sound e before after s e.finding.rule refl r f;
      })
      (λ r h none.
      let parts = same_parts before h.before (row.Straight s) h.this after h.after (sym reads ∙ h.reads) (number ∙ sym h.number) in
      let at : DecidesAt e before after (row.Straight s) r =
      subst (λ (x : Row). DecidesAt e before after x r) (sym parts.1)
      (subst (λ (xs : List Row). DecidesAt e xs after h.this r) (sym parts.0)
      (subst (λ (xs : List Row). DecidesAt e h.before xs h.this r) (sym parts.2) h.decides)) in
      straight_there e before after s r at none)

-- the records split at the finding's row
pub explained_at : (e : Explained) (front from back : List RowRecord) (r : RowRecord) (this : Row) (result : Option Reason)
    → IsSplitAt e.rows.now e.finding.row front from → from ≡ r ∷ back → row_of r ≡ this
    → result ≡ reason_among e (map row_of front) (this ∷ map row_of back) → Explains e result
explained_at e front from back r this result split first is value =
    let parts : e.rows.now ≡ front ++ r ∷ back = sym (take-append-drop e.finding.row e.rows.now) ∙ ap (λ (xs : List RowRecord). xs ++ drop e.finding.row e.rows.now) (sym split.1) ∙ ap (λ (xs : List RowRecord). front ++ xs) (sym split.2 ∙ first) in
    let reads : map row_of e.rows.now ≡ map row_of front ++ this ∷ map row_of back =
    ap (map row_of) parts ∙ map-append row_of front (r ∷ back) ∙ ap (λ (x : Row). map row_of front ++ x ∷ map row_of back) is in
    let number : length (map row_of front) ≡ e.finding.row = length-map front row_of ∙ split.3 in
    subst (Explains e) (sym value) (explained_among e (map row_of front) (this ∷ map row_of back) reads number)
