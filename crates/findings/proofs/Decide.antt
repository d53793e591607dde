-- Each kind's test is true where its rule is broken, and only there.
use Rattle.std.proofs.Common.{◌≡◌, ℕ, ◌+◌, ◌<◌, Bool, true, false, cond, ◌&&◌, ltb, List, [], Some, None, Decides, Option, sym, refl, ap, ◌∙◌, arith}
use Rattle.std.proofs.lemmas.Bool.{false≢true, both_ways, ltb-true, lt-ltb, eqb-true, eq-eqb, and_parts, and_from}
use Rattle.std.proofs.lemmas.Bool.Decides.{Decides-at, Decides-like, Decides-not, Decides-and, Decides-ltb, Decides-eqb}
use Rattle.road.specs.declared.road.Road.{Road}
use Rattle.limits.specs.declared.place.Place.{Place}
use Rattle.limits.specs.Admission.{In, UpToLongest}
use Rattle.limits.specs.Least.{LeastOf}
use Rattle.rows.proofs.Leasts.{least_in_is}
use Rattle.rows.specs.declared.row.Curve.{Curve}
use Rattle.rows.specs.declared.row.Row.{Row}
use Rattle.rows.specs.declared.row.Row.TheVariants as row
use Rattle.rows.specs.declared.row.Straight.{Straight}
use Rattle.rows.specs.Curves.{place_of, Calling}
use Rattle.rows.specs.Leasts.{least_in}
use Rattle.findings.specs.declared.kind.Kind.{Kind}
use Rattle.findings.specs.declared.kind.Kind.TheVariants.{UnadmittedEntry, UnadmittedExit, LongEntry, LongExit, UncalledEntry, UncalledExit, Unequal, Disharmony, NoArc, TightRadius, NextRadius, ReturnRadius, SmallTurn, ShortRun, LongRun, SlightTurn}
use Rattle.findings.specs.declared.walk.Clothoids.TheVariants.{Uncalled, Called}
use Rattle.findings.specs.declared.walk.Flank.{Flank}
use Rattle.findings.specs.Around.{total, EndWith, BeginWith, RunBegins, RunGoesOn}
use Rattle.findings.specs.Rules.{Admission, BrokenByCurve, BrokenByStraight, Broken}
use Rattle.findings.specs.Walk.{nothing, reached, begins, calls, discordant, disharmonious, strays, short_between, context_of, curve_breaks_lem, straight_breaks_lem, breaks}
use Rattle.findings.proofs.Around.{walked, behind_has, behind_is, just_before, run_begins, begins_has, ahead_has, ahead_is, run_has, run_is}
use Rattle.figures.specs.Lengths.{Harmonious}
use Rattle.figures.specs.Radii.{Follows}
use Rattle.figures.specs.Runs.{shortest_run_lem, longest_run_lem}
use Rattle.figures.proofs.Followed.{decides_follows}
use Rattle.figures.proofs.Tests.{decides_harmonious, decides_arcless, decides_cramped}
use Rattle.findings.proofs.Clothoids.{decides_calls}
use Rattle.findings.proofs.Lengths.{decides_unadmitted, decides_too_long, decides_uncalled}

decides_never : Decides false ⊥
decides_never = (λ e. absurd (false≢true e), λ h. absurd h)

decides_true : (b : Bool) → Decides b (b ≡ true)
decides_true b = (λ e. e, λ e. e)

-- A test on the nearest curve and the run up to it, of what lies behind a position or ahead of it.
module _ (test : Option Curve → ℕ → Bool) (Fact : Curve → ℕ → Type 0) (at_none : (n : ℕ) → test None n ≡ false)
    (at_some : (c : Curve) (n : ℕ) → Decides (test (Some c) n) (Fact c n)) where
  behind_by : (before : List Row) (o : Option Curve) → (walked nothing before).curve ≡ o → test o (walked nothing before).run ≡ true
      → (b : Curve) × (ss : List Straight) × EndWith before b ss × Fact b (total ss)
  behind_by before None q e = absurd (both_ways _ (at_none (walked nothing before).run) e)
  behind_by before (Some b) q e =
      let (ss, ends, n) = behind_is before b q in
      (b, ss, ends, (at_some b (total ss)).0 (ap (test (Some b)) (sym n) ∙ e))

  behind_decides : (before : List Row)
      → Decides (test (walked nothing before).curve (walked nothing before).run) ((b : Curve) × (ss : List Straight) × EndWith before b ss × Fact b (total ss))
  behind_decides before = (
    behind_by before (walked nothing before).curve refl,
    λ (b, ss, ends, fact). let (x, y) = behind_has before b ss ends in rw (x, y) ((at_some b (total ss)).1 fact),
  )

  ahead_by : (after : List Row) (o : Option Curve) → (reached 0 after).curve ≡ o → test o (reached 0 after).run ≡ true
      → (d : Curve) × (ss : List Straight) × BeginWith after ss d × Fact d (total ss)
  ahead_by after None q e = absurd (both_ways _ (at_none (reached 0 after).run) e)
  ahead_by after (Some d) q e =
      let (ss, begin, n) = ahead_is 0 after d q in
      let same : total ss ≡ (reached 0 after).run = omega arith in
      (d, ss, begin, (at_some d (total ss)).0 (ap (test (Some d)) same ∙ e))

  ahead_decides : (after : List Row)
      → Decides (test (reached 0 after).curve (reached 0 after).run) ((d : Curve) × (ss : List Straight) × BeginWith after ss d × Fact d (total ss))
  ahead_decides after = (
    ahead_by after (reached 0 after).curve refl,
    λ (d, ss, (later, q), fact).
        let same : total ss ≡ 0 + total ss = omega arith in
        rw (q, ahead_has 0 ss d later, ← same) ((at_some d (total ss)).1 fact),
  )

-- A test on the curve just behind a position.
module _ (test : Option Curve → Bool) (Fact : Curve → Type 0) (at_none : test None ≡ false) (at_some : (b : Curve) → Decides (test (Some b)) (Fact b)) where
  just_by : (before : List Row) (o : Option Curve) → (walked nothing before).curve ≡ o → (begins (walked nothing before) && test o) ≡ true
      → (b : Curve) × EndWith before b [] × Fact b
  just_by before None q e = absurd (both_ways _ at_none (and_parts _ (test None) e).1)
  just_by before (Some b) q e =
      let (x, y) = and_parts (begins (walked nothing before)) (test (Some b)) e in
      (b, just_before before b q (eqb-true (walked nothing before).run 0 x), (at_some b).0 y)

  just_decides : (before : List Row)
      → Decides (begins (walked nothing before) && test (walked nothing before).curve) ((b : Curve) × EndWith before b [] × Fact b)
  just_decides before = (
    just_by before (walked nothing before).curve refl,
    λ (b, ends, fact).
        let (x, y) = behind_has before b [] ends in
        and_from _ _ (eq-eqb (walked nothing before).run 0 y) (ap test x ∙ (at_some b).1 fact),
  )

decides_begins : (before : List Row) → Decides (begins (walked nothing before)) (RunBegins before)
decides_begins before = (
  λ e. run_begins before (eqb-true (walked nothing before).run 0 e),
  λ h. eq-eqb (walked nothing before).run 0 (begins_has before h),
)

-- What a row that looks ahead sees there.
seen_ahead : (b : Bool) (test : Flank → Bool) (x y : Flank) → (b && test (cond b x y)) ≡ (b && test x)
seen_ahead true test x y = refl
seen_ahead false test x y = refl

-- A test that a curve which calls for clothoids has to pass.
if_called : (road : Road) (b : Bool) (least : Option ℕ) (behind : Flank) (c : Curve)
    → disharmonious road (cond b (Called least) Uncalled) behind c ≡ (b && (begins behind && discordant road behind.curve c))
if_called road true least behind c = refl
if_called road false least behind c = refl

module _ (road : Road) (admission : Admission) (lawful : (place : Place) → UpToLongest (admission place)) where
  module _ (before : List Row) (c : Curve) (after : List Row) where
    abbrev test_here : ℕ → Bool
    test_here = admission (place_of road c)

    least_here : LeastOf (In test_here) (least_in test_here)
    least_here = least_in_is test_here (lawful (place_of road c))

    -- rule 5
    discordant_with : (b : Curve) → Decides (discordant road (Some b) c) (Calling road b × (Harmonious b.exit c.entry → ⊥))
    discordant_with b = Decides-and _ _ (decides_calls road b) (Decides-not _ (decides_harmonious b.exit c.entry))

    disharmony_decides : Decides (disharmonious road (cond (calls road c) (Called (least_in test_here)) Uncalled) (walked nothing before) c)
        (BrokenByCurve road admission Disharmony before c after)
    disharmony_decides =
        Decides-at _ _ (if_called road (calls road c) (least_in test_here) (walked nothing before) c)
        (Decides-and (calls road c) _ (decides_calls road c)
        (Decides-like _ (λ (b, ends, both). (b, ends, both.0, both.1)) (λ (b, ends, calling, apart). (b, ends, (calling, apart)))
        (just_decides (λ o. discordant road o c) (λ b. Calling road b × (Harmonious b.exit c.entry → ⊥)) refl discordant_with before)))

    -- rule 8
    strays_from : (b : Curve) (n : ℕ) → Decides (strays road (Some b) n c) (Follows road n b.radius c.radius → ⊥)
    strays_from b n = Decides-not _ (decides_follows road n b.radius c.radius)

    curve_decides : (kind : Kind) → Decides (curve_breaks_lem road kind (context_of road admission (walked nothing before) (row.Curve c) after) c)
        (BrokenByCurve road admission kind before c after)
    curve_decides UnadmittedEntry =
        decides_unadmitted _ c.entry test_here (calls road c) (least_in test_here) (decides_calls road c) (lawful (place_of road c))
        c.within.1.1.0 least_here
    curve_decides UnadmittedExit =
        decides_unadmitted _ c.exit test_here (calls road c) (least_in test_here) (decides_calls road c) (lawful (place_of road c))
        c.within.1.1.1 least_here
    curve_decides LongEntry = decides_too_long _ c.entry test_here (calls road c) (least_in test_here) (decides_calls road c) least_here
    curve_decides LongExit = decides_too_long _ c.exit test_here (calls road c) (least_in test_here) (decides_calls road c) least_here
    curve_decides UncalledEntry = decides_uncalled _ c.entry test_here (calls road c) (least_in test_here) (decides_calls road c)
    curve_decides UncalledExit = decides_uncalled _ c.exit test_here (calls road c) (least_in test_here) (decides_calls road c)
    curve_decides Unequal = Decides-and _ _ (decides_true road.symmetric) (Decides-not _ (Decides-eqb c.entry c.exit))
    curve_decides Disharmony = disharmony_decides
    curve_decides NoArc = decides_arcless c
    curve_decides TightRadius = Decides-ltb c.radius road.least_radius
    curve_decides NextRadius =
        behind_decides (λ o n. strays road o n c) (λ b n. Follows road n b.radius c.radius → ⊥) (λ n. refl) strays_from before
    curve_decides ReturnRadius =
        Decides-and _ _ (decides_true road.both_senses)
        (ahead_decides (λ o n. strays road o n c) (λ d n. Follows road n d.radius c.radius → ⊥) (λ n. refl) strays_from after)
    curve_decides SmallTurn = decides_cramped c
    curve_decides ShortRun = decides_never
    curve_decides LongRun = decides_never
    curve_decides SlightTurn = Decides-ltb c.turn 20_000

  module _ (before : List Row) (s : Straight) (after : List Row) where
    -- rule 10
    abbrev ShortTo : Curve → Type 0
    ShortTo b =
        (d : Curve) × (ss : List Straight) × BeginWith after ss d × (s.length + total ss < shortest_run_lem b.sense d.sense road.speed)

    short_to : (b : Curve) → Decides (short_between road (Some b) (s.length + (reached 0 after).run) (reached 0 after).curve) (ShortTo b)
    short_to b =
        ahead_decides (λ o n. short_between road (Some b) (s.length + n) o)
        (λ d n. s.length + n < shortest_run_lem b.sense d.sense road.speed) (λ n. refl)
        (λ d n. Decides-ltb (s.length + n) (shortest_run_lem b.sense d.sense road.speed)) after

    short_decides : Decides (straight_breaks_lem road ShortRun (context_of road admission (walked nothing before) (row.Straight s) after) s)
        (BrokenByStraight road admission ShortRun before s after)
    short_decides =
        Decides-at _ _ (seen_ahead (begins (walked nothing before)) (λ x. short_between road (walked nothing before).curve (s.length + x.run) x.curve) (reached 0 after) nothing)
        (Decides-like _ (λ (b, ends, (d, ss, begin, less)). (b, d, ss, ends, begin, less)) (λ (b, d, ss, ends, begin, less). (b, ends, (d, ss, begin, less)))
        (just_decides (λ o. short_between road o (s.length + (reached 0 after).run) (reached 0 after).curve) ShortTo refl short_to before))

    -- rule 11
    goes_on : Decides (ltb (longest_run_lem road.speed) (s.length + (reached 0 after).run))
        ((ss : List Straight) × RunGoesOn after ss × (longest_run_lem road.speed < s.length + total ss))
    goes_on = (
      λ e.
          let (ss, goes, n) = run_is 0 after in
          let less = ltb-true (longest_run_lem road.speed) (s.length + (reached 0 after).run) e in
          (ss, goes, omega arith),
      λ (ss, (later, q, free), less).
          let n : (reached 0 after).run ≡ 0 + total ss = ap (λ (xs : List Row). (reached 0 xs).run) q ∙ run_has 0 ss later free in
          lt-ltb (longest_run_lem road.speed) (s.length + (reached 0 after).run) (omega arith),
    )

    long_decides : Decides (straight_breaks_lem road LongRun (context_of road admission (walked nothing before) (row.Straight s) after) s)
        (BrokenByStraight road admission LongRun before s after)
    long_decides =
        Decides-at _ _ (seen_ahead (begins (walked nothing before)) (λ x. ltb (longest_run_lem road.speed) (s.length + x.run)) (reached 0 after) nothing)
        (Decides-like _ (λ (begin, (ss, goes, less)). (ss, begin, goes, less)) (λ (ss, begin, goes, less). (begin, (ss, goes, less)))
        (Decides-and _ _ (decides_begins before) goes_on))

    straight_decides : (kind : Kind) → Decides (straight_breaks_lem road kind (context_of road admission (walked nothing before) (row.Straight s) after) s)
        (BrokenByStraight road admission kind before s after)
    straight_decides UnadmittedEntry = decides_never
    straight_decides UnadmittedExit = decides_never
    straight_decides LongEntry = decides_never
    straight_decides LongExit = decides_never
    straight_decides UncalledEntry = decides_never
    straight_decides UncalledExit = decides_never
    straight_decides Unequal = decides_never
    straight_decides Disharmony = decides_never
    straight_decides NoArc = decides_never
    straight_decides TightRadius = decides_never
    straight_decides NextRadius = decides_never
    straight_decides ReturnRadius = decides_never
    straight_decides SmallTurn = decides_never
    straight_decides ShortRun = short_decides
    straight_decides LongRun = long_decides
    straight_decides SlightTurn = decides_never

  -- every kind at every row
  pub decides : (kind : Kind) (before : List Row) (this : Row) (after : List Row)
      → Decides (breaks road kind (context_of road admission (walked nothing before) this after)) (Broken road admission kind before this after)
  decides kind before (row.Curve c) after = curve_decides before c after kind
  decides kind before (row.Straight s) after = straight_decides before s after kind
