-- The findings, computed row by row. Only private contracts cite this; proofs/ tie it to the rules.
use Rattle.std.specs.Prelude.{ℕ, ◌+◌, Bool, true, false, cond, not, ◌&&◌, List, [], ◌∷◌, ◌++◌, Some, None, Option, ◌==◌, nat_le, nat_lt}
use Rattle.std.specs.List.{count_by}
use Rattle.road.specs.declared.road.Road.{Road}
use Rattle.rows.specs.declared.row.Curve.{Curve}
use Rattle.rows.specs.declared.row.Row.{Row}
use Rattle.rows.specs.declared.row.Row.TheVariants as row
use Rattle.rows.specs.declared.row.Straight.{Straight}
use Rattle.rows.specs.Curves.{place_of}
use Rattle.rows.specs.Leasts.{least_in}
use Rattle.figures.specs.Runs.{shortest_run_lem, longest_run_lem}
use Rattle.figures.specs.Tests.{exceeds_longest_lem, are_harmonious_lem, leaves_no_arc_lem, follows_radius_lem, is_cramped_lem}
use Rattle.findings.specs.declared.finding.Finding.{Finding}
use Rattle.findings.specs.declared.kind.Kind.{Kind}
use Rattle.findings.specs.declared.kind.Kind.TheVariants.{UnadmittedEntry, UnadmittedExit, LongEntry, LongExit, UncalledEntry, UncalledExit, Unequal, Disharmony, NoArc, TightRadius, NextRadius, ReturnRadius, SmallTurn, ShortRun, LongRun, SlightTurn}
use Rattle.findings.specs.declared.walk.Clothoids.{Clothoids}
use Rattle.findings.specs.declared.walk.Clothoids.TheVariants.{Uncalled, Called}
use Rattle.findings.specs.declared.walk.Context.{Context}
use Rattle.findings.specs.declared.walk.Flank.{Flank}
use Rattle.findings.specs.Rules.{Admission}
use Rattle.findings.specs.Findings.{finding_of}

-- What lies behind the first row.
abbrev pub nothing : Flank
nothing = record { curve = None; run = 0 }

-- What lies behind, one row on.
abbrev pub past : Flank → Row → Flank
past behind (row.Straight s) = record { curve = behind.curve; run = behind.run + s.length }
past behind (row.Curve c) = record { curve = Some c; run = 0 }

-- What lies ahead of a position, after straights of that length.
abbrev pub reached : ℕ → List Row → Flank
reached run [] = record { curve = None; run = run }
reached run (row.Straight s ∷ rows) = reached (run + s.length) rows
reached run (row.Curve c ∷ rows) = record { curve = Some c; run = run }

-- Whether a run may begin after what lies behind: each straight has a length, so there is none where they sum to 0.
abbrev pub begins : Flank → Bool
begins behind = behind.run == 0

-- Only a curve and the first straight of a run look ahead.
abbrev pub looks : Flank → Row → Bool
looks behind (row.Straight s) = begins behind
looks behind (row.Curve c) = true

-- Whether a curve calls for clothoids.
abbrev pub calls : Road → Curve → Bool
calls road c = nat_le 60_000 c.turn && nat_lt c.radius road.free_radius

-- What the clothoids of a row are held to.
abbrev pub clothoids_of : Road → Admission → Row → Clothoids
clothoids_of road admission (row.Straight s) = Uncalled
clothoids_of road admission (row.Curve c) = cond (calls road c) (Called (least_in (admission (place_of road c)))) Uncalled

-- A row with what lies behind it and ahead of it.
abbrev pub context_of : Road → Admission → Flank → Row → List Row → Context
context_of road admission behind r after =
    record { row = r; clothoids = clothoids_of road admission r; behind = behind; ahead = cond (looks behind r) (reached 0 after) nothing }

-- The tests, by rule.
abbrev pub unadmitted : Clothoids → ℕ → Bool
unadmitted Uncalled length = false
unadmitted (Called None) length = true
unadmitted (Called (Some least)) length = nat_lt length least

abbrev pub is_too_long : Clothoids → ℕ → Bool
is_too_long Uncalled length = false
is_too_long (Called None) length = false
is_too_long (Called (Some least)) length = exceeds_longest_lem least length

abbrev pub uncalled_for : Clothoids → ℕ → Bool
uncalled_for Uncalled length = not (length == 0)
uncalled_for (Called least) length = false

abbrev pub unequal : Road → Curve → Bool
unequal road c = road.symmetric && not (c.entry == c.exit)

abbrev pub discordant : Road → Option Curve → Curve → Bool
discordant road None c = false
discordant road (Some b) c = calls road b && not (are_harmonious_lem b.exit c.entry)

abbrev pub disharmonious : Road → Clothoids → Flank → Curve → Bool
disharmonious road Uncalled behind c = false
disharmonious road (Called least) behind c = begins behind && discordant road behind.curve c

abbrev pub strays : Road → Option Curve → ℕ → Curve → Bool
strays road None run c = false
strays road (Some b) run c = not (follows_radius_lem road run b.radius c.radius)

abbrev pub short_between : Road → Option Curve → ℕ → Option Curve → Bool
short_between road None run next = false
short_between road (Some b) run None = false
short_between road (Some b) run (Some d) = nat_lt run (shortest_run_lem b.sense d.sense road.speed)

-- Whether a row breaks the rule of a kind.
abbrev pub curve_breaks_lem : Road → Kind → Context → Curve → Bool
curve_breaks_lem road UnadmittedEntry at c = unadmitted at.clothoids c.entry
curve_breaks_lem road UnadmittedExit at c = unadmitted at.clothoids c.exit
curve_breaks_lem road LongEntry at c = is_too_long at.clothoids c.entry
curve_breaks_lem road LongExit at c = is_too_long at.clothoids c.exit
curve_breaks_lem road UncalledEntry at c = uncalled_for at.clothoids c.entry
curve_breaks_lem road UncalledExit at c = uncalled_for at.clothoids c.exit
curve_breaks_lem road Unequal at c = unequal road c
curve_breaks_lem road Disharmony at c = disharmonious road at.clothoids at.behind c
curve_breaks_lem road NoArc at c = leaves_no_arc_lem c
curve_breaks_lem road TightRadius at c = nat_lt c.radius road.least_radius
curve_breaks_lem road NextRadius at c = strays road at.behind.curve at.behind.run c
curve_breaks_lem road ReturnRadius at c = road.both_senses && strays road at.ahead.curve at.ahead.run c
curve_breaks_lem road SmallTurn at c = is_cramped_lem c
curve_breaks_lem road ShortRun at c = false
curve_breaks_lem road LongRun at c = false
curve_breaks_lem road SlightTurn at c = nat_lt c.turn 20_000

abbrev pub straight_breaks_lem : Road → Kind → Context → Straight → Bool
straight_breaks_lem road UnadmittedEntry at s = false
straight_breaks_lem road UnadmittedExit at s = false
straight_breaks_lem road LongEntry at s = false
straight_breaks_lem road LongExit at s = false
straight_breaks_lem road UncalledEntry at s = false
straight_breaks_lem road UncalledExit at s = false
straight_breaks_lem road Unequal at s = false
straight_breaks_lem road Disharmony at s = false
straight_breaks_lem road NoArc at s = false
straight_breaks_lem road TightRadius at s = false
straight_breaks_lem road NextRadius at s = false
straight_breaks_lem road ReturnRadius at s = false
straight_breaks_lem road SmallTurn at s = false
straight_breaks_lem road ShortRun at s = begins at.behind && short_between road at.behind.curve (s.length + at.ahead.run) at.ahead.curve
straight_breaks_lem road LongRun at s = begins at.behind && nat_lt (longest_run_lem road.speed) (s.length + at.ahead.run)
straight_breaks_lem road SlightTurn at s = false

abbrev pub row_breaks : Road → Kind → Context → Row → Bool
row_breaks road kind at (row.Straight s) = straight_breaks_lem road kind at s
row_breaks road kind at (row.Curve c) = curve_breaks_lem road kind at c

abbrev pub breaks : Road → Kind → Context → Bool
breaks road kind at = row_breaks road kind at at.row

-- The kinds by the rules of clothoids and by the others, in the order of rule and side.
unfoldable pub clothoid_kinds : List Kind
clothoid_kinds =
    UnadmittedEntry
    ∷ UnadmittedExit
    ∷ LongEntry
    ∷ LongExit
    ∷ UncalledEntry
    ∷ UncalledExit
    ∷ Unequal
    ∷ Disharmony
    ∷ NoArc
    ∷ []

unfoldable pub other_kinds : List Kind
other_kinds =
    TightRadius
    ∷ NextRadius
    ∷ ReturnRadius
    ∷ SmallTurn
    ∷ ShortRun
    ∷ LongRun
    ∷ SlightTurn
    ∷ []

-- All kinds, in this order.
unfoldable pub kinds : List Kind
kinds = clothoid_kinds ++ other_kinds

-- A finding, where it is given.
abbrev pub given : Bool → Finding → List Finding
given true f = f ∷ []
given false f = []

-- The findings of one row, of some kinds.
abbrev pub gathered : Road → ℕ → Context → List Kind → List Finding
gathered road position at [] = []
gathered road position at (k ∷ ks) = given (breaks road k at) (finding_of position k) ++ gathered road position at ks

-- How many those are.
abbrev pub counted : Road → Context → List Kind → ℕ
counted road at ks = count_by (λ k. breaks road k at) ks

-- The rows in order, each in its context, after what lies behind them.
abbrev pub contexts : Road → Admission → Flank → List Row → List Context
contexts road admission behind [] = []
contexts road admission behind (r ∷ rows) = context_of road admission behind r rows ∷ contexts road admission (past behind r) rows

-- The findings of those rows, the first of them at a position.
abbrev pub gathered_from : Road → ℕ → List Context → List Finding
gathered_from road position [] = []
gathered_from road position (at ∷ ats) = gathered road position at kinds ++ gathered_from road (position + 1) ats

-- The findings of the rows from a position on, after what lies behind it.
abbrev pub listed : Road → Admission → ℕ → Flank → List Row → List Finding
listed road admission position behind rows = gathered_from road position (contexts road admission behind rows)
