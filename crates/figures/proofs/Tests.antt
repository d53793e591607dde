-- What the tests decide.
use Rattle.std.proofs.Common.{ℕ, ◌+◌, ◌-◌, ◌*◌, ◌<◌, ◌≤◌, leb, ltb, Decides, arith}
use Rattle.std.proofs.lemmas.Bool.{leb-true, ltb-true, le-leb, lt-ltb}
use Rattle.std.proofs.lemmas.Bool.Decides.{Decides-and, Decides-ltb}
use Rattle.rows.specs.declared.row.Curve.{Curve}
use Rattle.figures.specs.Lengths.{AtMostHalfMore, Harmonious, LeavesArc}
use Rattle.figures.specs.Radii.{Cramped}
use Rattle.figures.specs.Tests.{exceeds_longest_lem, are_harmonious_lem, leaves_no_arc_lem, is_cramped_lem}

pub decides_leb : (a b : ℕ) → Decides (leb a b) (a ≤ b)
decides_leb a b = (leb-true a b, le-leb a b)

pub decides_not_above : (a b : ℕ) → Decides (leb a b) (b < a → ⊥)
decides_not_above a b = (λ e h. let le = leb-true a b e in omega arith, λ h. le-leb a b (omega (arith, h)))

pub decides_not_up_to : (a b : ℕ) → Decides (ltb b a) (a ≤ b → ⊥)
decides_not_up_to a b = (λ e h. let lt = ltb-true b a e in omega arith, λ h. lt-ltb b a (omega (arith, h)))

-- rule 2
pub decides_exceeds : (least length : ℕ) → Decides (exceeds_longest_lem least length) (AtMostHalfMore least length → ⊥)
decides_exceeds least length = decides_not_up_to (2 * length) (3 * least)

-- rule 5
pub decides_harmonious : (exit entry : ℕ) → Decides (are_harmonious_lem exit entry) (Harmonious exit entry)
decides_harmonious exit entry = Decides-and _ _ (decides_leb (2 * entry) (3 * exit)) (decides_leb (2 * exit) (3 * entry))

-- rule 6
pub decides_arcless : (c : Curve) → Decides (leaves_no_arc_lem c) (LeavesArc c → ⊥)
decides_arcless c = decides_not_above (c.turn * c.radius) (318_300 * (c.entry + c.exit))

-- rule 9
pub decides_cramped : (c : Curve) → Decides (is_cramped_lem c) (Cramped c)
decides_cramped c =
    Decides-and _ _ (Decides-ltb c.turn 60_000) (decides_not_up_to (1_591_500 * (130_000 - c.turn)) (c.radius * c.turn))
