-- The computed ranges are those of the rules.
use Rattle.std.proofs.Common.{◌≡◌, ℕ, ◌+◌, ◌-◌, ◌*◌, ◌/◌, ◌<◌, ◌≤◌, Bool, true, false, cond, ltb, leb, Some, refl, arith}
use Rattle.std.proofs.lemmas.Bool.{leb-true, leb-false, ltb-true, ltb-false}
use Rattle.road.specs.declared.road.Road.{Road}
use Rattle.limits.specs.Least.{Smallest}
use Rattle.figures.specs.Radii.{Tabled, Follows, WideEnough}
use Rattle.figures.specs.declared.range.NextRadius.{NextRadius}
use Rattle.figures.specs.Ranges.{RangeOf, divided_up, from_least_lem, tabled_radii_lem, next_radius_lem, least_radius_lem}
use Rattle.figures.proofs.Quotients.{rounded_up}

by_test : {Keeps : ℕ → Type 0} (b : Bool) (x y : NextRadius) → (b ≡ true → RangeOf Keeps x) → (b ≡ false → RangeOf Keeps y) → RangeOf Keeps (cond b x y)
by_test true x y yes_so not_so = yes_so refl
by_test false x y yes_so not_so = not_so refl

module _ (r : ℕ) where
  unlisted : r < 50_000 → RangeOf (Tabled r) (from_least_lem 0)
  unlisted below = record {
    sound = λ next within. record {
      tight = λ l h. absurd (let z : ⊥ = omega arith in z);
      middle = λ l h. absurd (let z : ⊥ = omega arith in z);
      wide = λ l h. absurd (let z : ⊥ = omega arith in z);
      widest = λ l. absurd (let z : ⊥ = omega arith in z);
    };
    complete = λ next keeps. (omega arith, tt);
  }

  tight : 50_000 ≤ r → r ≤ 450_000 → RangeOf (Tabled r) (record { least = divided_up (50 * r + 600_600) 77; greatest = Some ((127 * r - 1_152_001) / 80) })
  tight low high = record {
    sound = λ next within. record {
      tight = λ l h. let a = within.0 in let b = within.1 in (omega arith, omega arith);
      middle = λ l h. absurd (let z : ⊥ = omega arith in z);
      wide = λ l h. absurd (let z : ⊥ = omega arith in z);
      widest = λ l. absurd (let z : ⊥ = omega arith in z);
    };
    complete = λ next keeps. let k = keeps.tight low high in (omega arith, omega arith);
  }

  middle : 450_000 < r → r ≤ 700_000 → RangeOf (Tabled r) (record { least = divided_up (40 * r + 22_504_500) 135; greatest = Some ((110 * r - 32_000_001) / 25) })
  middle low high = record {
    sound = λ next within. record {
      tight = λ l h. absurd (let z : ⊥ = omega arith in z);
      middle = λ l h. let a = within.0 in let b = within.1 in (omega arith, omega arith);
      wide = λ l h. absurd (let z : ⊥ = omega arith in z);
      widest = λ l. absurd (let z : ⊥ = omega arith in z);
    };
    complete = λ next keeps. let k = keeps.middle low high in (omega arith, omega arith);
  }

  wide : 700_000 < r → r ≤ 1_800_000 → RangeOf (Tabled r) (from_least_lem (divided_up (40 * r + 22_504_500) 135))
  wide low high = record {
    sound = λ next within. record {
      tight = λ l h. absurd (let z : ⊥ = omega arith in z);
      middle = λ l h. absurd (let z : ⊥ = omega arith in z);
      wide = λ l h. let a = within.0 in omega arith;
      widest = λ l. absurd (let z : ⊥ = omega arith in z);
    };
    complete = λ next keeps. let k = keeps.wide low high in (omega arith, tt);
  }

  widest : 1_800_000 < r → RangeOf (Tabled r) (from_least_lem 700_000)
  widest low = record {
    sound = λ next within. record {
      tight = λ l h. absurd (let z : ⊥ = omega arith in z);
      middle = λ l h. absurd (let z : ⊥ = omega arith in z);
      wide = λ l h. absurd (let z : ⊥ = omega arith in z);
      widest = λ l. within.0;
    };
    complete = λ next keeps. (keeps.widest low, tt);
  }

pub tabled_is : (r : ℕ) → RangeOf (Tabled r) (tabled_radii_lem r)
tabled_is r =
    by_test (ltb r 50_000) _ _ (λ e. unlisted r (ltb-true r 50_000 e)) (λ e0. let low = ltb-false r 50_000 e0 in
    by_test (leb r 450_000) _ _ (λ e. tight r low (leb-true r 450_000 e)) (λ e1. let above = leb-false r 450_000 e1 in
    by_test (leb r 700_000) _ _ (λ e. middle r above (leb-true r 700_000 e)) (λ e2. let beyond = leb-false r 700_000 e2 in
    by_test (leb r 1_800_000) _ _ (λ e. wide r beyond (leb-true r 1_800_000 e)) (λ e3. widest r (leb-false r 1_800_000 e3)))))

pub next_radius_is : (road : Road) (run r : ℕ) → RangeOf (Follows road run r) (next_radius_lem road run r)
next_radius_is road run r =
    by_test (leb run road.limited_run) _ _
    (λ e.
    let near = leb-true run road.limited_run e in
    let range = tabled_is r in
    record {
      sound = λ next within. record { near = λ _. range.sound next within; far = λ far. absurd (let z : ⊥ = omega (arith, near, far) in z) };
      complete = λ next keeps. range.complete next (keeps.near near);
    })
    (λ e.
    let far = leb-false run road.limited_run e in
    record {
      sound = λ next within. record { near = λ near. absurd (let z : ⊥ = omega (arith, near, far) in z); far = λ _. within.0 };
      complete = λ next keeps. (keeps.far far, tt);
    })

pub least_radius_is : (turn : ℕ) → 0 < turn → Smallest (WideEnough turn) (least_radius_lem turn)
least_radius_is turn positive = rounded_up (1_591_500 * (130_000 - turn)) turn (least_radius_lem turn) positive refl
