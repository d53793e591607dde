-- The test of consecutive radii decides rule 8's relation.
use Rattle.std.proofs.Common.{◌≡◌, ℕ, ◌+◌, ◌*◌, ◌<◌, ◌≤◌, Bool, true, false, cond, ◌&&◌, ltb, leb, Decides, refl, arith}
use Rattle.std.proofs.lemmas.Bool.{leb-true, leb-false, ltb-true, ltb-false}
use Rattle.std.proofs.lemmas.Bool.Decides.{Decides-and, Decides-like, Decides-ltb}
use Rattle.road.specs.declared.road.Road.{Road}
use Rattle.figures.specs.Radii.{Tabled, Follows}
use Rattle.figures.specs.Tests.{is_tabled_lem, follows_radius_lem}
use Rattle.figures.proofs.Tests.{decides_leb}

decides_cond : {P : Type 0} (b x y : Bool) → (b ≡ true → Decides x P) → (b ≡ false → Decides y P) → Decides (cond b x y) P
decides_cond true x y yes_so not_so = yes_so refl
decides_cond false x y yes_so not_so = not_so refl

module _ (r next : ℕ) where
  unlisted : r < 50_000 → Decides true (Tabled r next)
  unlisted below = (
    λ _. record {
      tight = λ low high. absurd (let z : ⊥ = omega arith in z);
      middle = λ low high. absurd (let z : ⊥ = omega arith in z);
      wide = λ low high. absurd (let z : ⊥ = omega arith in z);
      widest = λ low. absurd (let z : ⊥ = omega arith in z);
    },
    λ _. refl,
  )

  abbrev tight : Bool
  tight = leb (50 * r + 600_600) (77 * next) && ltb (80 * next + 1_152_000) (127 * r)

  abbrev middle : Bool
  middle = leb (40 * r + 22_504_500) (135 * next) && ltb (25 * next + 32_000_000) (110 * r)

  tight_decides : 50_000 ≤ r → r ≤ 450_000 → Decides tight (Tabled r next)
  tight_decides low high =
      Decides-like tight (λ both. record {
        tight = λ _ _. both;
        middle = λ l h. absurd (let z : ⊥ = omega arith in z);
        wide = λ l h. absurd (let z : ⊥ = omega arith in z);
        widest = λ l. absurd (let z : ⊥ = omega arith in z);
      }) (λ t. t.tight low high)
      (Decides-and _ _ (decides_leb (50 * r + 600_600) (77 * next)) (Decides-ltb (80 * next + 1_152_000) (127 * r)))

  middle_decides : 450_000 < r → r ≤ 700_000 → Decides middle (Tabled r next)
  middle_decides low high =
      Decides-like middle (λ both. record {
        tight = λ l h. absurd (let z : ⊥ = omega arith in z);
        middle = λ _ _. both;
        wide = λ l h. absurd (let z : ⊥ = omega arith in z);
        widest = λ l. absurd (let z : ⊥ = omega arith in z);
      }) (λ t. t.middle low high)
      (Decides-and _ _ (decides_leb (40 * r + 22_504_500) (135 * next)) (Decides-ltb (25 * next + 32_000_000) (110 * r)))

  wide_decides : 700_000 < r → r ≤ 1_800_000 → Decides (leb (40 * r + 22_504_500) (135 * next)) (Tabled r next)
  wide_decides low high =
      Decides-like _ (λ enough. record {
        tight = λ l h. absurd (let z : ⊥ = omega arith in z);
        middle = λ l h. absurd (let z : ⊥ = omega arith in z);
        wide = λ _ _. enough;
        widest = λ l. absurd (let z : ⊥ = omega arith in z);
      }) (λ t. t.wide low high) (decides_leb (40 * r + 22_504_500) (135 * next))

  widest_decides : 1_800_000 < r → Decides (leb 700_000 next) (Tabled r next)
  widest_decides low =
      Decides-like _ (λ enough. record {
        tight = λ l h. absurd (let z : ⊥ = omega arith in z);
        middle = λ l h. absurd (let z : ⊥ = omega arith in z);
        wide = λ l h. absurd (let z : ⊥ = omega arith in z);
        widest = λ _. enough;
      }) (λ t. t.widest low) (decides_leb 700_000 next)

  decides_tabled : Decides (is_tabled_lem r next) (Tabled r next)
  decides_tabled =
      decides_cond (ltb r 50_000) _ _ (λ e. unlisted (ltb-true r 50_000 e)) (λ past_none.
      decides_cond (leb r 450_000) _ _ (λ e. tight_decides (ltb-false r 50_000 past_none) (leb-true r 450_000 e)) (λ past_tight.
      decides_cond (leb r 700_000) _ _ (λ e. middle_decides (leb-false r 450_000 past_tight) (leb-true r 700_000 e)) (λ past_middle.
      decides_cond (leb r 1_800_000) _ _ (λ e. wide_decides (leb-false r 700_000 past_middle) (leb-true r 1_800_000 e)) (λ past_wide.
      widest_decides (leb-false r 1_800_000 past_wide)))))

pub decides_follows : (road : Road) (run r next : ℕ) → Decides (follows_radius_lem road run r next) (Follows road run r next)
decides_follows road run r next =
    decides_cond (leb run road.limited_run) (is_tabled_lem r next) _
    (λ e. let within = leb-true run road.limited_run e in
    Decides-like _ (λ t. record { near = λ _. t; far = λ longer. absurd (let z : ⊥ = omega arith in z) }) (λ f. f.near within) (decides_tabled r next))
    (λ e. let longer = leb-false run road.limited_run e in
    Decides-like _ (λ wide. record { near = λ within. absurd (let z : ⊥ = omega arith in z); far = λ _. wide }) (λ f. f.far longer)
    (decides_leb road.radius_after_run next))
