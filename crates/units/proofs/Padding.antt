-- A number filled up with zeros to a width shows each of its digits.
use Rattle.std.proofs.Common.{◌≡◌, ℕ, ◌+◌, ◌/◌, ◌%◌, ◌<◌, ◌≤◌, [], ◌∷◌, ◌++◌, inl, inr, arith}
use Rattle.std.specs.Fmt.{decimal, styled_decimal, padded_integral, format_spec, char_count}
use Rattle.std.proofs.lemmas.Fmt.{decimal_digit, decimal_step}
use Rattle.std.proofs.lemmas.Bool.{cases_lt}
use Rattle.units.specs.Units.{digit, metres_text, gon_text, percent_text}

two : (n : ℕ) → 10 ≤ n → n < 100 → decimal n ≡ (48 + n / 10) ∷ (48 + n % 10) ∷ []
two n low high = rw (decimal_step n low (omega arith), decimal_digit (n / 10) (omega arith))

three : (n : ℕ) → 100 ≤ n → n < 1_000 → decimal n ≡ (48 + n / 10 / 10) ∷ (48 + n / 10 % 10) ∷ (48 + n % 10) ∷ []
three n low high = rw (decimal_step n (omega arith) (omega arith), two (n / 10) (omega arith) (omega arith))

four : (n : ℕ) → 1_000 ≤ n → n < 10_000 → decimal n ≡ (48 + n / 10 / 10 / 10) ∷ (48 + n / 10 / 10 % 10) ∷ (48 + n / 10 % 10) ∷ (48 + n % 10) ∷ []
four n low high = rw (decimal_step n (omega arith) (omega arith), three (n / 10) (omega arith) (omega arith))

digit_is : (of n : ℕ) → digit of n ≡ (48 + n / of % 10) ∷ []
digit_is of n = decimal_digit (n / of % 10) (omega arith)

pub two_places : (n : ℕ) → n < 100 → styled_decimal (format_spec 32 0 4 2 18446744073709551615) n ≡ (48 + n / 10) ∷ (48 + n % 10) ∷ []
unfolding padded_integral char_count
two_places n small =
    elim (cases_lt n 10) [
      | inl below ↦ let high : n / 10 ≡ 0 = omega arith in let low : n % 10 ≡ n = omega arith in rw (decimal_digit n below, high, low)
      | inr above ↦ rw (two n above small)
    ]

pub three_places : (n : ℕ) → n < 1_000 → styled_decimal (format_spec 32 0 4 3 18446744073709551615) n ≡ (48 + n / 10 / 10) ∷ (48 + n / 10 % 10) ∷ (48 + n % 10) ∷ []
unfolding padded_integral char_count
three_places n small =
    elim (cases_lt n 10) [
      | inl below ↦
          let high : n / 10 / 10 ≡ 0 = omega arith in let mid : n / 10 % 10 ≡ 0 = omega arith in let low : n % 10 ≡ n = omega arith in
          rw (decimal_digit n below, high, mid, low)
      | inr above ↦
          elim (cases_lt n 100) [
            | inl below ↦
                let high : n / 10 / 10 ≡ 0 = omega arith in let mid : n / 10 % 10 ≡ n / 10 = omega arith in
                rw (two n above below, high, mid)
            | inr beyond ↦ rw (three n beyond small)
          ]
    ]

pub four_places : (n : ℕ) → n < 10_000 → styled_decimal (format_spec 32 0 4 4 18446744073709551615) n ≡ (48 + n / 10 / 10 / 10) ∷ (48 + n / 10 / 10 % 10) ∷ (48 + n / 10 % 10) ∷ (48 + n % 10) ∷ []
unfolding padded_integral char_count
four_places n small =
    elim (cases_lt n 10) [
      | inl below ↦
          let top : n / 10 / 10 / 10 ≡ 0 = omega arith in
          let high : n / 10 / 10 % 10 ≡ 0 = omega arith in let mid : n / 10 % 10 ≡ 0 = omega arith in let low : n % 10 ≡ n = omega arith in
          rw (decimal_digit n below, top, high, mid, low)
      | inr above ↦
          elim (cases_lt n 100) [
            | inl below ↦
                let top : n / 10 / 10 / 10 ≡ 0 = omega arith in
                let high : n / 10 / 10 % 10 ≡ 0 = omega arith in let mid : n / 10 % 10 ≡ n / 10 = omega arith in
                rw (two n above below, top, high, mid)
            | inr beyond ↦
                elim (cases_lt n 1_000) [
                  | inl below ↦
                      let top : n / 10 / 10 / 10 ≡ 0 = omega arith in let high : n / 10 / 10 % 10 ≡ n / 10 / 10 = omega arith in
                      rw (three n beyond below, top, high)
                  | inr past ↦ rw (four n past small)
                ]
          ]
    ]

-- What the code writes is the text of the definition: the digits of the remainder are those of the number.
pub metres_shown : (n : ℕ) → decimal (n / 1_000) ++ (46 ∷ styled_decimal (format_spec 32 0 4 3 18446744073709551615) (n % 1_000)) ≡ metres_text n
metres_shown n =
    let top : n % 1_000 / 10 / 10 ≡ n / 100 % 10 = omega arith in
    let mid : n % 1_000 / 10 % 10 ≡ n / 10 % 10 = omega arith in
    let low : n % 1_000 % 10 ≡ n / 1 % 10 = omega arith in
    rw (three_places (n % 1_000) (omega arith), digit_is 100 n, digit_is 10 n, digit_is 1 n, top, mid, low)

pub gon_shown : (n : ℕ) → decimal (n / 10_000) ++ (46 ∷ styled_decimal (format_spec 32 0 4 4 18446744073709551615) (n % 10_000)) ≡ gon_text n
gon_shown n =
    let first : n % 10_000 / 10 / 10 / 10 ≡ n / 1_000 % 10 = omega arith in
    let second : n % 10_000 / 10 / 10 % 10 ≡ n / 100 % 10 = omega arith in
    let third : n % 10_000 / 10 % 10 ≡ n / 10 % 10 = omega arith in
    let fourth : n % 10_000 % 10 ≡ n / 1 % 10 = omega arith in
    rw (four_places (n % 10_000) (omega arith), digit_is 1_000 n, digit_is 100 n, digit_is 10 n, digit_is 1 n, first, second, third, fourth)

pub percent_shown : (n : ℕ) → decimal (n / 100) ++ (46 ∷ styled_decimal (format_spec 32 0 4 2 18446744073709551615) (n % 100)) ≡ percent_text n
percent_shown n =
    let high : n % 100 / 10 ≡ n / 10 % 10 = omega arith in
    let low : n % 100 % 10 ≡ n / 1 % 10 = omega arith in
    rw (two_places (n % 100) (omega arith), digit_is 10 n, digit_is 1 n, high, low)
