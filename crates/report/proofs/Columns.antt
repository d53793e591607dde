-- Numbers on the right of a column.
use Rattle.std.proofs.Common.{◌≡◌, ℕ, zero, suc, ◌+◌, ◌-◌, ◌/◌, ◌%◌, List, [], ◌∷◌, ◌++◌, length, replicate, refl, ap, ◌∙◌, append_assoc, arith}
use Rattle.std.specs.Fmt.{decimal, styled_decimal, padded_integral, format_spec, char_count}
use Rattle.std.specs.List.{repeat}
use Rattle.std.proofs.Math.Utf8.{encode}
use Rattle.std.proofs.lemmas.Str.{encode_ascii}
use Rattle.std.proofs.lemmas.List.{length-append, append-nil}
use Rattle.units.proofs.Padding.{two_places, three_places, four_places, metres_shown, gon_shown, percent_shown}
use Rattle.report.specs.Columns.{on_the_right, metres_column, gon_column, percent_column}

spaces : (k : ℕ) → repeat {A = ℕ} k (32 ∷ []) ≡ replicate k 32
spaces zero = refl
spaces (suc k) = ap (λ l. 32 ∷ l) (spaces k)

-- the fill before a number, its sign, its prefix and its zeros, of which it has none, the number, and no fill after it
shape : (before after padding : ℕ) (numeral : List ℕ) → before ≡ padding → after ≡ 0 → (((repeat before (encode 32) ++ []) ++ []) ++ []) ++ (numeral ++ repeat after (encode 32)) ≡ replicate padding 32 ++ numeral
shape before after padding numeral is none =
    let fill : (n : ℕ) → repeat n (encode 32) ≡ replicate n 32 = λ n. ap (λ e. repeat n e) (encode_ascii 32 (omega arith)) ∙ spaces n in
    let front : ((repeat before (encode 32) ++ []) ++ []) ++ [] ≡ replicate padding 32 =
    append-nil ((repeat before (encode 32) ++ []) ++ []) ∙ append-nil (repeat before (encode 32) ++ []) ∙ append-nil (repeat before (encode 32)) ∙ fill before ∙ ap (λ n. replicate n 32) is in
    let back : numeral ++ repeat after (encode 32) ≡ numeral = ap (λ n. numeral ++ repeat n (encode 32)) none ∙ append-nil numeral in
    ap (λ l. l ++ (numeral ++ repeat after (encode 32))) front ∙ ap (λ l. replicate padding 32 ++ l) back

pub four_right : (n : ℕ) → styled_decimal (format_spec 32 3 0 4 18446744073709551615) n ≡ on_the_right 4 (decimal n)
unfolding padded_integral char_count
four_right n =
    let before : ℕ = ((4 - length (decimal n)) - 0) - 0 in
    shape before (before - before) (4 - length (decimal n)) (decimal n) (omega arith) (omega arith)

five_right : (n : ℕ) → styled_decimal (format_spec 32 3 0 5 18446744073709551615) n ≡ on_the_right 5 (decimal n)
unfolding padded_integral char_count
five_right n =
    let before : ℕ = ((5 - length (decimal n)) - 0) - 0 in
    shape before (before - before) (5 - length (decimal n)) (decimal n) (omega arith) (omega arith)

six_right : (n : ℕ) → styled_decimal (format_spec 32 3 0 6 18446744073709551615) n ≡ on_the_right 6 (decimal n)
unfolding padded_integral char_count
six_right n =
    let before : ℕ = ((6 - length (decimal n)) - 0) - 0 in
    shape before (before - before) (6 - length (decimal n)) (decimal n) (omega arith) (omega arith)

seven_right : (n : ℕ) → styled_decimal (format_spec 32 3 0 7 18446744073709551615) n ≡ on_the_right 7 (decimal n)
unfolding padded_integral char_count
seven_right n =
    let before : ℕ = ((7 - length (decimal n)) - 0) - 0 in
    shape before (before - before) (7 - length (decimal n)) (decimal n) (omega arith) (omega arith)

-- what follows widens the column
widened : (width more : ℕ) (text rest : List ℕ) → length rest ≡ more → on_the_right width text ++ rest ≡ on_the_right (width + more) (text ++ rest)
widened width more text rest is =
    let number : width - length text ≡ (width + more) - length (text ++ rest) = omega (arith, length-append text rest, is) in
    append_assoc (replicate (width - length text) 32) text rest ∙ ap (λ k. replicate k 32 ++ (text ++ rest)) number

pub metres_right : (n : ℕ) → styled_decimal (format_spec 32 3 0 6 18446744073709551615) (n / 1_000) ++ (46 ∷ styled_decimal (format_spec 32 0 4 3 18446744073709551615) (n % 1_000)) ≡ metres_column n
metres_right n =
    let rest = 46 ∷ styled_decimal (format_spec 32 0 4 3 18446744073709551615) (n % 1_000) in
    let four : length rest ≡ 4 = ap (λ l. length (46 ∷ l)) (three_places (n % 1_000) (omega arith)) in
    ap (λ l. l ++ rest) (six_right (n / 1_000)) ∙ widened 6 4 (decimal (n / 1_000)) rest four ∙ ap (on_the_right 10) (metres_shown n)

pub gon_right : (n : ℕ) → styled_decimal (format_spec 32 3 0 5 18446744073709551615) (n / 10_000) ++ (46 ∷ styled_decimal (format_spec 32 0 4 4 18446744073709551615) (n % 10_000)) ≡ gon_column n
gon_right n =
    let rest = 46 ∷ styled_decimal (format_spec 32 0 4 4 18446744073709551615) (n % 10_000) in
    let five : length rest ≡ 5 = ap (λ l. length (46 ∷ l)) (four_places (n % 10_000) (omega arith)) in
    ap (λ l. l ++ rest) (five_right (n / 10_000)) ∙ widened 5 5 (decimal (n / 10_000)) rest five ∙ ap (on_the_right 10) (gon_shown n)

pub percent_right : (n : ℕ) → styled_decimal (format_spec 32 3 0 7 18446744073709551615) (n / 100) ++ (46 ∷ styled_decimal (format_spec 32 0 4 2 18446744073709551615) (n % 100)) ≡ percent_column n
percent_right n =
    let rest = 46 ∷ styled_decimal (format_spec 32 0 4 2 18446744073709551615) (n % 100) in
    let three : length rest ≡ 3 = ap (λ l. length (46 ∷ l)) (two_places (n % 100) (omega arith)) in
    ap (λ l. l ++ rest) (seven_right (n / 100)) ∙ widened 7 3 (decimal (n / 100)) rest three ∙ ap (on_the_right 10) (percent_shown n)
