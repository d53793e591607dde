-- The least multiple that reaches a threshold is the quotient rounded up.
use Rattle.std.proofs.Common.{◌≡◌, ℕ, ◌+◌, ◌*◌, ◌/◌, ◌%◌, ◌<◌, ◌≤◌, min, inl, inr, mul-le-mul_right, add-mul, one-mul, arith}
use Rattle.std.proofs.lemmas.Bool.{cases_lt}
use Rattle.std.proofs.lemmas.Grind.{div_ceil_times}
use Rattle.limits.specs.Least.{Smallest}

pub rounded_up : (threshold factor up : ℕ) → 0 < factor → up ≡ threshold / factor + min 1 (threshold % factor) → Smallest (λ other. threshold ≤ other * factor) up
rounded_up threshold factor up positive is =
    let bounds = div_ceil_times threshold factor positive in
    record {
      admitted = rw is bounds.0;
      least = λ other reached.
          elim (cases_lt other up) [
            | inl below ↦
                let more : other + 1 ≤ threshold / factor + min 1 (threshold % factor) = omega arith in
                absurd (omega (arith, bounds.1, mul-le-mul_right factor more, add-mul other 1 factor, one-mul factor))
            | inr within ↦ within
          ];
    }
