-- The chunks of a list, by their positions.
use Rattle.std.proofs.Common.{◌≡◌, ℕ, zero, suc, ◌+◌, ◌*◌, ◌/◌, ◌<◌, List, [], length as count, get_or, take, drop, refl, ap, ◌∙◌, arith}
use Rattle.std.specs.Simd.{first_chunks}
use Rattle.std.proofs.lemmas.List.{drop-drop}
use Rattle.client_table.specs.Tables.{whole_entries, WholeEntries}

count_chunks : {X : Type 0} (m n : ℕ) (xs : List X) → count (first_chunks m n xs) ≡ n
count_chunks m zero xs = refl
count_chunks m (suc n) xs = ap suc (count_chunks m n (drop m xs))

chunk_at : {X : Type 0} (m n : ℕ) (xs : List X) (i : ℕ) → i < n → get_or (first_chunks m n xs) i [] ≡ take m (drop (m * i) xs)
chunk_at m zero xs i within = absurd (omega arith)
chunk_at m (suc n) xs zero within =
    let none : m * 0 ≡ 0 = omega arith in
    rw none refl
chunk_at m (suc n) xs (suc i) within =
    let more : m + m * i ≡ m * suc i = omega arith in
    chunk_at m n (drop m xs) i (omega arith) ∙ ap (take m) (drop-drop (m * i) m xs ∙ ap (λ k. drop k xs) more)

pub by_positions : (bytes : List ℕ) → WholeEntries bytes (whole_entries bytes)
by_positions bytes =
    let many = count_chunks 12 (count bytes / 12) bytes in
    record { many = many; each = λ index within. chunk_at 12 (count bytes / 12) bytes index (omega (arith, many, within)) }
