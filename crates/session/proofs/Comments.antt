-- Whether bytes are a comment is seen after their white space.
use Rattle.std.proofs.Common.{◌≡◌, ℕ, zero, suc, ◌+◌, ◌<◌, true, false, eqb, List, [], ◌∷◌, length, get_or, drop, sym, refl, ap, ◌∙◌, add-zero, arith, get_or-drop}
use Rattle.std.specs.Char.{is_ascii_whitespace}
use Rattle.session.specs.Lines.{comment_bytes}

pub comment_after : (bs : List ℕ) (n : ℕ) → ((i : ℕ) → i < n → is_ascii_whitespace (get_or bs i 0) ≡ true) → (n < length bs → is_ascii_whitespace (get_or bs n 0) ≡ false) → comment_bytes bs ≡ eqb (get_or bs n 0) 35
comment_after [] n white dark = refl
comment_after (b ∷ bs) zero white dark = let here : is_ascii_whitespace b ≡ false = dark (omega arith) in rw here
comment_after (b ∷ bs) (suc n) white dark =
    let here : is_ascii_whitespace b ≡ true = white 0 (omega arith) in
    rw here (comment_after bs n (λ i h. white (suc i) (omega arith)) (λ h. dark (omega arith)))

-- by what `trim_ascii_start` says of what it leaves
pub comment_trimmed : (bs rest : List ℕ) → (n : ℕ) × (rest ≡ drop n bs) × (length rest + n ≡ length bs) × ((i : ℕ) → i < n → is_ascii_whitespace (get_or bs i 0) ≡ true) × (n < length bs → is_ascii_whitespace (get_or bs n 0) ≡ false) → eqb (get_or rest 0 0) 35 ≡ comment_bytes bs
comment_trimmed bs rest h =
    let first : get_or rest 0 0 ≡ get_or bs h.0 0 = ap (λ l. get_or l 0 0) h.1 ∙ get_or-drop h.0 bs 0 0 ∙ ap (λ k. get_or bs k 0) (add-zero h.0) in
    ap (λ b. eqb b 35) first ∙ sym (comment_after bs h.0 h.3 h.4)
