-- Whether a word is shown whole, by how many characters it has; and a choice, word by word.
use Rattle.std.proofs.Common.{◌≡◌, ℕ, ◌-◌, ◌<◌, ◌≤◌, true, false, List, [], ◌∷◌, ◌++◌, length, take, drop, map, get_or, codes, nat_lt, append-nil, append_assoc, sym, refl, ap, ◌∙◌, arith, rules, tests}
use Rattle.std.proofs.Math.Seq.{take-length}
use Rattle.std.specs.List.{flat_map}
use Rattle.std.specs.Str.{chars}
use Rattle.text.specs.Shown.{shown_char}
use Rattle.commands.specs.Shown.{between, one_of, shown_word}

pub shown_front : (word cs : List ℕ) → cs ≡ take 40 (chars word) → 40 < length (chars word) → flat_map shown_char cs ++ codes ".." ≡ shown_word word
shown_front word cs front long =
    let more : nat_lt 40 (length (chars word)) ≡ true = search (rules, tests) in
    rw (front, more)

pub shown_whole : (word cs : List ℕ) → cs ≡ take 40 (chars word) → length (chars word) ≤ 40 → flat_map shown_char cs ≡ shown_word word
shown_whole word cs front short =
    let none : nat_lt 40 (length (chars word)) ≡ false = search (rules, tests) in
    rw (front, none) (sym (append-nil _))

pub choice_more : {A : Type 0} (word : A → List ℕ) (left rest : List A) (first : A) (all front : List ℕ) → left ≡ first ∷ rest → all ≡ front ++ one_of (map word left) → all ≡ ((front ++ word first) ++ between (map word rest)) ++ one_of (map word rest)
choice_more word left rest first all front cut is =
    is ∙ ap (λ l. front ++ one_of (map word l)) cut ∙ sym (append_assoc (front ++ word first) (between (map word rest)) (one_of (map word rest)) ∙ append_assoc front (word first) (between (map word rest) ++ one_of (map word rest)))

pub first_and_rest : {A : Type 0} (left : List A) (d : A) → 0 < length left → left ≡ get_or left 0 d ∷ take (length left - 1) (drop 1 left)
first_and_rest [] d some = absurd (omega arith)
first_and_rest (e ∷ es) d some =
    let one_less : length (e ∷ es) - 1 ≡ length es = omega arith in
    ap (λ l. e ∷ l) (sym (ap (λ n. take n es) one_less ∙ take-length es))
