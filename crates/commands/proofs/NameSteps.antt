-- Names of limits, one after the other.
use Rattle.std.proofs.Common.{◌≡◌, ℕ, ◌+◌, ◌-◌, ◌<◌, ◌≤◌, List, [], ◌∷◌, ◌++◌, length, get_or, refl, take, drop, codes, ap, ◌∙◌, subst, inl, inr, arith, append_assoc, length-drop}
use Rattle.std.specs.Borrow.{Bor}
use Rattle.std.proofs.lemmas.List.{take_more}
use Rattle.std.proofs.lemmas.Grind.{get_or_after_one}
use Rattle.limit_names.specs.declared.LimitName.{LimitName}
use Rattle.limit_names.specs.declared.LimitName.TheVariants.{Comfort, Transition, Azimuth, Shift, Fifth, Table}
use Rattle.commands.specs.Words.{none, word}
use Rattle.limit_names.specs.Names.{limit_word}
use Rattle.commands.specs.Names.{NamedAlone, Names}
use Rattle.commands.specs.Mistakes.{NamesBefore}

pub named_alone : (w : List ℕ) (name : LimitName) → w ≡ limit_word name → (name ≡ Table → ⊥) → NamedAlone w
named_alone w Comfort is other = ((Comfort, is), λ table. grind arith)
named_alone w Transition is other = ((Transition, is), λ table. grind arith)
named_alone w Azimuth is other = ((Azimuth, is), λ table. grind arith)
named_alone w Shift is other = ((Shift, is), λ table. grind arith)
named_alone w Fifth is other = ((Fifth, is), λ table. grind arith)
named_alone w Table is other = absurd (other refl)

-- names after names
pub joined : (vs ws : List (Bor (List ℕ))) → Names vs → Names ws → Names (vs ++ ws)
joined [] ws before after = after
joined (v ∷ []) [] before after = before
joined (v ∷ []) (w ∷ ws) before after = inl (before, after)
joined (v ∷ u ∷ vs) ws (inl p) after = inl (p.0, joined (u ∷ vs) ws p.1 after)
joined (v ∷ u ∷ vs) ws (inr p) after = inr (p.0, joined vs ws p.1 after)

-- what names leave of names
pub left_over : (vs ws : List (Bor (List ℕ))) → Names vs → Names (vs ++ ws) → Names ws
left_over [] ws before all = all
left_over (v ∷ []) [] before all = tt
left_over (v ∷ []) (w ∷ ws) before (inl p) = p.1
left_over (v ∷ []) (w ∷ ws) before (inr p) = absurd (before.1 p.0)
left_over (v ∷ u ∷ vs) ws (inl p) (inl q) = left_over (u ∷ vs) ws p.1 q.1
left_over (v ∷ u ∷ vs) ws (inl p) (inr q) = absurd (p.0.1 q.0)
left_over (v ∷ u ∷ vs) ws (inr p) (inl q) = absurd (q.0.1 p.0)
left_over (v ∷ u ∷ vs) ws (inr p) (inr q) = left_over vs ws p.1 q.1

one_more : (ws : List (Bor (List ℕ))) (k : ℕ) → k < length ws → Names (take k ws) → NamedAlone (get_or ws k none).now → Names (take (k + 1) ws)
one_more ws k within before here = rw (take_more ws k none within) (joined (take k ws) _ before here)

table_more : (ws : List (Bor (List ℕ))) (k : ℕ) → k + 1 < length ws → Names (take k ws) → (get_or ws k none).now ≡ codes "table" → Names (take ((k + 1) + 1) ws)
table_more ws k within before here =
    let less : k < length ws = omega arith in
    rw (take_more ws (k + 1) none within, take_more ws k none less, append_assoc) (joined (take k ws) _ before (inr (here, tt)))

-- the word at position i, among those after the first
pub after_first : (ws : List (Bor (List ℕ))) (i k : ℕ) → i ≡ k + 1 → get_or (drop 1 ws) k none ≡ get_or ws i none
after_first ws i k next = get_or_after_one ws k none ∙ ap (λ j. get_or ws j none) (omega arith)

-- one more name stands at position i
pub name_read : (ws : List (Bor (List ℕ))) (i : ℕ) (name : LimitName) → 1 ≤ i → i < length ws → NamesBefore ws (i + 1) → word ws i ≡ limit_word name → (name ≡ Table → ⊥) → NamesBefore ws ((i + 1) + 1)
name_read ws i name some within before is other =
    let k = (i + 1) - 2 in
    let here : NamedAlone (get_or (drop 1 ws) k none).now = rw (after_first ws i k (omega arith)) (named_alone (word ws i) name is other) in
    subst (λ j. Names (take j (drop 1 ws))) {x = k + 1} {y = ((i + 1) + 1) - 2} (omega arith) (one_more (drop 1 ws) k (simp length-drop (omega arith)) before here)

pub table_read : (ws : List (Bor (List ℕ))) (i : ℕ) → 1 ≤ i → i + 1 < length ws → NamesBefore ws (i + 1) → word ws i ≡ codes "table" → NamesBefore ws (((i + 1) + 1) + 1)
table_read ws i some within before is =
    let k = (i + 1) - 2 in
    let here : (get_or (drop 1 ws) k none).now ≡ codes "table" = rw (after_first ws i k (omega arith)) is in
    subst (λ j. Names (take j (drop 1 ws))) {x = (k + 1) + 1} {y = (((i + 1) + 1) + 1) - 2} (omega arith) (table_more (drop 1 ws) k (simp length-drop (omega arith)) before here)
