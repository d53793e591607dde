-- One word more of a line.
use Rattle.std.proofs.Common.{◌≡◌, ℕ, ◌<◌, List, [], ◌∷◌, ◌++◌, length, sym, refl, subst, Bor}
use Rattle.std.specs.Char.{is_whitespace, is_not_whitespace}
use Rattle.std.specs.Str.{NoCharPasses, EmptyOrStartsWithPassing}
use Rattle.text.specs.Words.{First, Split}

-- what `split_whitespace` says of an item
pub first_of : (bs w rest : List ℕ) → (gap : List ℕ) × (bs ≡ gap ++ (w ++ rest)) × (0 < length w) × NoCharPasses is_not_whitespace gap × NoCharPasses is_whitespace w × ((more : List ℕ) × EmptyOrStartsWithPassing is_whitespace rest more) → First bs w rest
first_of bs w rest cut = record { gap = cut.0; cut = cut.1; some = cut.2; blank = cut.3; solid = cut.4; ends = cut.5 }

pub split_more : (bs : List ℕ) (ws : List (Bor (List ℕ))) (w : Bor (List ℕ)) (rest next : List ℕ) → Split bs ws rest → First rest w.now next → Split bs (ws ++ w ∷ []) next
split_more bs [] w rest next e f = (next, subst (λ l. First l w.now next) (sym e) f, refl)
split_more bs (v ∷ ws) w rest next h f = (h.0, h.1, split_more h.0 ws w rest next h.2 f)
