-- The words of a line: what stands between white space.
use Rattle.std.specs.Prelude.{◌≡◌, ℕ, ◌<◌, ◌⊎◌, List, [], ◌∷◌, ◌++◌, length}
use Rattle.std.specs.Borrow.{Bor}
use Rattle.std.specs.Char.{is_whitespace, is_not_whitespace}
use Rattle.std.specs.Str.{NoCharPasses, EmptyOrStartsWithPassing}

-- bs is white space, the word w, and rest, which is empty or begins with white space
pub record First (bs w rest : List ℕ) : Type 0 where
  pub gap : List ℕ
  pub cut : bs ≡ gap ++ (w ++ rest)
  pub some : 0 < length w
  pub blank : NoCharPasses is_not_whitespace gap
  pub solid : NoCharPasses is_whitespace w
  pub ends : (more : List ℕ) × EmptyOrStartsWithPassing is_whitespace rest more

-- ws are the first words of bs, and rest is what follows them
abbrev pub Split : List ℕ → List (Bor (List ℕ)) → List ℕ → Type 0
Split bs [] rest = bs ≡ rest
Split bs (w ∷ ws) rest = (mid : List ℕ) × First bs w.now mid × Split mid ws rest

-- ws are all the words of bs, or as many of the first as there is room for
abbrev pub Words : ℕ → List ℕ → List (Bor (List ℕ)) → Type 0
Words room bs ws = (rest : List ℕ) × Split bs ws rest × (NoCharPasses is_not_whitespace rest ⊎ (length ws ≡ room))
