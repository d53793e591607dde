-- A word that no entry of a table has is no name, where the table has an entry for each.
use Rattle.std.proofs.Common.{◌≡◌, ℕ, zero, suc, ◌<◌, List, [], ◌∷◌, length, get_or, drop, map, sym, ap, ◌∙◌, arith}
use Rattle.std.specs.List.{AllWithin, HoldsAt}
use Rattle.limit_names.specs.declared.LimitName.{LimitName}
use Rattle.limit_names.specs.declared.LimitName.TheVariants.{Comfort, Transition, Azimuth, Shift, Fifth, Table}
use Rattle.limit_names.specs.Names.{ALimit, limit_word, limits}

-- w is none of the words
abbrev pub NoneIs : List ℕ → List (List ℕ) → Type 0
NoneIs w vs = (k : ℕ) → k < length vs → get_or vs k [] ≡ w → ⊥

pub none_is : {A : Type 0} (word : A → List ℕ) (w : List ℕ) (entries : List A) → AllWithin (λ e. word e ≡ w → ⊥) entries 0 (length entries) → NoneIs w (map word entries)
none_is word w [] none k less = absurd (omega arith)
none_is word w (e ∷ es) none zero less = none 0 e (omega arith) (omega arith)
none_is word w (e ∷ es) none (suc k) less = none_is word w es (λ k d low less. none (suc k) d (omega arith) (omega arith)) k (omega arith)

-- an entry of a table where f and g are the same of each
pub same_at : {A : Type 0} (f g : A → List ℕ) (entries : List A) (x : A) (i : ℕ) → map f entries ≡ map g entries → i < length entries → HoldsAt (λ y. y ≡ x) entries i → f x ≡ g x
same_at f g [] x i same less here = absurd (omega arith)
same_at f g (e ∷ es) x zero same less here =
    let is : e ≡ x = here e in
    ap f (sym is) ∙ ap (λ l. get_or l 0 []) same ∙ ap g is
same_at f g (e ∷ es) x (suc i) same less here = same_at f g es x i (ap (drop 1) same) (omega arith) here

by_name : (w : List ℕ) → NoneIs w (map limit_word limits) → (name : LimitName) → w ≡ limit_word name → ⊥
by_name w none Comfort is = none 0 (omega arith) (sym is)
by_name w none Transition is = none 1 (omega arith) (sym is)
by_name w none Azimuth is = none 2 (omega arith) (sym is)
by_name w none Shift is = none 3 (omega arith) (sym is)
by_name w none Fifth is = none 4 (omega arith) (sym is)
by_name w none Table is = none 5 (omega arith) (sym is)

pub unlisted : (w : List ℕ) → NoneIs w (map limit_word limits) → ALimit w → ⊥
unlisted w none named = by_name w none named.0 named.1
