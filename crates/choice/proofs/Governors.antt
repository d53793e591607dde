-- Among limits with least lengths one has that of all together.
use Rattle.std.proofs.Common.{◌≡◌, ℕ, suc, ◌+◌, ◌<◌, ◌≤◌, ◌≢◌, max, Bool, true, false, cond, T, List, [], ◌∷◌, length as count, get_or, Some, None, Option, ◌⊎◌, inl, inr, refl, sym, ap, ◌∙◌, subst, arith, leb, eqb, nat_le, le→leb}
use Rattle.std.proofs.lemmas.Bool.{eqb-true, eq-eqb, false≢true, true≢false}
use Rattle.std.proofs.lemmas.Bool.Decides.{leb_tells, eqb_tells}
use Rattle.std.proofs.lemmas.List.{get_or_default}
use Rattle.std.specs.Option.{option_eq}
use Rattle.limits.specs.declared.place.Place.{Place}
use Rattle.limits.specs.Admission.{In, UpToLongest, up_to_longest, both}
use Rattle.limits.specs.All.{all_of, all_lawful}
use Rattle.limits.specs.Least.{LeastOf}
use Rattle.limits.proofs.Leasts.{least_both}
use Rattle.limits.proofs.Lists.{larger_zero_right, none_smallest}
use Rattle.limits.proofs.Leasts.{larger_of}
use Rattle.norma.specs.Formulas.{comfort, transition, azimuth, shift, compulsory}
use Rattle.norma.specs.Lawful.{shift_lawful}
use Rattle.choice.specs.Chosen.{chosen}
use Rattle.choice.specs.Governors.{limits_of}
use Rattle.choice.specs.declared.in_force.LimitsInForce.TheVariants.{Compulsory}

-- there is one answer
pub one_least : (Admitted : ℕ → Type 0) (x y : Option ℕ) → LeastOf Admitted x → LeastOf Admitted y → x ≡ y
one_least A (Some a) (Some b) l m = ap Some (omega (arith, l.least b m.admitted, m.least a l.admitted))
one_least A (Some a) None l m = absurd (m a l.admitted)
one_least A None (Some b) l m = absurd (l b m.admitted)
one_least A None None l m = refl

module _ {L : Type 0} (admitted : L → ℕ → Bool) (lawful : (l : L) → UpToLongest (admitted l)) (d : L) (P : Option ℕ → Type 0) where
  larger_by : (a b : ℕ) → ((leb a b ≡ true) × (a ≤ b)) ⊎ ((leb a b ≡ false) × (b < a)) → P (Some a) → P (Some b) → P (Some (max a b))
  larger_by a b (inl (is, le)) p q = subst (λ n. P (Some n)) (omega (arith, le)) q
  larger_by a b (inr (is, lt)) p q = subst (λ n. P (Some n)) (omega (arith, lt)) p

  larger_keeps : (x y : Option ℕ) → P x → P y → P (larger_of x y)
  larger_keeps (Some a) (Some b) p q = larger_by a b (leb_tells a b) p q
  larger_keeps (Some a) None p q = q
  larger_keeps None y p q = p

  abbrev Answered : L → Type 0
  Answered l = (x : Option ℕ) × LeastOf (In (admitted l)) x × P x

  with_first : (l : L) (limits : List L) → Answered l → (limits ≡ []) ⊎ ((x : Option ℕ) × LeastOf (In (all_of admitted limits)) x × P x) → (x : Option ℕ) × LeastOf (In (all_of admitted (l ∷ limits))) x × P x
  with_first l limits (x, least, p) (inl none) =
      let alone : LeastOf (In (all_of admitted (l ∷ []))) (larger_of x (Some 0)) = least_both (lawful l) (all_lawful lawful []) x (Some 0) least none_smallest in
      (x, rw none (subst (LeastOf (In (all_of admitted (l ∷ [])))) (larger_zero_right x) alone), p)
  with_first l limits (x, least, p) (inr (y, others, q)) =
      (larger_of x y, least_both (lawful l) (all_lawful lawful limits) x y least others, larger_keeps x y p q)

  one_of : (limits : List L) → ((i : ℕ) → i < count limits → Answered (get_or limits i d)) → (limits ≡ []) ⊎ ((x : Option ℕ) × LeastOf (In (all_of admitted limits)) x × P x)
  one_of [] each = inl refl
  one_of (l ∷ limits) each = inr (with_first l limits (each 0 (omega arith)) (one_of limits (λ i within. each (suc i) (omega arith))))

-- where each limit's least length is another than that of all, there is no limit
pub none_there : {L : Type 0} (admitted : L → ℕ → Bool) (lawful : (l : L) → UpToLongest (admitted l)) (d : L) (limits : List L) (least : Option ℕ) → LeastOf (In (all_of admitted limits)) least
    → ((i : ℕ) → i < count limits → (x : Option ℕ) × LeastOf (In (admitted (get_or limits i d))) x × (x ≡ least → ⊥)) → limits ≡ []
none_there admitted lawful d limits least all others = by (one_of admitted lawful d (λ x. x ≡ least → ⊥) limits others)
  where
    by : (limits ≡ []) ⊎ ((x : Option ℕ) × LeastOf (In (all_of admitted limits)) x × (x ≡ least → ⊥)) → limits ≡ []
    by (inl none) = none
    by (inr (x, is, other)) = absurd (other (one_least _ x least is all))

-- what comparing two answers tells
pub option_same : (x y : Option ℕ) → option_eq eqb x y ≡ true → x ≡ y
option_same (Some a) (Some b) is = ap Some (eqb-true a b is)
option_same (Some a) None is = absurd (false≢true is)
option_same None (Some b) is = absurd (false≢true is)
option_same None None is = refl

pub option_other : (x y : Option ℕ) → option_eq eqb x y ≡ false → x ≡ y → ⊥
option_other x y is same = differs y (subst (λ z. option_eq eqb z y ≡ false) same is)
  where
    differs : (y : Option ℕ) → option_eq eqb y y ≡ false → ⊥
    differs (Some b) is = true≢false (sym (eq-eqb b b refl) ∙ is)
    differs None is = true≢false is

-- one limit more with another least length
pub one_more : {L : Type 0} (admitted : L → ℕ → Bool) (d : L) (limits : List L) (least : Option ℕ) (at : ℕ) (here : L) → here ≡ get_or limits at here → at < count limits
    → ((i : ℕ) → i < at → (x : Option ℕ) × LeastOf (In (admitted (get_or limits i d))) x × (x ≡ least → ⊥))
    → (found : Option ℕ) → LeastOf (In (admitted here)) found → (found ≡ least → ⊥)
    → (i : ℕ) → i < at + 1 → (x : Option ℕ) × LeastOf (In (admitted (get_or limits i d))) x × (x ≡ least → ⊥)
one_more {L = L} admitted d limits least at here is within before found least_here other i lt = by (eqb_tells i at)
  where
    by : ((eqb i at ≡ true) × (i ≡ at)) ⊎ ((eqb i at ≡ false) × (i ≢ at)) → (x : Option ℕ) × LeastOf (In (admitted (get_or limits i d))) x × (x ≡ least → ⊥)
    by (inl (_, same)) =
        let this : here ≡ get_or limits i d = is ∙ get_or_default limits at here d within ∙ ap (λ n. get_or limits n d) (sym same) in
        (found, subst (λ l. LeastOf (In (admitted l)) found) this least_here, other)
    by (inr (_, not)) = before i (omega (arith, lt, not))

-- a limit is its own cap
capped : (a : ℕ → Bool) → UpToLongest a → both a (up_to_longest (λ _. true)) ≡ a
capped a lawful = λ i length. at length i
  where
    by_test : (b c : Bool) → (T b → T c) → cond b (cond c true false) false ≡ b
    by_test true true f = refl
    by_test true false f = absurd (f tt)
    by_test false c f = refl

    at : (length : ℕ) → both a (up_to_longest (λ _. true)) length ≡ a length
    at length = by_test (a length) (nat_le length 2_000_000) (λ t. le→leb length 2_000_000 (lawful.capped length t))

-- the four together are the compulsory pile
pub compulsory_is : (place : Place) → all_of (λ limit. chosen limit place) (limits_of Compulsory) ≡ compulsory place
compulsory_is place =
    ap (λ a. both (comfort place) (both (transition place) (both (azimuth place) a))) (capped (shift place) (shift_lawful place))
