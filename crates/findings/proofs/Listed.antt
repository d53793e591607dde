-- The computed list is the list of the findings.
use Rattle.std.proofs.Common.{◌≡◌, ℕ, suc, ◌+◌, ◌*◌, ◌<◌, Bool, true, false, ◌⊎◌, List, [], ◌∷◌, ◌++◌, length, refl, ap, ◌∙◌, subst, inl, inr, arith, lit<}
use Rattle.std.proofs.lemmas.Bool.{cases_order, false≢true}
use Rattle.road.specs.declared.road.Road.{Road}
use Rattle.limits.specs.declared.place.Place.{Place}
use Rattle.limits.specs.Admission.{UpToLongest}
use Rattle.rows.specs.declared.row.Row.{Row}
use Rattle.findings.specs.declared.finding.Finding.{Finding}
use Rattle.findings.specs.declared.finding.Side.{Side}
use Rattle.findings.specs.declared.finding.Side.TheVariants.{Whole, Entry, Exit}
use Rattle.findings.specs.declared.kind.Kind.{Kind}
use Rattle.findings.specs.declared.kind.Kind.TheVariants.{UnadmittedEntry, UnadmittedExit, LongEntry, LongExit, UncalledEntry, UncalledExit, Unequal, Disharmony, NoArc, TightRadius, NextRadius, ReturnRadius, SmallTurn, ShortRun, LongRun, SlightTurn}
use Rattle.findings.specs.declared.walk.Context.{Context}
use Rattle.findings.specs.declared.walk.Flank.{Flank}
use Rattle.findings.specs.Rules.{Admission}
use Rattle.findings.specs.Findings.{rule_number, side_number, rule_of, side_of, finding_of, Sooner, Among, Ordered, FindingsOf}
use Rattle.findings.specs.Walk.{nothing, past, context_of, breaks, kinds, clothoid_kinds, other_kinds, given, gathered, listed}
use Rattle.findings.proofs.Around.{walked}
use Rattle.findings.proofs.Decide.{decides}

among_left : (f : Finding) (xs ys : List Finding) → Among f xs → Among f (xs ++ ys)
among_left f [] ys m = absurd m
among_left f (x ∷ xs) ys (inl e) = inl e
among_left f (x ∷ xs) ys (inr m) = inr (among_left f xs ys m)

among_right : (f : Finding) (xs ys : List Finding) → Among f ys → Among f (xs ++ ys)
among_right f [] ys m = m
among_right f (x ∷ xs) ys m = inr (among_right f xs ys m)

among_parts : (f : Finding) (xs ys : List Finding) → Among f (xs ++ ys) → Among f xs ⊎ Among f ys
among_parts f [] ys m = inr m
among_parts f (x ∷ xs) ys (inl e) = inl (inl e)
among_parts f (x ∷ xs) ys (inr m) = elim (among_parts f xs ys m) [ inl a ↦ inl (inr a) | inr b ↦ inr b ]

ordered_append : (xs ys : List Finding) → Ordered xs → Ordered ys → ((f g : Finding) → Among f xs → Among g ys → Sooner f g) → Ordered (xs ++ ys)
ordered_append [] ys o p h = p
ordered_append (x ∷ xs) ys o p h =
    (λ g m. elim (among_parts g xs ys m) [ inl a ↦ o.0 g a | inr b ↦ h x g (inl refl) b ], ordered_append xs ys o.1 p (λ f g a b. h f g (inr a) b))

-- The kinds are in the order of rule and side.
rank : Kind → ℕ
rank k = 3 * rule_number (rule_of k) + side_number (side_of k)

abbrev Above : ℕ → List Kind → Type 0
Above n [] = Unit {0}
Above n (k ∷ ks) = (n < rank k) × Above (rank k) ks

side_small : (s : Side) → side_number s < 3
side_small Whole = lit< tt
side_small Entry = lit< tt
side_small Exit = lit< tt

rank_sooner : (position : ℕ) (k j : Kind) → rank k < rank j → Sooner (finding_of position k) (finding_of position j)
unfolding rank
rank_sooner position k j h =
    let a = side_small (side_of k) in
    let b = side_small (side_of j) in
    elim (cases_order (rule_number (rule_of k)) (rule_number (rule_of j))) [
      | inl e ↦ inr (refl, inr (e, omega arith))
      | inr (inl less) ↦ inr (refl, inl less)
      | inr (inr more) ↦ absurd (let z : ⊥ = omega arith in z)
    ]

kinds_above : Above 0 kinds
unfolding kinds clothoid_kinds other_kinds rank
kinds_above = (lit< tt, (lit< tt, (lit< tt, (lit< tt, (lit< tt, (lit< tt, (lit< tt, (lit< tt, (lit< tt, (lit< tt, (lit< tt, (lit< tt, (lit< tt, (lit< tt, (lit< tt, (lit< tt, tt))))))))))))))))

Listing : Kind → List Kind → Type 0
Listing k [] = ⊥
Listing k (j ∷ ks) = (k ≡ j) ⊎ Listing k ks

all_kinds : (k : Kind) → Listing k kinds
unfolding kinds clothoid_kinds other_kinds Listing
all_kinds UnadmittedEntry = inl refl
all_kinds UnadmittedExit = inr (inl refl)
all_kinds LongEntry = inr (inr (inl refl))
all_kinds LongExit = inr (inr (inr (inl refl)))
all_kinds UncalledEntry = inr (inr (inr (inr (inl refl))))
all_kinds UncalledExit = inr (inr (inr (inr (inr (inl refl)))))
all_kinds Unequal = inr (inr (inr (inr (inr (inr (inl refl))))))
all_kinds Disharmony = inr (inr (inr (inr (inr (inr (inr (inl refl)))))))
all_kinds NoArc = inr (inr (inr (inr (inr (inr (inr (inr (inl refl))))))))
all_kinds TightRadius = inr (inr (inr (inr (inr (inr (inr (inr (inr (inl refl)))))))))
all_kinds NextRadius = inr (inr (inr (inr (inr (inr (inr (inr (inr (inr (inl refl))))))))))
all_kinds ReturnRadius = inr (inr (inr (inr (inr (inr (inr (inr (inr (inr (inr (inl refl)))))))))))
all_kinds SmallTurn = inr (inr (inr (inr (inr (inr (inr (inr (inr (inr (inr (inr (inl refl))))))))))))
all_kinds ShortRun = inr (inr (inr (inr (inr (inr (inr (inr (inr (inr (inr (inr (inr (inl refl)))))))))))))
all_kinds LongRun = inr (inr (inr (inr (inr (inr (inr (inr (inr (inr (inr (inr (inr (inr (inl refl))))))))))))))
all_kinds SlightTurn = inr (inr (inr (inr (inr (inr (inr (inr (inr (inr (inr (inr (inr (inr (inr (inl refl)))))))))))))))

-- The findings of one row.
among_given : (b : Bool) (f g : Finding) → Among f (given b g) → (f ≡ g) × (b ≡ true)
among_given true f g (inl e) = (e, refl)
among_given true f g (inr m) = absurd m
among_given false f g m = absurd m

given_among : (b : Bool) (f : Finding) → b ≡ true → Among f (given b f)
given_among true f e = inl refl
given_among false f e = absurd (false≢true e)

one_ordered : (b : Bool) (f : Finding) → Ordered (given b f)
one_ordered true f = (λ g m. absurd m, tt)
one_ordered false f = tt

module _ (road : Road) where
  among_gathered : (position : ℕ) (at : Context) (n : ℕ) (ks : List Kind) (f : Finding) → Above n ks → Among f (gathered road position at ks)
      → (k : Kind) × (f ≡ finding_of position k) × (breaks road k at ≡ true) × (n < rank k)
  among_gathered position at n [] f a m = absurd m
  among_gathered position at n (k ∷ ks) f a m =
      elim (among_parts f (given (breaks road k at) (finding_of position k)) (gathered road position at ks) m) [
        | inl i ↦ let (e, b) = among_given (breaks road k at) f (finding_of position k) i in (k, e, b, a.0)
        | inr i ↦ let (j, e, b, l) = among_gathered position at (rank k) ks f a.1 i in let lt = a.0 in (j, e, b, omega arith)
      ]

  gathered_among : (position : ℕ) (at : Context) (k : Kind) (ks : List Kind) → Listing k ks → breaks road k at ≡ true
      → Among (finding_of position k) (gathered road position at ks)
  unfolding Listing
  gathered_among position at k [] m e = absurd m
  gathered_among position at k (j ∷ ks) (inl i) e =
      let h : Among (finding_of position k) (given (breaks road j at) (finding_of position j)) =
      rw (← i) (given_among (breaks road k at) (finding_of position k) e) in
      among_left (finding_of position k) (given (breaks road j at) (finding_of position j)) (gathered road position at ks) h
  gathered_among position at k (j ∷ ks) (inr m) e =
      among_right (finding_of position k) (given (breaks road j at) (finding_of position j)) (gathered road position at ks) (gathered_among position at k ks m e)

  gathered_ordered : (position : ℕ) (at : Context) (n : ℕ) (ks : List Kind) → Above n ks → Ordered (gathered road position at ks)
  gathered_ordered position at n [] a = tt
  gathered_ordered position at n (k ∷ ks) a =
      ordered_append (given (breaks road k at) (finding_of position k)) (gathered road position at ks) (one_ordered (breaks road k at) (finding_of position k))
      (gathered_ordered position at (rank k) ks a.1)
      (λ f g i j.
      let (e, b) = among_given (breaks road k at) f (finding_of position k) i in
      let (m, q, t, l) = among_gathered position at (rank k) ks g a.1 j in
      rw (e, q) (rank_sooner position k m l))

-- The findings of all rows.
module _ (road : Road) (admission : Admission) where
  record Seen (position : ℕ) (behind : Flank) (rows : List Row) (f : Finding) : Type 0 where
    before : List Row
    this : Row
    after : List Row
    reads : rows ≡ before ++ this ∷ after
    kind : Kind
    is : f ≡ finding_of (position + length before) kind
    broken : breaks road kind (context_of road admission (walked behind before) this after) ≡ true

  among_listed : (position : ℕ) (behind : Flank) (rows : List Row) (f : Finding) → Among f (listed road admission position behind rows) → Seen position behind rows f
  among_listed position behind [] f m = absurd m
  among_listed position behind (r ∷ rows) f m =
      elim (among_parts f (gathered road position (context_of road admission behind r rows) kinds) (listed road admission (position + 1) (past behind r) rows) m) [
        | inl i ↦
            let (k, e, b, l) = among_gathered road position (context_of road admission behind r rows) 0 kinds f kinds_above i in
            let z : position ≡ position + 0 = omega arith in
            record { before = []; this = r; after = rows; reads = refl; kind = k; is = e ∙ ap (λ (n : ℕ). finding_of n k) z; broken = b }
        | inr i ↦
            let s = among_listed (position + 1) (past behind r) rows f i in
            let z : position + 1 + length s.before ≡ position + suc (length s.before) = omega arith in
            record {
              before = r ∷ s.before;
              this = s.this;
              after = s.after;
              reads = ap (λ (xs : List Row). r ∷ xs) s.reads;
              kind = s.kind;
              is = s.is ∙ ap (λ (n : ℕ). finding_of n s.kind) z;
              broken = s.broken;
            }
      ]

  listed_among : (position : ℕ) (behind : Flank) (before : List Row) (this : Row) (after : List Row) (k : Kind)
      → breaks road k (context_of road admission (walked behind before) this after) ≡ true
      → Among (finding_of (position + length before) k) (listed road admission position behind (before ++ this ∷ after))
  listed_among position behind [] this after k e =
      let z : position ≡ position + 0 = omega arith in
      subst (λ (n : ℕ). Among (finding_of n k) (listed road admission position behind (this ∷ after))) z
      (among_left (finding_of position k) (gathered road position (context_of road admission behind this after) kinds) (listed road admission (position + 1) (past behind this) after)
      (gathered_among road position (context_of road admission behind this after) k kinds (all_kinds k) e))
  listed_among position behind (r ∷ before) this after k e =
      let z : position + 1 + length before ≡ position + suc (length before) = omega arith in
      subst (λ (n : ℕ). Among (finding_of n k) (listed road admission position behind (r ∷ before ++ this ∷ after))) z
      (among_right (finding_of (position + 1 + length before) k) (gathered road position (context_of road admission behind r (before ++ this ∷ after)) kinds)
      (listed road admission (position + 1) (past behind r) (before ++ this ∷ after)) (listed_among (position + 1) (past behind r) before this after k e))

  listed_ordered : (position : ℕ) (behind : Flank) (rows : List Row) → Ordered (listed road admission position behind rows)
  listed_ordered position behind [] = tt
  listed_ordered position behind (r ∷ rows) =
      ordered_append (gathered road position (context_of road admission behind r rows) kinds) (listed road admission (position + 1) (past behind r) rows)
      (gathered_ordered road position (context_of road admission behind r rows) 0 kinds kinds_above) (listed_ordered (position + 1) (past behind r) rows)
      (λ f g i j.
      let (k, e, b, l) = among_gathered road position (context_of road admission behind r rows) 0 kinds f kinds_above i in
      let s = among_listed (position + 1) (past behind r) rows g j in
      let x : f.row ≡ position = ap (λ (h : Finding). h.row) e in
      let y : g.row ≡ position + 1 + length s.before = ap (λ (h : Finding). h.row) s.is in
      inl (omega (arith, x, y)))

  pub listed_is : ((place : Place) → UpToLongest (admission place)) → (rows : List Row) → FindingsOf road admission rows (listed road admission 0 nothing rows)
  listed_is lawful rows =
      record {
        ordered = listed_ordered 0 nothing rows;
        sound = λ f m.
            let s = among_listed 0 nothing rows f m in
            let z : 0 + length s.before ≡ length s.before = omega arith in
            record {
              before = s.before;
              this = s.this;
              after = s.after;
              reads = s.reads;
              kind = s.kind;
              is = s.is ∙ ap (λ (n : ℕ). finding_of n s.kind) z;
              broken = (decides road admission lawful s.kind s.before s.this s.after).0 s.broken;
            };
        complete = λ f p.
            let z : 0 + length p.before ≡ length p.before = omega arith in
            rw (p.reads, p.is, ← z)
            (listed_among 0 nothing p.before p.this p.after p.kind
            ((decides road admission lawful p.kind p.before p.this p.after).1 p.broken));
      }
