-- The test over all entries, as facts about each entry, and the largest length that they want.
use Rattle.std.proofs.Common.{◌≡◌, ℕ, ◌≤◌, Bool, true, false, cond, T, List, [], ◌∷◌, max, map, Some, None, refl, inl, inr, arith, rules, leb}
use borrow.Author.Tests.{tests}
use Rattle.std.specs.Bool.{Decides}
use Rattle.std.specs.List.{fold, reduce}
use Rattle.std.specs.Option.{unwrap_or}
use Rattle.std.proofs.lemmas.Bool.{false≢true, leb-true, le-leb, lt-leb, cases_lt}
use Rattle.std.proofs.lemmas.List.Elements.{All-nil, All-cons, All-head, All-tail}
use Rattle.std.proofs.lemmas.List.Sums.{AllPass-from_list_all, list_all-from_AllPass}
use Rattle.limits.specs.declared.place.Place.{Place}
use Rattle.limits.specs.Admission.{In}
use Rattle.limits.specs.Least.{Smallest, LeastOf}
use Rattle.client_table.specs.declared.entry.Entry.{Entry}
use Rattle.client_table.specs.Tables.{read, allows, Allows, wanted, each_allows, EachAllows, table, ByEntries}

-- one entry
by_tests : (a b c : Bool) {P Q R : Type 0} → Decides a P → Decides b Q → Decides c R → Decides (cond a (cond b c true) true) (P → Q → R)
by_tests true true c p q r = (λ e from to. r.0 e, λ f. r.1 (f (p.0 refl) (q.0 refl)))
by_tests true false c p q r = (λ e from to. absurd (false≢true (q.1 to)), λ f. refl)
by_tests false b c p q r = (λ e from to. absurd (false≢true (p.1 from)), λ f. refl)

leb_decides : (a b : ℕ) → Decides (leb a b) (a ≤ b)
leb_decides a b = (leb-true a b, le-leb a b)

allows_decides : (entry : Entry) (radius length : ℕ) → Decides (allows entry radius length) (Allows entry radius length)
allows_decides entry radius length =
    by_tests (leb entry.first_radius radius) (leb radius entry.last_radius) (leb entry.least_length length)
    (leb_decides entry.first_radius radius) (leb_decides radius entry.last_radius) (leb_decides entry.least_length length)

wanted_tells : (entry : Entry) (radius length : ℕ) → (wanted entry radius ≤ length → Allows entry radius length) × (Allows entry radius length → wanted entry radius ≤ length)
wanted_tells entry radius length = (search (rules, tests), search (rules, tests))

-- all entries
each_decides : (entries : List (List ℕ)) (radius length : ℕ) → Decides (each_allows entries radius length) (EachAllows entries radius length)
each_decides entries radius length =
    let test : List ℕ → Bool = λ entry. allows (read entry) radius length in (
      λ e k d within. (allows_decides _ radius length).0 (AllPass-from_list_all test entries e k d within),
      λ all. list_all-from_AllPass test entries (λ k d within. (allows_decides _ radius length).1 (all k d within)),
    )

both_decide : (a b : Bool) {P Q : Type 0} → Decides a P → Decides b Q → Decides (cond a b false) (P × Q)
both_decide true b p q = (λ e. (p.0 refl, q.0 e), λ both. q.1 both.1)
both_decide false b p q = (λ e. absurd (false≢true e), λ both. p.1 both.0)

pub by_entries : (entries : List (List ℕ)) (place : Place) (length : ℕ) → ByEntries entries place length (table entries place length)
by_entries entries place length =
    both_decide (leb length 2_000_000) (each_allows entries place.radius length) (leb_decides length 2_000_000) (each_decides entries place.radius length)

-- the largest that the entries want, beside a first length
abbrev By : (radius length : ℕ) → List ℕ → Type 0
By radius length entry = Allows (read entry) radius length

largest : (entries : List (List ℕ)) (radius first : ℕ) → Smallest (λ length. (first ≤ length) × EachAllows entries radius length) (fold max first (map (λ entry. wanted (read entry) radius) entries))
largest [] radius first = record { admitted = (omega arith, All-nil (By radius first)); least = λ other both. both.0 }
largest (entry ∷ entries) radius first =
    let own = wanted (read entry) radius in
    let most = fold max (max first own) (map (λ entry. wanted (read entry) radius) entries) in
    let rest = largest entries radius (max first own) in
    let here : own ≤ most = omega (arith, rest.admitted.0) in
    record {
      admitted = (omega (arith, rest.admitted.0), All-cons (By radius most) entry entries ((wanted_tells (read entry) radius most).0 here) rest.admitted.1);
      least =
          λ other both.
          let there : own ≤ other = (wanted_tells (read entry) radius other).1 (All-head (By radius other) entry entries both.1) in
          rest.least other (omega (arith, both.0, there), All-tail (By radius other) entry entries both.1);
    }

pub largest_wanted : (entries : List (List ℕ)) (radius : ℕ) → Smallest (EachAllows entries radius) (unwrap_or (reduce max (map (λ entry. wanted (read entry) radius) entries)) 0)
largest_wanted [] radius = record { admitted = All-nil (By radius 0); least = λ other all. omega arith }
largest_wanted (entry ∷ entries) radius =
    let own = wanted (read entry) radius in
    let most = fold max own (map (λ entry. wanted (read entry) radius) entries) in
    let rest = largest entries radius own in
    record {
      admitted = All-cons (By radius most) entry entries ((wanted_tells (read entry) radius most).0 rest.admitted.0) rest.admitted.1;
      least = λ other all. rest.least other ((wanted_tells (read entry) radius other).1 (All-head (By radius other) entry entries all), All-tail (By radius other) entry entries all);
    }

-- the least length of the table, where the largest that its entries want is not above the longest
T_true : (b : Bool) → T b → b ≡ true
T_true true t = refl
T_true false t = absurd t

true_T : (b : Bool) → b ≡ true → T b
true_T true e = tt
true_T false e = absurd (false≢true e)

pub least_of : (entries : List (List ℕ)) (place : Place) (wanted : ℕ) → Smallest (EachAllows entries place.radius) wanted → LeastOf (In (table entries place)) (cond (leb wanted 2_000_000) (Some wanted) None)
least_of entries place wanted all = elim (cases_lt 2_000_000 wanted) [
  | inl above ↦ rw (lt-leb wanted 2_000_000 above) (λ length t. let allowed = admitted length t in omega (arith, allowed.0, all.least length allowed.1))
  | inr within ↦ rw (le-leb wanted 2_000_000 within) (record {
    admitted = true_T _ ((by_entries entries place wanted).1 (within, all.admitted));
    least = λ other t. all.least other (admitted other t).1;
  })
]
  where
    admitted : (length : ℕ) → T (table entries place length) → (length ≤ 2_000_000) × EachAllows entries place.radius length
    admitted length t = (by_entries entries place length).0 (T_true _ t)
