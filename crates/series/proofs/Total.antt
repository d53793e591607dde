-- The plain sheet has an answer to every call: each ground for refusing it is decided, and what it then does is made.
use Rattle.std.proofs.Common.{◌≡◌, ℕ, zero, suc, ◌+◌, ◌*◌, ◌<◌, ◌≤◌, ◌⊎◌, List, [], ◌∷◌, length, get_or, set, refl, ap, ◌∙◌, subst, inl, inr, arith}
use Rattle.std.proofs.Math.Decide.{dec_le, dec_lt, ℕ_discrete}
use Rattle.std.proofs.lemmas.List.{get_or_default}
use Rattle.std.specs.List.{insert, remove}
use Rattle.roots.specs.Roots.{RootUp}
use Rattle.road.specs.declared.road.Road.{Road}
use Rattle.road.specs.Openings.{Outside}
use Rattle.road.specs.Refusals.{Ground, FirstApplying, Clear}
use Rattle.rows.specs.Ends.{length_at}
use Rattle.rows.specs.Records.{blank_row}
use Rattle.rows.specs.declared.row.Curve.{Curve}
use Rattle.rows.specs.declared.row.Row.{Row}
use Rattle.rows.specs.declared.row.Row.TheVariants as row
use Rattle.findings.specs.declared.finding.Finding.{Finding}
use Rattle.findings.specs.Findings.{FindingsOf}
use Rattle.findings.specs.Walk.{nothing, listed}
use Rattle.findings.proofs.Listed.{listed_is}
use Rattle.findings.proofs.Unique.{one_list}
use Rattle.fitting.proofs.Outcome.{outcome}
use Rattle.plain.specs.declared.NewRow.{NewRow}
use Rattle.plain.specs.declared.NewRow.TheVariants as new
use Rattle.plain.specs.Sheet.{Mark, draft, fitted, Plain, Meaning, RowAt, StraightAt, number_grounds, Given, with_rows, marked, Call, add, take_out, set_lengths, check, fit, parameter, reopen, Answer, done, found, value, refused, barred, named, Allowed, grounds, Effect, barring, refusing, carrying, Step}
use Rattle.sheet.proofs.Keeps.{never_both}

-- a sheet of this mark has the call, or not
allowed : (mark : Mark) (c : Call) → Dec (Allowed mark c)
allowed draft (add position new) = yes tt
allowed draft (take_out n) = yes tt
allowed draft (set_lengths n entry exit) = yes tt
allowed draft (check limit space) = yes tt
allowed draft (fit limit) = yes tt
allowed draft (parameter n at) = no (λ never. never)
allowed draft reopen = no (λ never. never)
allowed fitted (add position new) = no (λ never. never)
allowed fitted (take_out n) = no (λ never. never)
allowed fitted (set_lengths n entry exit) = no (λ never. never)
allowed fitted (check limit space) = yes tt
allowed fitted (fit limit) = no (λ never. never)
allowed fitted (parameter n at) = yes tt
allowed fitted reopen = yes tt

either : {P Q : Type 0} → Dec P → Dec Q → Dec (P ⊎ Q)
either (yes p) d = yes (inl p)
either (no never) (yes q) = yes (inr q)
either (no never) (no neither) = no (λ h. elim h [ inl p ↦ never p | inr q ↦ neither q ])

-- a row that is there is a straight or a curve
abbrev pub CurveAt : List Row → ℕ → Type 0
CurveAt rows n = (c : Curve) × RowAt rows n (row.Curve c)

sorted : (rows : List Row) (n : ℕ) → n < length rows → (r : Row) → r ≡ get_or rows n blank_row → StraightAt rows n ⊎ CurveAt rows n
sorted rows n within (row.Straight s) is = inl (s, record { within = within; is = is ∙ get_or_default rows n blank_row (row.Straight s) within })
sorted rows n within (row.Curve c) is = inr (c, record { within = within; is = is ∙ get_or_default rows n blank_row (row.Curve c) within })

row_there : (rows : List Row) (n : ℕ) → n < length rows → StraightAt rows n ⊎ CurveAt rows n
row_there rows n within = sorted rows n within (get_or rows n blank_row) refl

straight? : (rows : List Row) (n : ℕ) → Dec (StraightAt rows n)
straight? rows n = elim (dec_lt n (length rows)) [
  | yes within ↦ elim (row_there rows n within) [
    | inl straight ↦ yes straight
    | inr curve ↦ no (λ straight. never_both rows n curve.0 straight.0 curve.1 straight.1)
  ]
  | no beyond ↦ no (λ straight. beyond straight.1.within)
]

-- the findings are more than the space holds, or not
more_findings? : (road : Road) (limit : Meaning) (rows : List Row) (space : ℕ) → Dec ((findings : List Finding) × FindingsOf road limit.admits rows findings × (space < length findings))
more_findings? road limit rows space =
    let all = listed road limit.admits 0 nothing rows in
    let of = listed_is road limit.admits limit.lawful rows in
    elim (dec_lt space (length all)) [
      | yes more ↦ yes (all, of, more)
      | no few ↦ no (λ other. let same = ap length (one_list road limit.admits rows other.0 all other.1 of) in let many = other.2 in few (omega arith))
    ]

abbrev Decided : List Ground → Type 0
Decided [] = Unit {0}
Decided (g ∷ gs) = Dec g.applies × Decided gs

outside? : (low high n : ℕ) → Dec (Outside low high n)
outside? low high n = either (dec_lt n low) (dec_lt high n)

numbers_decided : (new : NewRow) (others : List Ground) → Decided others → Decided (number_grounds new others)
numbers_decided (new.Straight l) others rest = (outside? 1 20_000_000 l, rest)
numbers_decided (new.Curve sense radius turn) others rest = (outside? 1_000 10_000_000 radius, (outside? 1 2_000_000 turn, rest))

decided : (room count : ℕ) (s : Plain) (c : Call) → Decided (grounds room count s c)
decided room count s (add position new) =
    numbers_decided new _ (dec_lt room count, (dec_lt count position, (either (dec_le 4_000 count) (dec_le room count), tt)))
decided room count s (take_out n) = (dec_lt room count, (dec_le count n, tt))
decided room count s (set_lengths n entry exit) =
    (either (dec_lt 2_000_000 entry) (dec_lt 2_000_000 exit), (dec_lt room count, (dec_le count n, (straight? s.rows n, tt))))
decided room count s (check limit space) = (dec_lt room count, (more_findings? s.road limit s.rows space, tt))
decided room count s (fit limit) = (dec_lt room count, (ℕ_discrete count 0, tt))
decided room count s (parameter n at) = (dec_lt room count, (dec_le count n, (straight? s.rows n, tt)))
decided room count s reopen = tt

-- the first ground that applies, or none
settled : (gs : List Ground) → Decided gs → ((k : ℕ) × FirstApplying gs k) ⊎ Clear gs
settled [] d = inr tt
settled (g ∷ gs) (yes holds, rest) = inl (g.number, inl (holds, refl))
settled (g ∷ gs) (no never, rest) = elim (settled gs rest) [ inl first ↦ inl (first.0, inr (never, first.1)) | inr clear ↦ inr (never, clear) ]

-- the row of numbers that are in their ranges
given_row : (new : NewRow) (others : List Ground) → Clear (number_grounds new others) → (r : Row) × Given new r
given_row (new.Straight l) others clear =
    let low : 1 ≤ l = elim (dec_le 1 l) [ yes h ↦ h | no h ↦ absurd (clear.0 (inl (omega arith))) ] in
    let high : l ≤ 20_000_000 = elim (dec_le l 20_000_000) [ yes h ↦ h | no h ↦ absurd (clear.0 (inr (omega arith))) ] in
    (row.Straight (record { length = l; within = (low, high) }), refl)
given_row (new.Curve sense radius turn) others clear =
    let low : 1_000 ≤ radius = elim (dec_le 1_000 radius) [ yes h ↦ h | no h ↦ absurd (clear.0 (inl (omega arith))) ] in
    let high : radius ≤ 10_000_000 = elim (dec_le radius 10_000_000) [ yes h ↦ h | no h ↦ absurd (clear.0 (inr (omega arith))) ] in
    let least : 1 ≤ turn = elim (dec_le 1 turn) [ yes h ↦ h | no h ↦ absurd (clear.1.0 (inl (omega arith))) ] in
    let most : turn ≤ 2_000_000 = elim (dec_le turn 2_000_000) [ yes h ↦ h | no h ↦ absurd (clear.1.0 (inr (omega arith))) ] in
    let none : 0 ≤ 2_000_000 = omega arith in (
      row.Curve (record { sense = sense; radius = radius; turn = turn; entry = 0; exit = 0; within = ((low, high), ((least, most), (none, none))) }),
      (refl, refl, refl, refl, refl),
    )

-- the least of the numbers below n whose square reaches, or none does
next_root : (square n : ℕ) → ((other : ℕ) → other < n → square ≤ other * other → ⊥) → Dec (square ≤ n * n) → ((root : ℕ) × RootUp square root) ⊎ ((other : ℕ) → other < suc n → square ≤ other * other → ⊥)
next_root square n none (yes reached) =
    inl (n, record { reached = reached; least = λ other h. elim (dec_le n other) [ yes le ↦ le | no less ↦ let lt : other < n = omega arith in absurd (none other lt h) ] })
next_root square n none (no never) =
    inr (λ other less h. elim (ℕ_discrete other n) [ yes same ↦ never (subst (λ m. square ≤ m * m) same h) | no apart ↦ let lt : other < n = omega arith in none other lt h ])

root_below : (square n : ℕ) → ((root : ℕ) × RootUp square root) ⊎ ((other : ℕ) → other < n → square ≤ other * other → ⊥)
root_below square zero = inr (λ other less h. let never : ⊥ = omega arith in never)
root_below square (suc n) = elim (root_below square n) [ inl root ↦ inl root | inr none ↦ next_root square n none (dec_le square (n * n)) ]

own_square : (n : ℕ) → n ≤ n * n
own_square zero = omega arith
own_square (suc n) = grind arith

root : (square : ℕ) → (root : ℕ) × RootUp square root
root square = elim (root_below square (square + 1)) [
  | inl it ↦ it
  | inr none ↦ absurd (none square (omega arith) (own_square square))
]

curve_there : (rows : List Row) (n : ℕ) → (length rows ≤ n → ⊥) → (StraightAt rows n → ⊥) → CurveAt rows n
curve_there rows n inside bent =
    let within : n < length rows = elim (dec_lt n (length rows)) [ yes h ↦ h | no h ↦ absurd (inside (omega arith)) ] in
    elim (row_there rows n within) [ inl straight ↦ absurd (bent straight) | inr curve ↦ curve ]

effect : (room : ℕ) (s : Plain) (c : Call) → Clear (grounds room (length s.rows) s c) → (a : Answer) × (s' : Plain) × Effect s c a s'
effect room s (add position new) clear =
    let r = given_row new _ clear in
    (done, with_rows s (insert s.rows position r.0), (refl, (r.0, r.1, refl)))
effect room s (take_out n) clear = (done, with_rows s (remove s.rows n), (refl, refl))
effect room s (set_lengths n entry exit) clear =
    let (c, at) = curve_there s.rows n clear.1.1.0 clear.1.1.1.0 in
    let low : entry ≤ 2_000_000 = elim (dec_le entry 2_000_000) [ yes h ↦ h | no h ↦ absurd (clear.0 (inl (omega arith))) ] in
    let low' : exit ≤ 2_000_000 = elim (dec_le exit 2_000_000) [ yes h ↦ h | no h ↦ absurd (clear.0 (inr (omega arith))) ] in
    let d : Curve = record { sense = c.sense; radius = c.radius; turn = c.turn; entry = entry; exit = exit; within = (c.within.0, (c.within.1.0, (low, low'))) } in (
      done,
      with_rows s (set s.rows n (row.Curve d)),
      (refl, (c, d, at, record { sense = refl; radius = refl; turn = refl; entry_is = refl; exit_is = refl }, refl)),
    )
effect room s (check limit space) clear =
    let all = listed s.road limit.admits 0 nothing s.rows in
    (found (length all) all, s, (all, listed_is s.road limit.admits limit.lawful s.rows, refl, refl))
effect room s (fit limit) clear = elim (outcome s.road limit.admits limit.lawful s.rows) [
  | inl least ↦ (done, marked fitted (with_rows s least.0), inl (refl, (least.0, least.1, refl)))
  | inr none ↦ (refused 12 none.0, s, inr (none.0, none.1, none.2, refl, refl))
]
effect room s (parameter n at) clear =
    let (c, there) = curve_there s.rows n clear.1.0 clear.1.1.0 in
    let A = root (c.radius * length_at at c) in
    (value A.0, s, (c, A.0, there, A.1, refl, refl))
effect room s reopen clear = (done, marked draft s, (refl, refl))

pub some_step : (room : ℕ) (s : Plain) (c : Call) → (a : Answer) × (s' : Plain) × Step room s c a s'
some_step room s c = elim (allowed s.mark c) [
  | no never ↦ (barred, s, barring never refl refl)
  | yes has ↦ elim (settled (grounds room (length s.rows) s c) (decided room (length s.rows) s c)) [
    | inl first ↦ (refused first.0 (named c), s, refusing has first.0 first.1 refl refl)
    | inr clear ↦ let e = effect room s c clear in (e.0, e.1, carrying has clear e.2)
  ]
]
