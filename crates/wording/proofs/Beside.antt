-- The computed neighbours: along a list from its back, and as the rows read.
use Rattle.std.proofs.Common.{◌≡◌, ℕ, ◌+◌, ◌^◌, ◌<◌, ◌⊎◌, Bool, true, false, cond, eqb, List, [], ◌∷◌, ◌++◌, Some, None, Option, map, length, sym, refl, ap, subst, inl, inr, ◌∙◌, arith}
use Rattle.std.proofs.lemmas.Bool.{eqb-true}
use Rattle.rows.specs.declared.row.Curve.{Curve}
use Rattle.rows.specs.declared.row.Row.{Row}
use Rattle.rows.specs.declared.row.Row.TheVariants as row
use Rattle.rows.specs.declared.row.Straight.{Straight}
use Rattle.rows.specs.declared.record.RowRecord.{RowRecord}
use Rattle.rows.specs.Records.{row_of}
use Rattle.wording.specs.declared.neighbours.Neighbour.{Neighbour}
use Rattle.findings.specs.Around.{straights, total, EndWith, BeginWith, NoStraightFirst}
use Rattle.wording.specs.Beside.{told, next_curve, longer, latest_curve, last_curve_lem, adjacent, right_before_lem, run_on, RightBefore, LastBefore, FirstAfter, RunIs}

-- one more straight, or one more curve, at the end
pub latest_straight : (found : Option Neighbour) (from : ℕ) (rows : List Row) (s : Straight)
    → latest_curve found from (rows ++ (row.Straight s ∷ [])) ≡ longer s.length (latest_curve found from rows)
latest_straight found from [] s = refl
latest_straight found from (row.Straight r ∷ rows) s = latest_straight (longer r.length found) (from + 1) rows s
latest_straight found from (row.Curve c ∷ rows) s = latest_straight (Some (record { row = from; curve = c; run = 0 })) (from + 1) rows s

pub latest_curve_is : (found : Option Neighbour) (from : ℕ) (rows : List Row) (c : Curve)
    → latest_curve found from (rows ++ (row.Curve c ∷ [])) ≡ Some (record { row = from + length rows; curve = c; run = 0 })
latest_curve_is found from [] c =
    let e : from ≡ from + 0 = omega arith in ap (λ (n : ℕ). Some (record { row = n; curve = c; run = 0 })) e
latest_curve_is found from (row.Straight r ∷ rows) c =
    let e : from + 1 + length rows ≡ from + length (row.Straight r ∷ rows) = omega arith in
    latest_curve_is (longer r.length found) (from + 1) rows c ∙ ap (λ (n : ℕ). Some (record { row = n; curve = c; run = 0 })) e
latest_curve_is found from (row.Curve d ∷ rows) c =
    let e : from + 1 + length rows ≡ from + length (row.Curve d ∷ rows) = omega arith in
    latest_curve_is (Some (record { row = from; curve = d; run = 0 })) (from + 1) rows c ∙ ap (λ (n : ℕ). Some (record { row = n; curve = c; run = 0 })) e

-- a run over a run
pub longer_longer : (a b : ℕ) (found : Option Neighbour) → longer a (longer b found) ≡ longer (told (a + b)) found
longer_longer a b None = refl
longer_longer a b (Some n) =
    let e : told (told (n.run + b) + a) ≡ told (n.run + told (a + b)) = omega arith in
    ap (λ (run : ℕ). Some (record { row = n.row; curve = n.curve; run = run })) e

-- what was told stays so
pub told_again : (from : ℕ) (rows : List Row) (found : Option Neighbour) → longer 0 found ≡ found → longer 0 (latest_curve found from rows) ≡ latest_curve found from rows
told_again from [] found e = e
told_again from (row.Straight s ∷ rows) found e =
    told_again (from + 1) rows (longer s.length found) (longer_longer 0 s.length found ∙ zero_more s.length found)
  where
    zero_more : (b : ℕ) (found : Option Neighbour) → longer (told (0 + b)) found ≡ longer b found
    zero_more b None = refl
    zero_more b (Some n) =
        let f : told (n.run + told (0 + b)) ≡ told (n.run + b) = omega arith in
        ap (λ (run : ℕ). Some (record { row = n.row; curve = n.curve; run = run })) f
told_again from (row.Curve c ∷ rows) found e = told_again (from + 1) rows (Some (record { row = from; curve = c; run = 0 })) refl

-- the records, from the last one back
mapped : (before : List RowRecord) (r : RowRecord) → map row_of (before ++ (r ∷ [])) ≡ map row_of before ++ (row_of r ∷ [])
mapped [] r = refl
mapped (q ∷ before) r = ap (λ (rows : List Row). row_of q ∷ rows) (mapped before r)

mapped_length : (records : List RowRecord) → length (map row_of records) ≡ length records
mapped_length [] = refl
mapped_length (r ∷ records) = let e = mapped_length records in omega arith

pub back_to_straight : (rest before : List RowRecord) (r : RowRecord) (s : Straight) (run : ℕ) → rest ≡ before ++ (r ∷ []) → row_of r ≡ row.Straight s
    → longer run (last_curve_lem (map row_of rest)) ≡ longer (told (run + s.length)) (last_curve_lem (map row_of before))
back_to_straight rest before r s run e f =
    let m : map row_of rest ≡ map row_of before ++ (row.Straight s ∷ []) = rw (e, mapped before r, f) in
    rw (m, latest_straight None 0 (map row_of before) s) (longer_longer run s.length (last_curve_lem (map row_of before)))

pub back_to_curve : (rest before : List RowRecord) (r : RowRecord) (c : Curve) (run : ℕ) → rest ≡ before ++ (r ∷ []) → row_of r ≡ row.Curve c → run < 2 ^ 64
    → longer run (last_curve_lem (map row_of rest)) ≡ Some (record { row = length before; curve = c; run = run })
back_to_curve rest before r c run e f low =
    let m : map row_of rest ≡ map row_of before ++ (row.Curve c ∷ []) = rw (e, mapped before r, f) in
    let n : 0 + length (map row_of before) ≡ length before = omega (arith, mapped_length before) in
    let t : told (0 + run) ≡ run = omega arith in
    rw (m, latest_curve_is None 0 (map row_of before) c, n, t)

-- ---- the first curve after

none_some : {X : Type 0} (x : X) → None ≡ Some x → ⊥
none_some x e = let z : ◌≡◌ {A = ℕ} 0 1 = cc in omega arith

Next : (run from : ℕ) → List Row → Neighbour → Type 0
Next run from rows n = (ss : List Straight) × BeginWith rows ss n.curve × (n.row ≡ from + length ss) × (n.run ≡ told (run + total ss))

next_is : (run from : ℕ) (rows : List Row) (n : Neighbour) → run < 2 ^ 64 → next_curve run from rows ≡ Some n → Next run from rows n
unfolding Next
next_is run from [] n low e = absurd (none_some n e)
next_is run from (row.Straight s ∷ rows) n low e =
    let (ss, (later, q), m, t) = next_is (told (run + s.length)) (from + 1) rows n (omega arith) e in
    (s ∷ ss, (later, ap (λ (ys : List Row). row.Straight s ∷ ys) q), m ∙ omega arith, t ∙ omega arith)
next_is run from (row.Curve c ∷ rows) n low e =
    let is : record { row = from; curve = c; run = run } ≡ n = cc in
    let Here : Neighbour → Type 0 = λ n. Next run from (row.Curve c ∷ rows) n in
    subst Here is ([], (rows, refl), omega arith, omega arith)

pub first_after : (from : ℕ) (rows : List Row) (n : Neighbour) → next_curve 0 from rows ≡ Some n → FirstAfter from rows n
unfolding Next
first_after from rows n e =
    let (ss, begins, m, t) = next_is 0 from rows n (omega arith) e in
    (ss, begins, m, t ∙ omega arith)

pub next_there : (run from : ℕ) (ss : List Straight) (d : Curve) (later : List Row) → next_curve run from (straights ss ++ row.Curve d ∷ later) ≡ None → ⊥
next_there run from [] d later e = none_some (record { row = from; curve = d; run = run }) (sym e)
next_there run from (s ∷ ss) d later e = next_there (told (run + s.length)) (from + 1) ss d later e

-- ---- the run

pub run_over : (run : ℕ) (ss : List Straight) (later : List Row) → run < 2 ^ 64 → NoStraightFirst later → run_on run (straights ss ++ later) ≡ told (run + total ss)
run_over run [] [] low h = omega arith
run_over run [] (row.Straight s ∷ later) low h = absurd h
run_over run [] (row.Curve c ∷ later) low h = omega arith
run_over run (s ∷ ss) later low h = run_over (told (run + s.length)) ss later (omega arith) h ∙ omega arith

pub run_is : (run : ℕ) (rows : List Row) → run < 2 ^ 64 → RunIs run rows (run_on run rows)
run_is run [] low = ([], ([], refl, tt), omega arith)
run_is run (row.Straight s ∷ rows) low =
    let (ss, (later, q, h), m) = run_is (told (run + s.length)) rows (omega arith) in
    (s ∷ ss, (later, ap (λ (ys : List Row). row.Straight s ∷ ys) q, h), m ∙ omega arith)
run_is run (row.Curve c ∷ rows) low = ([], (row.Curve c ∷ rows, refl, tt), omega arith)

-- ---- the last curve before

pub length_straights : (ss : List Straight) → length (straights ss) ≡ length ss
length_straights [] = refl
length_straights (s ∷ ss) = let e = length_straights ss in omega arith

latest_append : (found : Option Neighbour) (from : ℕ) (xs ys : List Row) → latest_curve found from (xs ++ ys) ≡ latest_curve (latest_curve found from xs) (from + length xs) ys
latest_append found from [] ys = let e : from ≡ from + 0 = omega arith in ap (λ (n : ℕ). latest_curve found n ys) e
latest_append found from (row.Straight s ∷ xs) ys =
    let e : from + 1 + length xs ≡ from + length (row.Straight s ∷ xs) = omega arith in
    latest_append (longer s.length found) (from + 1) xs ys ∙ ap (λ (n : ℕ). latest_curve (latest_curve (longer s.length found) (from + 1) xs) n ys) e
latest_append found from (row.Curve c ∷ xs) ys =
    let at : Option Neighbour = Some (record { row = from; curve = c; run = 0 }) in
    let e : from + 1 + length xs ≡ from + length (row.Curve c ∷ xs) = omega arith in
    latest_append at (from + 1) xs ys ∙ ap (λ (n : ℕ). latest_curve (latest_curve at (from + 1) xs) n ys) e

along : (at : ℕ) (c : Curve) (run from : ℕ) (ss : List Straight) → run < 2 ^ 64
    → latest_curve (Some (record { row = at; curve = c; run = run })) from (straights ss) ≡ Some (record { row = at; curve = c; run = told (run + total ss) })
along at c run from [] low =
    let e : run ≡ told (run + 0) = omega arith in ap (λ (n : ℕ). Some (record { row = at; curve = c; run = n })) e
along at c run from (s ∷ ss) low =
    let e : told (told (run + s.length) + total ss) ≡ told (run + (s.length + total ss)) = omega arith in
    along at c (told (run + s.length)) (from + 1) ss (omega arith) ∙ ap (λ (n : ℕ). Some (record { row = at; curve = c; run = n })) e

none_along : (from : ℕ) (ss : List Straight) → latest_curve None from (straights ss) ≡ None
none_along from [] = refl
none_along from (s ∷ ss) = none_along (from + 1) ss

-- The last curve is known, or there are straights alone.
Latest : Option Neighbour → (from : ℕ) → List Row → Type 0
Latest found from rows =
    ((n : Neighbour) × (ss : List Straight) × (latest_curve found from rows ≡ Some n) × EndWith rows n.curve ss × (n.row + 1 + length ss ≡ from + length rows) × (n.run ≡ told (total ss)))
    ⊎ ((ss : List Straight) × (rows ≡ straights ss))

latest : (found : Option Neighbour) (from : ℕ) (rows : List Row) → Latest found from rows
unfolding Latest
latest found from [] = inr ([], refl)
latest found from (row.Straight s ∷ rows) =
    elim (latest (longer s.length found) (from + 1) rows) [
      | inl (n, ss, e, (earlier, q), m, t) ↦ inl (n, ss, e, (row.Straight s ∷ earlier, ap (λ (ys : List Row). row.Straight s ∷ ys) q), m ∙ omega arith, t)
      | inr (ss, q) ↦ inr (s ∷ ss, ap (λ (ys : List Row). row.Straight s ∷ ys) q)
    ]
latest found from (row.Curve c ∷ rows) =
    let at : Option Neighbour = Some (record { row = from; curve = c; run = 0 }) in
    elim (latest at (from + 1) rows) [
      | inl (n, ss, e, (earlier, q), m, t) ↦ inl (n, ss, e, (row.Curve c ∷ earlier, ap (λ (ys : List Row). row.Curve c ∷ ys) q), m ∙ omega arith, t)
      | inr (ss, q) ↦
          let e : latest_curve at (from + 1) rows ≡ Some (record { row = from; curve = c; run = told (0 + total ss) }) =
          ap (latest_curve at (from + 1)) q ∙ along from c 0 (from + 1) ss (omega arith) in
          let long : length rows ≡ length ss = ap (λ (ys : List Row). length ys) q ∙ length_straights ss in
          let n : Neighbour = record { row = from; curve = c; run = told (0 + total ss) } in
          inl (n, ss, e, ([], ap (λ (ys : List Row). row.Curve c ∷ ys) q), omega arith, omega arith)
    ]

pub last_before : (rows : List Row) (n : Neighbour) → last_curve_lem rows ≡ Some n → LastBefore rows n
unfolding Latest
last_before rows n e =
    elim (latest None 0 rows) [
      | inl (m, ss, f, ends, r, t) ↦
          let is : m ≡ n = cc in
          let Here : Neighbour → Type 0 = λ n. LastBefore rows n in
          subst Here is (ss, ends, r ∙ omega arith, t)
      | inr (ss, q) ↦ absurd (none_some n (sym (none_along 0 ss) ∙ sym (ap last_curve_lem q) ∙ e))
    ]

pub last_there : (rows : List Row) (c : Curve) (ss : List Straight) → EndWith rows c ss
    → (at : ℕ) × (last_curve_lem rows ≡ Some (record { row = at; curve = c; run = told (0 + total ss) }))
last_there rows c ss (earlier, q) = (
  0 + length earlier,
  ap last_curve_lem q ∙ latest_append None 0 earlier (row.Curve c ∷ straights ss)
      ∙ along (0 + length earlier) c 0 (0 + length earlier + 1) ss (omega arith),
)

-- ---- the curve right before

-- straights have lengths, so a run of none has no straight
no_straight : (ss : List Straight) → told (total ss) ≡ 0 → ss ≡ []
no_straight [] e = refl
no_straight (s ∷ ss) e = let low = s.within.0 in absurd (let z : ⊥ = omega arith in z)

adjacent_is : (o : Option Neighbour) (n : Neighbour) → adjacent o ≡ Some n → (o ≡ Some n) × (n.run ≡ 0)
adjacent_is None n e = absurd (none_some n e)
adjacent_is (Some m) n e = by_run (eqb m.run 0) refl e
  where
    by_run : (b : Bool) → eqb m.run 0 ≡ b → cond b (Some m) None ≡ Some n → (Some m ≡ Some n) × (n.run ≡ 0)
    by_run true t f = let z = eqb-true m.run 0 t in let is : m ≡ n = cc in (f, sym (ap (λ (x : Neighbour). x.run) is) ∙ z)
    by_run false t f = absurd (none_some n f)

pub right_before : (rows : List Row) (n : Neighbour) → right_before_lem rows ≡ Some n → RightBefore rows n
right_before rows n e =
    let (last, zero_run) = adjacent_is (last_curve_lem rows) n e in
    let (ss, (earlier, q), m, t) = last_before rows n last in
    let none : ss ≡ [] = no_straight ss (sym t ∙ zero_run) in
    let short : length ss ≡ 0 = ap (λ (xs : List Straight). length xs) none in
    ((earlier, rw none at q), omega arith, zero_run)

pub right_there : (rows : List Row) (c : Curve) → EndWith rows c [] → right_before_lem rows ≡ None → ⊥
right_there rows c ends e =
    let (at, is) = last_there rows c [] ends in
    none_some (record { row = at; curve = c; run = told (0 + 0) }) (sym e ∙ ap adjacent is)
