-- The passes over records, which hold the lengths of their rows.
use Rattle.std.proofs.Common.{◌≡◌, ℕ, zero, suc, ◌+◌, ◌<◌, ◌≤◌, max, Bool, true, false, nat_lt, cond, List, [], ◌∷◌, ◌++◌, length, map, take, drop, get_or, slice_index, set, inl, inr, Some, None, Option, Bor, refl, sym, ap, ◌∙◌, arith}
use Rattle.std.proofs.lemmas.Bool.{cases_lt, cond_both, ltb-true}
use Rattle.std.proofs.lemmas.List.{map-set, length-map, length-set, get_or-map, get_or-set_other}
use Rattle.std.proofs.lemmas.Grind.{get_or-set_at, get_or_default_zero}
use Rattle.std.specs.Option.{is_some, option_copied, IfSome}
use Rattle.std.proofs.Math.Seq.{map-set_same}
use Rattle.road.specs.declared.road.Road.{Road}
use Rattle.rows.specs.declared.record.RowRecord.{RowRecord}
use Rattle.rows.specs.declared.row.Curve.{Curve}
use Rattle.rows.specs.declared.row.Row.{Row}
use Rattle.rows.specs.declared.row.Row.TheVariants as row
use Rattle.rows.specs.Curves.{place_of}
use Rattle.rows.specs.Leasts.{first_in, least_in}
use Rattle.rows.specs.Records.{row_of}
use Rattle.findings.specs.Rules.{Admission}
use Rattle.findings.specs.Walk.{calls}
use Rattle.fitting.specs.declared.demand.Demand.{Demand}
use Rattle.fitting.specs.declared.demand.Demand.TheVariants.{Free, Called}
use Rattle.fitting.specs.declared.demand.Lengths.{Lengths}
use Rattle.fitting.specs.Demands.{bounds, demand, lengths}
use Rattle.figures.specs.Lengths.{least_beside_lem}
use Rattle.fitting.specs.Passes.{low_lem, first, asks, least_asked, Kept, raised, step, decide, started, body_by, body, only_of, demands, all_lengths}
use Rattle.plain.specs.Lengths.{AlikeRow, Alike}
use Rattle.fitting.proofs.SubjectRows.{alike_demands}
use Rattle.fitting.proofs.Lower.{beside_le}
use Rattle.fitting.specs.declared.reach.Reach.{Reach}
use Rattle.fitting.specs.declared.reach.Reach.TheVariants as reach
use Rattle.fitting.proofs.Loops.{decide_stops, decide_goes, started_more, started_all, Pushed, pushed_more}

-- a least length is at most the longest
first_in_within : (test : ℕ → Bool) (from many top : ℕ) → from + many ≤ top + 1 → 1 ≤ top → low_lem (first_in test from many) ≤ top
first_in_within test from zero top h k = k
first_in_within test from (suc many) top h k =
    cond_both (test from) (Some from) (first_in test (from + 1) many) (λ o. low_lem o ≤ top) (λ _. omega arith)
    (λ _. first_in_within test (from + 1) many top (omega arith) k)

least_within : (test : ℕ → Bool) → low_lem (least_in test) ≤ 2_000_000
unfolding least_in
least_within test = first_in_within test 0 2_000_001 2_000_000 (omega arith) (omega arith)

abbrev pub Short : Lengths → Type 0
Short l = (l.entry ≤ 2_000_000) × (l.exit ≤ 2_000_000)

either_within : (b : Bool) (x y : ℕ) → x ≤ 2_000_000 → y ≤ 2_000_000 → cond b x y ≤ 2_000_000
either_within true x y p q = p
either_within false x y p q = q

pub beside_short : (x : ℕ) → x ≤ 2_000_000 → least_beside_lem x ≤ 2_000_000
beside_short x h = omega (arith, beside_le x)

-- a row that asks no clothoids asks nothing of the next entry either
asks_first : (a : ℕ) (d : Demand) → least_beside_lem (first a d).exit ≡ asks d (first a d)
asks_first a Free = refl
asks_first a (Called b) = refl

-- what is kept, one row more
pub kept_more : (row least : ℕ) (ds : List Demand) (leasts now : List ℕ) → now ≡ set leasts row least → least ≡ least_asked (get_or ds row Free)
    → ((i : ℕ) → i < row → i < length leasts → slice_index leasts i ≡ least_asked (get_or ds i Free)) → (i : ℕ) → i < row + 1 → i < length now
    → slice_index now i ≡ least_asked (get_or ds i Free)
kept_more row least ds leasts now written is before i h within =
    let long : length now ≡ length leasts = ap length written ∙ length-set leasts row least in
    ap (λ (ms : List ℕ). slice_index ms i) written ∙ elim (cases_lt i row) [
      | inl less ↦ get_or-set_other leasts row i least 0 (λ e. absurd (omega (arith, e, less))) ∙ before i less (omega (arith, long, within))
      | inr more ↦
          let same : i ≡ row = omega arith in
          get_or-set_at leasts row i least 0 same (omega (arith, long, within, same)) ∙ is ∙ ap (λ (k : ℕ). least_asked (get_or ds k Free)) (sym same)
    ]

-- a slot that is found is one of the list
slot_at : (i least : ℕ) (leasts : List ℕ) (slot : Option (Bor ℕ)) → is_some slot ≡ nat_lt i (length leasts)
    → IfSome slot (λ m. m.now ≡ get_or leasts i m.now) → option_copied slot ≡ Some least → (i < length leasts) × (least ≡ slice_index leasts i)
slot_at i least leasts None there value is = cc
slot_at i least leasts (Some m) there value is =
    let within : i < length leasts = ltb-true i (length leasts) (sym there) in
    let same : m.now ≡ least = cc in
    (within, sym same ∙ value ∙ get_or_default_zero leasts i m.now within)

lengths_count : (xs : List RowRecord) → length (all_lengths xs) ≡ length xs
lengths_count xs = length-map (map row_of xs) lengths ∙ length-map xs row_of

lengths_set : (xs : List RowRecord) (i : ℕ) (y : RowRecord) → all_lengths (set xs i y) ≡ set (all_lengths xs) i (lengths (row_of y))
lengths_set xs i y = ap (map lengths) (map-set row_of xs i y) ∙ map-set lengths (map row_of xs) i (row_of y)

lengths_at : (i : ℕ) (x d : RowRecord) (xs : List RowRecord) (l : Lengths) → i < length xs → x ≡ get_or xs i d → get_or (all_lengths xs) i l ≡ lengths (row_of x)
lengths_at i x d xs l h is =
    let n = length-map xs row_of in
    let q = get_or-map lengths (map row_of xs) i (row_of d) l (omega arith) in
    let r = get_or-map row_of xs i d (row_of d) h in
    cc

-- a record that is written over is the same but for its lengths
pub same_more : (i : ℕ) (x y d : RowRecord) (xs ys : List RowRecord) → x ≡ get_or xs i d → body y ≡ body x → map body xs ≡ map body ys
    → map body (set xs i y) ≡ map body ys
same_more i x y d xs ys is b s = map-set_same body xs i y d (b ∙ ap body is) ∙ s

-- records of the same bodies have alike rows
alike_row : (x y : RowRecord) (p q : Row) → p ≡ row_of x → q ≡ row_of y → body_by x p ≡ body_by y q → AlikeRow q p
alike_row x y (row.Straight s) (row.Straight t) u v e =
    let same : x ≡ y = cc in
    let both : s ≡ t = cc in
    ap (λ z. z.length) both
alike_row x y (row.Straight s) (row.Curve d) u v e = cc
alike_row x y (row.Curve c) (row.Straight t) u v e = cc
alike_row x y (row.Curve c) (row.Curve d) u v e =
    let s : c.sense ≡ d.sense = cc in
    let r : c.radius ≡ d.radius = cc in
    let t : c.turn ≡ d.turn = cc in
    (s, r, t)

pub alike_bodies : (xs ys : List RowRecord) → map body xs ≡ map body ys → Alike (map row_of ys) (map row_of xs)
alike_bodies [] [] e = tt
alike_bodies [] (y ∷ ys) e = cc
alike_bodies (x ∷ xs) [] e = cc
alike_bodies (x ∷ xs) (y ∷ ys) e =
    let h : body x ≡ body y = cc in
    let t : map body xs ≡ map body ys = cc in
    (alike_row x y (row_of x) (row_of y) refl refl h, alike_bodies xs ys t)

module _ (road : Road) (admission : Admission) where
  pub demands_same : (xs ys : List RowRecord) → map body xs ≡ map body ys → demands road admission xs ≡ demands road admission ys
  demands_same xs ys e = alike_demands road admission (map row_of ys) (map row_of xs) (alike_bodies xs ys e)

  demands_count : (xs ys : List RowRecord) → map body xs ≡ map body ys → length (demands road admission ys) ≡ length xs
  demands_count xs ys s =
      sym (ap length (demands_same xs ys s)) ∙ length-map (map row_of xs) (demand road admission) ∙ length-map xs row_of

  -- what the row of a record asks, where the bodies are as they were
  demand_at : (i : ℕ) (x d : RowRecord) (xs ys : List RowRecord) → i < length xs → x ≡ get_or xs i d → map body xs ≡ map body ys
      → get_or (demands road admission ys) i Free ≡ demand road admission (row_of x)
  demand_at i x d xs ys h is s =
      let n = length-map xs row_of in
      let p = demands_same xs ys s in
      let q = get_or-map (demand road admission) (map row_of xs) i (row_of d) Free (omega arith) in
      let r = get_or-map row_of xs i d (row_of d) h in
      cc

  -- the least length of a record's row, where it was kept
  pub kept_at : (i least : ℕ) (slot : Option (Bor ℕ)) (found : Option ℕ) (r : Row) (x d : RowRecord) (xs ys : List RowRecord) (leasts : List ℕ)
      → i < length xs → x ≡ get_or xs i d → r ≡ row_of x → map body xs ≡ map body ys → Kept (demands road admission ys) leasts
      → is_some slot ≡ nat_lt i (length leasts) → IfSome slot (λ m. m.now ≡ get_or leasts i m.now) → found ≡ option_copied slot → found ≡ Some least
      → least ≡ least_asked (demand road admission r)
  kept_at i least slot found r x d xs ys leasts h is read s kept there value copied some =
      let count = demands_count xs ys s in
      let got = slot_at i least leasts slot there value (sym copied ∙ some) in
      got.1 ∙ kept i (omega arith) got.0 ∙ ap least_asked (demand_at i x d xs ys h is s ∙ ap (demand road admission) (sym read))

  -- deciding, at one record
  module _ (i : ℕ) (s : Reach) (r : Row) (q : Demand) (o : Option Reach) (x d : RowRecord) (xs : List RowRecord) (within : i < length xs) (at : x ≡ get_or xs i d)
      (read : r ≡ row_of x) (asked : q ≡ demand road admission r) (stepped : o ≡ step s q)
      (left : decide i s (drop i (demands road admission xs)) ≡ decide 0 reach.Free (demands road admission xs)) where
    here : step s (get_or (demands road admission xs) i Free) ≡ o
    here = ap (step s) (demand_at i x d xs xs within at refl ∙ ap (demand road admission) (sym read) ∙ sym asked) ∙ sym stepped

    inside : i < length (demands road admission xs)
    inside = let count = demands_count xs xs refl in omega arith

    pub least_here : (least : ℕ) → least ≡ least_asked q → least ≡ least_asked (get_or (demands road admission xs) i Free)
    least_here least is = is ∙ ap least_asked (asked ∙ ap (demand road admission) read ∙ sym (demand_at i x d xs xs within at refl))

    pub decide_none : o ≡ None → Some i ≡ decide 0 reach.Free (demands road admission xs)
    decide_none is = sym (decide_stops i s (demands road admission xs) Free inside (here ∙ is)) ∙ left

    pub decide_more : (t : Reach) → o ≡ Some t
        → decide (i + 1) t (drop (i + 1) (demands road admission xs)) ≡ decide 0 reach.Free (demands road admission xs)
    decide_more t is = sym (decide_goes i s t (demands road admission xs) Free inside (here ∙ is)) ∙ left

  -- what is written is what is read
  only_first : (a : ℕ) (r : Row) → only_of r (first a (demand road admission r)) ≡ first a (demand road admission r)
  only_first a (row.Straight s) = refl
  only_first a (row.Curve c) = refl

  only_raised : (a : ℕ) (r : Row) → only_of r (raised a (demand road admission r) (lengths r)) ≡ raised a (demand road admission r) (lengths r)
  only_raised a (row.Straight s) = refl
  only_raised a (row.Curve c) = refl

  -- every length that is written is at most the longest
  first_by : (t : Bool) (a : ℕ) (c : Curve) → a ≤ 2_000_000 → Short (first a (cond t (Called (bounds road admission c)) Free))
  first_by true a c h =
      let l = least_within (admission (place_of road c)) in
      let e : max a (low_lem (least_in (admission (place_of road c)))) ≤ 2_000_000 = omega arith in
      (e, either_within road.symmetric _ _ (omega arith) l)
  first_by false a c h = (omega arith, omega arith)

  first_short : (a : ℕ) (r : Row) → a ≤ 2_000_000 → Short (first a (demand road admission r))
  first_short a (row.Straight s) h = (omega arith, omega arith)
  first_short a (row.Curve c) h = first_by (calls road c) a c h

  pub started_short : (a : ℕ) (r : Row) (d : Demand) (l : Lengths) → d ≡ demand road admission r → l ≡ first a d → a ≤ 2_000_000 → Short l
  started_short a r d l e f h = rw (f, e) (first_short a r h)

  raised_by : (t : Bool) (a : ℕ) (c : Curve) → a ≤ 2_000_000 → Short (raised a (cond t (Called (bounds road admission c)) Free) (lengths (row.Curve c)))
  raised_by true a c h =
      let e : max a c.exit ≤ 2_000_000 = omega (arith, c.within.1.1.1) in
      (either_within road.symmetric _ _ e c.within.1.1.0, e)
  raised_by false a c h = c.within.1.1

  raised_row : (a : ℕ) (r : Row) → a ≤ 2_000_000 → Short (raised a (demand road admission r) (lengths r))
  raised_row a (row.Straight s) h = (omega arith, omega arith)
  raised_row a (row.Curve c) h = raised_by (calls road c) a c h

  pub raised_short : (a : ℕ) (r : Row) (l : Lengths) → l ≡ raised a (demand road admission r) (lengths r) → a ≤ 2_000_000 → Short l
  raised_short a r l e h = rw e (raised_row a r h)

  -- what a row asks of the next entry
  pub asks_is : (a a' : ℕ) (r : Row) (l : Lengths) → l ≡ first a (demand road admission r) → a' ≡ least_beside_lem l.exit → a' ≡ asks (demand road admission r) l
  asks_is a a' r l e f = f ∙ ap (λ m. least_beside_lem m.exit) e ∙ asks_first a (demand road admission r) ∙ ap (asks (demand road admission r)) (sym e)

  -- forward, one record more
  pub start_more : (i a a' : ℕ) (l : Lengths) (r : Row) (q : Demand) (x y d : RowRecord) (xs ys : List RowRecord) (all : List Lengths) → i < length xs
      → x ≡ get_or xs i d → r ≡ row_of x → q ≡ demand road admission r → l ≡ first a q → a' ≡ asks q l → lengths (row_of y) ≡ only_of (row_of x) l
      → map body xs ≡ map body ys → take i (all_lengths xs) ++ started a (drop i (demands road admission ys)) ≡ all
      → take (i + 1) (all_lengths (set xs i y)) ++ started a' (drop (i + 1) (demands road admission ys)) ≡ all
  start_more i a a' l r q x y d xs ys all h is u v e f w s g =
      let asked : q ≡ demand road admission (row_of x) = v ∙ ap (demand road admission) u in
      let l_is : l ≡ first a (demand road admission (row_of x)) = e ∙ ap (first a) asked in
      let written : lengths (row_of y) ≡ l = w ∙ ap (only_of (row_of x)) l_is ∙ only_first a (row_of x) ∙ sym l_is in
      let set_is : all_lengths (set xs i y) ≡ set (all_lengths xs) i l = lengths_set xs i y ∙ ap (set (all_lengths xs) i) written in
      let at : q ≡ get_or (demands road admission ys) i Free = asked ∙ sym (demand_at i x d xs ys h is s) in
      let count = lengths_count xs in
      let count' = demands_count xs ys s in
      rw set_is
      (started_more i a a' l (demands road admission ys) (all_lengths xs) all Free (omega arith) (omega arith) (e ∙ ap (first a) at)
      (f ∙ ap (λ t. asks t l) at) g)

  -- forward, at the end
  pub started_end : (i a : ℕ) (xs ys : List RowRecord) (all : List Lengths) → length xs ≤ i → map body xs ≡ map body ys
      → take i (all_lengths xs) ++ started a (drop i (demands road admission ys)) ≡ all → all_lengths xs ≡ all
  started_end i a xs ys all h s g =
      let count = lengths_count xs in
      let count' = demands_count xs ys s in
      started_all i a (demands road admission ys) (all_lengths xs) all (omega arith) (omega arith) g

  -- backward, one record more
  pub push_more : (i j a a' : ℕ) (l : Lengths) (r : Row) (x y d : RowRecord) (xs ys : List RowRecord) → i ≡ j + 1 → j < length xs → x ≡ get_or xs j d
      → r ≡ row_of x → l ≡ raised a (demand road admission r) (lengths r) → a' ≡ least_beside_lem l.entry → lengths (row_of y) ≡ only_of (row_of x) l
      → map body xs ≡ map body ys → Pushed (demands road admission ys) (all_lengths ys) (all_lengths xs) i a
      → Pushed (demands road admission ys) (all_lengths ys) (all_lengths (set xs j y)) j a'
  push_more i j a a' l r x y d xs ys z h is u e f w s g =
      let l_is : l ≡ raised a (demand road admission (row_of x)) (lengths (row_of x)) = e ∙ ap (λ r. raised a (demand road admission r) (lengths r)) u in
      let written : lengths (row_of y) ≡ l = w ∙ ap (only_of (row_of x)) l_is ∙ only_raised a (row_of x) ∙ sym l_is in
      let set_is : all_lengths (set xs j y) ≡ set (all_lengths xs) j l = lengths_set xs j y ∙ ap (set (all_lengths xs) j) written in
      let at : get_or (demands road admission ys) j Free ≡ demand road admission (row_of x) = demand_at j x d xs ys h is s in
      let here : get_or (all_lengths xs) j l ≡ lengths (row_of x) = lengths_at j x d xs l h is in
      let n : length xs ≡ length ys = sym (length-map xs body) ∙ ap length s ∙ length-map ys body in
      let count = lengths_count xs in
      let count' = lengths_count ys in
      let count″ = demands_count ys ys refl in
      rw set_is
      (pushed_more i j a a' l (demands road admission ys) (all_lengths ys) (all_lengths xs) Free l z (omega arith) (omega arith) (omega arith)
      (l_is ∙ ap (λ t. raised a t (lengths (row_of x))) (sym at) ∙ ap (raised a (get_or (demands road admission ys) j Free)) (sym here)) f g)
