-- Rows keep the six clothoid rules where their demands and lengths keep them along the walk, and only there.
use Rattle.std.proofs.Common.{◌≡◌, ℕ, ◌+◌, ◌-◌, ◌*◌, ◌/◌, ◌<◌, ◌≤◌, Bool, true, false, cond, T, List, [], ◌∷◌, ◌++◌, map, length, Some, None, Decides, Option, sym, refl, ap, ◌∙◌, subst, inl, inr, length-append, mul-pos, append_assoc, append-nil, lit≤, arith}
use Rattle.std.proofs.lemmas.Bool.{false≢true, cases_lt, cases_eq}
use Rattle.std.proofs.lemmas.List.{same_from_push}
use Rattle.road.specs.declared.road.Road.{Road}
use Rattle.limits.specs.declared.place.Place.{Place}
use Rattle.limits.specs.Admission.{In, UpToLongest}
use Rattle.limits.specs.Least.{Smallest, LeastOf}
use Rattle.rows.proofs.Leasts.{least_in_is}
use Rattle.rows.specs.declared.row.Curve.{Curve}
use Rattle.rows.specs.declared.row.Row.{Row}
use Rattle.rows.specs.declared.row.Row.TheVariants as row
use Rattle.rows.specs.declared.row.Straight.{Straight}
use Rattle.rows.specs.Curves.{place_of, Calling}
use Rattle.rows.specs.Leasts.{least_in}
use Rattle.findings.specs.declared.finding.Finding.{Finding}
use Rattle.findings.specs.declared.kind.Kind.{Kind}
use Rattle.findings.specs.declared.kind.Kind.TheVariants.{UnadmittedEntry, UnadmittedExit, LongEntry, LongExit, UncalledEntry, UncalledExit, Unequal, Disharmony, NoArc, ShortRun, LongRun}
use Rattle.findings.specs.Around.{EndWith}
use Rattle.findings.specs.Findings.{rule_number, rule_of, finding_of}
use Rattle.findings.specs.Rules.{Admission, BrokenByCurve, Broken}
use Rattle.findings.specs.Walk.{calls}
use Rattle.figures.specs.Lengths.{LeavesArc, longest_pair_lem}
use Rattle.findings.proofs.Clothoids.{decides_calls}
use Rattle.plain.specs.Lengths.{Keeps}
use Rattle.fitting.specs.declared.demand.Demand.TheVariants.{Free, Called}
use Rattle.fitting.specs.Demands.{bounds, demand, lengths}
use Rattle.fitting.proofs.Walk.{Within, Link, Harmony, RowKeeps, leaves, KeepsAfter}
use Rattle.fitting.proofs.Walk.Link.{apart, after as linked}

-- facts on numbers and tests that are not false hold
not_above : (a b : ℕ) → ((a ≤ b → ⊥) → ⊥) → a ≤ b
not_above a b h = elim (cases_lt b a) [ inl less ↦ absurd (h (λ le. omega (arith, less, le))) | inr le ↦ le ]

not_below : (a b : ℕ) → ((a < b → ⊥) → ⊥) → a < b
not_below a b h = elim (cases_lt a b) [ inl less ↦ less | inr le ↦ absurd (h (λ less. omega (arith, less, le))) ]

not_apart : (a b : ℕ) → ((a ≡ b → ⊥) → ⊥) → a ≡ b
not_apart a b h = elim (cases_eq a b) [ inl e ↦ e | inr n ↦ absurd (h n) ]

not_refused : (b : Bool) → ((T b → ⊥) → ⊥) → T b
not_refused true h = tt
not_refused false h = h (λ never. never)

-- rules 1 and 2, by the least length of the place
module _ (test : ℕ → Bool) where
  pub within_in : (o : Option ℕ) (l : ℕ) → UpToLongest test → LeastOf (In test) o → In test l → ((m : ℕ) × Smallest (In test) m × (2 * l ≤ 3 * m → ⊥) → ⊥)
      → Within o l
  within_in None l lawful least here short = least l here
  within_in (Some m) l lawful least here short =
      (least.least l here, lawful.capped l here, not_above (2 * l) (3 * m) (λ over. short (m, least, over)))

  pub within_admitted : (o : Option ℕ) (l : ℕ) → UpToLongest test → LeastOf (In test) o → Within o l → In test l
  within_admitted None l lawful least w = absurd w
  within_admitted (Some m) l lawful least w = lawful.longer m l least.admitted w.0 w.1

  pub within_short : (o : Option ℕ) (l : ℕ) → LeastOf (In test) o → Within o l → (m : ℕ) × Smallest (In test) m × (2 * l ≤ 3 * m → ⊥) → ⊥
  within_short None l least w over = w
  within_short (Some m) l least w (n, smallest, over) =
      over (omega (arith, w.2, smallest.least m least.admitted, least.least n smallest.admitted))

-- rule 4
symmetric_in : (b : Bool) → b ≡ true → T b
symmetric_in b e = subst T (sym e) tt

symmetric_out : (b : Bool) → T b → b ≡ true
symmetric_out true h = refl
symmetric_out false h = absurd h

-- rule 6, by the room that the curve has
room_in : (k n : ℕ) → 318_300 * n < k → n ≤ (k - 1) / 318_300
room_in k n h = omega arith

room_out : (k n : ℕ) → 0 < k → n ≤ (k - 1) / 318_300 → 318_300 * n < k
room_out k n h i = omega arith

pub arc_in : (c : Curve) → LeavesArc c → c.entry + c.exit ≤ longest_pair_lem c
arc_in c h = room_in (c.turn * c.radius) (c.entry + c.exit) h

pub arc_out : (c : Curve) → c.entry + c.exit ≤ longest_pair_lem c → LeavesArc c
arc_out c h =
    let turns : 0 < c.turn = omega (arith, c.within.1.0.0) in
    let bends : 0 < c.radius = omega (arith, c.within.0.0) in
    room_out (c.turn * c.radius) (c.entry + c.exit) (mul-pos turns bends) h

-- of lists that end alike the last rows are alike
last_curve : (xs ys : List Row) (b c : Curve) → xs ++ row.Curve b ∷ [] ≡ ys ++ row.Curve c ∷ [] → b ≡ c
last_curve xs ys b c e = let same = (same_from_push xs ys (row.Curve b) (row.Curve c) e).1 in cc

module _ (road : Road) (admission : Admission) where
  -- No rule up to 6 is broken at a row.
  abbrev pub Sound : List Row → Row → List Row → Type 0
  Sound before this after = (k : Kind) → rule_number (rule_of k) ≤ 6 → Broken road admission k before this after → ⊥

  pub keeps_sound : (rows : List Row) → Keeps road admission rows → (before : List Row) (this : Row) (after : List Row)
      → rows ≡ before ++ this ∷ after → Sound before this after
  keeps_sound rows keeps before this after reads k low broken =
      let high : 6 < rule_number (rule_of k) =
      keeps (finding_of (length before) k)
      (record { before = before; this = this; after = after; reads = reads; kind = k; is = refl; broken = broken }) in
      omega arith

  pub sound_keeps : (rows : List Row) → ((before : List Row) (this : Row) (after : List Row) → rows ≡ before ++ this ∷ after → Sound before this after)
      → Keeps road admission rows
  sound_keeps rows sound f found =
      let same : rule_number f.rule ≡ rule_number (rule_of found.kind) = ap (λ (g : Finding). rule_number g.rule) found.is in
      elim (cases_lt 6 (rule_number (rule_of found.kind))) [
        | inl high ↦ omega arith
        | inr low ↦ absurd (sound found.before found.this found.after found.reads found.kind low found.broken)
      ]

  -- The link says whether a calling curve stands just before, and its exit.
  abbrev pub Behind : Link → List Row → Type 0
  Behind apart before = (b : Curve) → EndWith before b [] → Calling road b → ⊥
  Behind (linked e) before = (b : Curve) × EndWith before b [] × Calling road b × (b.exit ≡ e)

  behind_none : Behind apart []
  behind_none b (earlier, e) calling = let n = ap length e in let m = length-append earlier (row.Curve b ∷ []) in omega arith

  behind_curve : (before : List Row) (c : Curve) (b : Bool) → Decides b (Calling road c)
      → Behind (leaves (cond b (Called (bounds road admission c)) Free) (lengths (row.Curve c))) (before ++ row.Curve c ∷ [])
  behind_curve before c true calling = (c, (before, refl), calling.0 refl, refl)
  behind_curve before c false calling =
      λ d (earlier, e) calls_d.
      let same : c ≡ d = last_curve before earlier c d e in
      false≢true (calling.1 (subst (λ (x : Curve). Calling road x) (sym same) calls_d))

  pub behind_next : (before : List Row) (r : Row) → Behind (leaves (demand road admission r) (lengths r)) (before ++ r ∷ [])
  behind_next before (row.Straight s) =
      λ b (earlier, e) calling. let same = (same_from_push before earlier (row.Straight s) (row.Curve b) e).1 in cc
  behind_next before (row.Curve c) = behind_curve before c (calls road c) (decides_calls road c)

  -- rule 5
  harmony_in : (p : Link) (before : List Row) (c : Curve) (after : List Row) → Calling road c → Behind p before
      → (BrokenByCurve road admission Disharmony before c after → ⊥) → Harmony p c.entry
  harmony_in apart before c after calling behind never = tt
  harmony_in (linked e) before c after calling (b, ends, calls_b, exit) never = (
    not_above (2 * c.entry) (3 * e) (λ over. never (calling, (b, ends, calls_b, λ h. over (omega (arith, h.0, exit))))),
    not_above (2 * e) (3 * c.entry) (λ over. never (calling, (b, ends, calls_b, λ h. over (omega (arith, h.1, exit))))),
  )

  harmony_out : (p : Link) (before : List Row) (c : Curve) (after : List Row) → Behind p before → Harmony p c.entry
      → BrokenByCurve road admission Disharmony before c after → ⊥
  harmony_out apart before c after behind harmony (calling, (b, ends, calls_b, never)) = behind b ends calls_b
  harmony_out (linked e) before c after (d, (earlier, x), calls_d, exit) harmony (calling, (b, (sooner, y), calls_b, never)) =
      let same : d ≡ b = last_curve earlier sooner d b (sym x ∙ y) in
      let exits : b.exit ≡ e = ap (λ (z : Curve). z.exit) (sym same) ∙ exit in
      never ((omega (arith, harmony.0, exits), omega (arith, harmony.1, exits)))

module _ (road : Road) (admission : Admission) (lawful : (place : Place) → UpToLongest (admission place)) where
  abbrev test_at : Curve → ℕ → Bool
  test_at c = admission (place_of road c)

  least_at : (c : Curve) → LeastOf (In (test_at c)) (least_in (test_at c))
  least_at c = least_in_is (test_at c) (lawful (place_of road c))

  curve_keeps : (p : Link) (before : List Row) (c : Curve) (after : List Row) (b : Bool) → Decides b (Calling road c) → Behind road admission p before
      → Sound road admission before (row.Curve c) after → RowKeeps p (cond b (Called (bounds road admission c)) Free) (lengths (row.Curve c))
  curve_keeps p before c after true calling behind sound =
      let here = calling.0 refl in (
        harmony_in road admission p before c after here behind (sound Disharmony (lit≤ tt)),
        record {
          at_entry =
              within_in (test_at c) (least_in (test_at c)) c.entry (lawful (place_of road c)) (least_at c)
              (not_refused _ (λ never. sound UnadmittedEntry (lit≤ tt) (here, never))) (λ long. sound LongEntry (lit≤ tt) (here, long));
          at_exit =
              within_in (test_at c) (least_in (test_at c)) c.exit (lawful (place_of road c)) (least_at c)
              (not_refused _ (λ never. sound UnadmittedExit (lit≤ tt) (here, never))) (λ long. sound LongExit (lit≤ tt) (here, long));
          even = λ t. not_apart c.entry c.exit (λ n. sound Unequal (lit≤ tt) (symmetric_out road.symmetric t, n));
          arc = arc_in c (not_below _ _ (sound NoArc (lit≤ tt)));
        },
      )
  curve_keeps p before c after false calling behind sound =
      let uncalled : Calling road c → ⊥ = λ here. false≢true (calling.1 here) in
      (not_apart c.entry 0 (λ n. sound UncalledEntry (lit≤ tt) (uncalled, n)), not_apart c.exit 0 (λ n. sound UncalledExit (lit≤ tt) (uncalled, n)))

  row_keeps : (p : Link) (before : List Row) (this : Row) (after : List Row) → Behind road admission p before → Sound road admission before this after
      → RowKeeps p (demand road admission this) (lengths this)
  row_keeps p before (row.Straight s) after behind sound = (refl, refl)
  row_keeps p before (row.Curve c) after behind sound = curve_keeps p before c after (calls road c) (decides_calls road c) behind sound

  called_sound : (p : Link) (before : List Row) (c : Curve) (after : List Row) → Calling road c → Behind road admission p before
      → RowKeeps p (Called (bounds road admission c)) (lengths (row.Curve c)) → Sound road admission before (row.Curve c) after
  called_sound p before c after here behind keeps UnadmittedEntry low (_, never) =
      never (within_admitted (test_at c) (least_in (test_at c)) c.entry (lawful (place_of road c)) (least_at c) keeps.1.at_entry)
  called_sound p before c after here behind keeps UnadmittedExit low (_, never) =
      never (within_admitted (test_at c) (least_in (test_at c)) c.exit (lawful (place_of road c)) (least_at c) keeps.1.at_exit)
  called_sound p before c after here behind keeps LongEntry low (_, long) =
      within_short (test_at c) (least_in (test_at c)) c.entry (least_at c) keeps.1.at_entry long
  called_sound p before c after here behind keeps LongExit low (_, long) =
      within_short (test_at c) (least_in (test_at c)) c.exit (least_at c) keeps.1.at_exit long
  called_sound p before c after here behind keeps UncalledEntry low (uncalled, _) = uncalled here
  called_sound p before c after here behind keeps UncalledExit low (uncalled, _) = uncalled here
  called_sound p before c after here behind keeps Unequal low (even, n) = n (keeps.1.even (symmetric_in road.symmetric even))
  called_sound p before c after here behind keeps Disharmony low broken = harmony_out road admission p before c after behind keeps.0 broken
  called_sound p before c after here behind keeps NoArc low never = never (arc_out c keeps.1.arc)
  called_sound p before c after here behind keeps _ low broken = omega (arith, low)

  free_sound : (before : List Row) (c : Curve) (after : List Row) → (Calling road c → ⊥) → (c.entry ≡ 0) × (c.exit ≡ 0)
      → Sound road admission before (row.Curve c) after
  free_sound before c after uncalled keeps UnadmittedEntry low (here, _) = uncalled here
  free_sound before c after uncalled keeps UnadmittedExit low (here, _) = uncalled here
  free_sound before c after uncalled keeps LongEntry low (here, _) = uncalled here
  free_sound before c after uncalled keeps LongExit low (here, _) = uncalled here
  free_sound before c after uncalled keeps UncalledEntry low (_, n) = n keeps.0
  free_sound before c after uncalled keeps UncalledExit low (_, n) = n keeps.1
  free_sound before c after uncalled keeps Unequal low (_, n) = n (keeps.0 ∙ sym keeps.1)
  free_sound before c after uncalled keeps Disharmony low (here, _) = uncalled here
  free_sound before c after uncalled keeps NoArc low never = never (arc_out c (omega (arith, keeps.0, keeps.1)))
  free_sound before c after uncalled keeps _ low broken = omega (arith, low)

  curve_sound : (p : Link) (before : List Row) (c : Curve) (after : List Row) (b : Bool) → Decides b (Calling road c) → Behind road admission p before
      → RowKeeps p (cond b (Called (bounds road admission c)) Free) (lengths (row.Curve c)) → Sound road admission before (row.Curve c) after
  curve_sound p before c after true calling behind keeps = called_sound p before c after (calling.0 refl) behind keeps
  curve_sound p before c after false calling behind keeps = free_sound before c after (λ here. false≢true (calling.1 here)) keeps

  straight_sound : (before : List Row) (s : Straight) (after : List Row) → Sound road admission before (row.Straight s) after
  straight_sound before s after ShortRun low broken = omega (arith, low)
  straight_sound before s after LongRun low broken = omega (arith, low)
  straight_sound before s after _ low broken = broken

  row_sound : (p : Link) (before : List Row) (this : Row) (after : List Row) → Behind road admission p before
      → RowKeeps p (demand road admission this) (lengths this) → Sound road admission before this after
  row_sound p before (row.Straight s) after behind keeps = straight_sound before s after
  row_sound p before (row.Curve c) after behind keeps = curve_sound p before c after (calls road c) (decides_calls road c) behind keeps

  -- from row to row, with the rows that lie before
  walk_from : (p : Link) (before rows : List Row) → Behind road admission p before
      → ((b : List Row) (this : Row) (a : List Row) → before ++ rows ≡ b ++ this ∷ a → Sound road admission b this a)
      → KeepsAfter p (map (demand road admission) rows) (map lengths rows)
  walk_from p before [] behind sound = tt
  walk_from p before (r ∷ rows) behind sound = (
    row_keeps p before r rows behind (sound before r rows refl),
    walk_from (leaves (demand road admission r) (lengths r)) (before ++ r ∷ []) rows (behind_next road admission before r)
        (λ b this a e. sound b this a (sym (append_assoc before (r ∷ []) rows) ∙ e)),
  )

  sound_at : (p : Link) (start before : List Row) (this : Row) (after : List Row) → Behind road admission p start
      → KeepsAfter p (map (demand road admission) (before ++ this ∷ after)) (map lengths (before ++ this ∷ after))
      → Sound road admission (start ++ before) this after
  sound_at p start [] this after behind keeps =
      subst (λ (xs : List Row). Sound road admission xs this after) (sym (append-nil start)) (row_sound p start this after behind keeps.0)
  sound_at p start (b ∷ before) this after behind keeps =
      subst (λ (xs : List Row). Sound road admission xs this after) (append_assoc start (b ∷ []) before)
      (sound_at (leaves (demand road admission b) (lengths b)) (start ++ b ∷ []) before this after (behind_next road admission start b) keeps.1)

  pub keeps_walk : (rows : List Row) → Keeps road admission rows → KeepsAfter apart (map (demand road admission) rows) (map lengths rows)
  keeps_walk rows keeps = walk_from apart [] rows (behind_none road admission) (keeps_sound road admission rows keeps)

  pub walk_keeps : (rows : List Row) → KeepsAfter apart (map (demand road admission) rows) (map lengths rows) → Keeps road admission rows
  walk_keeps rows walk =
      sound_keeps road admission rows
      (λ before this after reads.
      sound_at apart [] before this after (behind_none road admission)
      (subst (λ (xs : List Row). KeepsAfter apart (map (demand road admission) xs) (map lengths xs)) reads walk))
