-- How a call's way out keeps to the relation: one lemma for a refusal, one for a call carried out, one for a call that only looks.
use Rattle.std.proofs.Common.{◌≡◌, ℕ, ◌+◌, ◌-◌, ◌<◌, ◌≤◌, min, List, [], ◌∷◌, ◌++◌, length, Ok, Err, get_or, take, set, sym, refl, ap, ◌∙◌, inl, inr, arith, length-set}
use Rattle.std.proofs.lemmas.List.{length-take-le, length-map, get_or-map, get_or-take, get_or_default}
use Rattle.road.specs.declared.road.Road.{Road}
use Rattle.road.specs.declared.refusal.Refusal.{Refusal}
use Rattle.road.specs.Refusals.{Ground, ground, FirstApplying, Clear, Refused, number_of}
use Rattle.roll.specs.Contents.{with_inserted, with_removed}
use Rattle.rows.specs.declared.record.RowRecord.{RowRecord}
use Rattle.rows.specs.declared.record.RowRecord.TheVariants as stored
use Rattle.rows.specs.declared.row.Curve.{Curve}
use Rattle.rows.specs.declared.row.Straight.{Straight}
use Rattle.rows.specs.declared.row.Row.{Row}
use Rattle.rows.specs.declared.row.Row.TheVariants as row
use Rattle.rows.specs.Records.{row_of, rows_of, record_of, blank_record}
use Rattle.plain.specs.declared.NewRow.{NewRow}
use Rattle.plain.specs.declared.NewRow.TheVariants as new
use Rattle.plain.specs.Sheet.{draft, RowAt, StraightAt, with_rows, Given, WithLengths, add, take_out, set_lengths, Call, named, Answer, done, refused, Allowed, grounds, number_grounds, Effect, refusing, carrying}
use Rattle.plain.specs.Given.{given_record}
use Rattle.sheet.specs.States.{State, shown, refusal, MemoryAfter, Performs, Numbered, NoRoom, RecordAt}
use Rattle.sheet.proofs.RowEdits.{rows_inserted, rows_removed, rows_set, length_inserted_within, length_removed_within}

-- a draft's state
abbrev pub draft_of : Road → ℕ → List RowRecord → State
draft_of road count memory = record { mark = draft; road = road; count = count; memory = memory }

-- a refusal that applies, with nothing changed
pub halted : (s : State) (c : Call) (number : ℕ) → Allowed s.mark c → FirstApplying (grounds (length s.memory) s.count (shown s) c) number → Performs s c (refused number (named c)) s
halted s c number allowed why =
    record { step = refusing allowed number why refl refl; unchanged = λ _. refl; memory = λ never. absurd (never tt); whole = λ h. h; short = λ _. refl; long = refl }

-- a call that no refusal stops, and that answers `done`
pub carried : (s : State) (c : Call) (s' : State) → Allowed s.mark c → Clear (grounds (length s.memory) s.count (shown s) c) → Effect (shown s) c done (shown s') → MemoryAfter c s.count s.memory s'.memory → s.count ≤ length s.memory → s'.count ≤ length s.memory → length s'.memory ≡ length s.memory → Performs s c done s'
carried s c s' allowed clear effect memory fits whole long =
    record {
      step = carrying allowed clear effect;
      unchanged = λ never. absurd never;
      memory = λ _. memory;
      whole = λ _. omega arith;
      short = λ few. absurd (omega arith);
      long = long;
    }

-- a call that looks and changes nothing
pub looked : (s : State) (c : Call) (a : Answer) → Allowed s.mark c → Clear (grounds (length s.memory) s.count (shown s) c) → Effect (shown s) c a (shown s) → MemoryAfter c s.count s.memory s.memory → Performs s c a s
looked s c a allowed clear effect memory =
    record { step = carrying allowed clear effect; unchanged = λ _. refl; memory = λ _. memory; whole = λ h. h; short = λ _. refl; long = refl }

-- a ground of the numbers of a row is the first of all grounds of adding it
pub numbers_first : (given : NewRow) (others : List Ground) (number : ℕ) → FirstApplying (number_grounds given []) number → FirstApplying (number_grounds given others) number
numbers_first (new.Straight l) others number (inl first) = inl first
numbers_first (new.Straight l) others number (inr (_, never)) = absurd never
numbers_first (new.Curve sense radius turn) others number (inl first) = inl first
numbers_first (new.Curve sense radius turn) others number (inr (clear, inl second)) = inr (clear, inl second)
numbers_first (new.Curve sense radius turn) others number (inr (_, inr (_, never))) = absurd never

-- numbers in their ranges leave the other grounds
pub numbers_clear : (given : NewRow) (others : List Ground) (number : ℕ) → Clear (number_grounds given []) → FirstApplying others number → FirstApplying (number_grounds given others) number
numbers_clear (new.Straight l) others number (clear, _) later = inr (clear, later)
numbers_clear (new.Curve sense radius turn) others number (clear, (clear', _)) later = inr (clear, inr (clear', later))

pub all_clear : (given : NewRow) (others : List Ground) → Clear (number_grounds given []) → Clear others → Clear (number_grounds given others)
all_clear (new.Straight l) others (clear, _) rest = (clear, rest)
all_clear (new.Curve sense radius turn) others (clear, (clear', _)) rest = (clear, (clear', rest))

-- the numbers of the row are refused
pub numbers_refused : (s : State) (position : ℕ) (given : NewRow) (e : Refusal) → Allowed s.mark (add position given) → Refused (number_grounds given []) position e → Performs s (add position given) (refusal e) s
numbers_refused s position given e allowed why =
    rw why.names (halted s (add position given) (number_of e) allowed (numbers_first given _ (number_of e) why.smallest))

-- there is no room for the row
pub room_refused : (s : State) (position : ℕ) (given : NewRow) (e : Refusal) → Allowed s.mark (add position given) → Clear (number_grounds given []) → NoRoom (length s.memory) s.count position e → Performs s (add position given) (refusal e) s
room_refused s position given e allowed clear why =
    rw why.names (halted s (add position given) (number_of e) allowed (numbers_clear given _ (number_of e) clear why.smallest))

-- the record that the added row is kept by
pub given_record_is : (given : NewRow) (r : Row) → Given given r → record_of r ≡ given_record given
given_record_is (new.Straight l) (row.Straight s) is = cc
given_record_is (new.Straight l) (row.Curve c) is = absurd is
given_record_is (new.Curve sense radius turn) (row.Straight s) is = absurd is
given_record_is (new.Curve sense radius turn) (row.Curve c) is = cc

-- and the row of that record is the one to be added, with numbers in their ranges
given_of : (given : NewRow) (r : Row) → record_of r ≡ given_record given → Given given r
given_of (new.Straight l) (row.Straight s) is = cc
given_of (new.Straight l) (row.Curve c) is = absurd (cc)
given_of (new.Curve sense radius turn) (row.Straight s) is = absurd (cc)
given_of (new.Curve sense radius turn) (row.Curve c) is = (cc, cc, cc, cc, cc)

numbers_within : (given : NewRow) (r : Row) → Given given r → Clear (number_grounds given [])
numbers_within (new.Straight l) (row.Straight s) is =
    (λ outside. elim outside [ inl low ↦ omega (arith, is, s.within.0) | inr high ↦ omega (arith, is, s.within.1) ], tt)
numbers_within (new.Straight l) (row.Curve c) is = absurd is
numbers_within (new.Curve sense radius turn) (row.Straight s) is = absurd is
numbers_within (new.Curve sense radius turn) (row.Curve c) (same, radius_is, turn_is, _, _) = (
  λ outside. elim outside [ inl low ↦ omega (arith, radius_is, c.within.0.0) | inr high ↦ omega (arith, radius_is, c.within.0.1) ],
  (λ outside. elim outside [ inl low ↦ omega (arith, turn_is, c.within.1.0.0) | inr high ↦ omega (arith, turn_is, c.within.1.0.1) ], tt),
)

pub numbered : (position : ℕ) (given : NewRow) (r : Row) (value : RowRecord) → record_of r ≡ value → value ≡ given_record given → Numbered position given (Ok value)
numbered position given r value of kept =
    let is = given_of given r (of ∙ kept) in
    (numbers_within given r is, (r, is, sym of))

-- the first of some grounds is the first of more
pub more_grounds : (grounds later : List Ground) (number : ℕ) → FirstApplying grounds number → FirstApplying (grounds ++ later) number
more_grounds [] later number never = absurd never
more_grounds (g ∷ gs) later number (inl first) = inl first
more_grounds (g ∷ gs) later number (inr (clear, rest)) = inr (clear, more_grounds gs later number rest)

-- row n of the first rows is what record n stands for
pub row_at : (memory : List RowRecord) (count n : ℕ) (r : Row) (d : RowRecord) → count ≤ length memory → n < count → r ≡ row_of (get_or memory n d) → RowAt (rows_of memory count) n r
row_at memory count n r d fits within reads =
    let long = length-take-le count memory fits in
    let here : n < length (take count memory) = omega arith in
    record {
      within = simp length-map (omega arith);
      is = reads ∙ sym (get_or-map row_of (take count memory) n d r here ∙ ap row_of (get_or-take count memory n d within));
    }

-- a row is not both a straight and a curve
pub never_both : (rows : List Row) (n : ℕ) (c : Curve) (s : Straight) → RowAt rows n (row.Curve c) → RowAt rows n (row.Straight s) → ⊥
never_both rows n c s curve straight =
    let same = get_or_default rows n (row.Curve c) (row.Straight s) curve.within in
    let never : ◌≡◌ {A = ℕ} 0 1 = cc (curve.is, straight.is) in
    omega arith

module _ (road : Road) (count : ℕ) (memory memory' : List RowRecord) where
  -- a row was added, through a roll of the first rows
  pub added : (position : ℕ) (given : NewRow) (r : Row) (value : RowRecord) → Clear (number_grounds given []) → Given given r → count ≤ length memory → position ≤ count → count < 4_000 → min count (length memory) < length memory → value ≡ record_of r → memory' ≡ with_inserted memory (min count (length memory)) position value → Performs (draft_of road count memory) (add position given) done (draft_of road (count + 1) memory')
  added position given r value clear is fits within few room kept after =
      let same : min count (length memory) ≡ count = omega arith in
      let exact : memory' ≡ with_inserted memory count position (record_of r) = cc in
      let long : length memory' ≡ length memory = ap length exact ∙ length_inserted_within memory count position (record_of r) (within, omega arith) in
      carried (draft_of road count memory) (add position given) (draft_of road (count + 1) memory') tt
      (all_clear given _ clear (λ short. omega arith, (λ beyond. omega arith, (λ full. elim full [ inl many ↦ omega arith | inr little ↦ omega arith ], tt))))
      (refl, (r, is, ap (λ rows. with_rows (shown (draft_of road count memory)) rows) (ap (λ m. rows_of m (count + 1)) exact ∙ rows_inserted memory count position r within (omega arith))))
      (exact ∙ ap (with_inserted memory count position) (given_record_is given r is))
      fits (omega arith) long

  -- a refusal after a roll was asked, which left the memory
  pub turned_down : (c : Call) (number : ℕ) → Allowed draft c → FirstApplying (grounds (length memory) count (shown (draft_of road count memory)) c) number → memory' ≡ memory → Performs (draft_of road count memory) c (refused number (named c)) (draft_of road count memory')
  turned_down c number allowed why same = rw same (halted (draft_of road count memory) c number allowed why)

  -- a row was taken out, through a roll of the first rows
  pub taken_out : (n fewer : ℕ) → count ≤ length memory → n < min count (length memory) → fewer ≡ count - 1 → memory' ≡ with_removed memory (min count (length memory)) n blank_record → Performs (draft_of road count memory) (take_out n) done (draft_of road fewer memory')
  taken_out n fewer fits within less after =
      let same : min count (length memory) ≡ count = omega arith in
      let exact : memory' ≡ with_removed memory count n blank_record = cc in
      let long : length memory' ≡ length memory = ap length exact ∙ length_removed_within memory count n blank_record (omega arith, fits) in
      carried (draft_of road count memory) (take_out n) (draft_of road fewer memory') tt (λ short. omega arith, (λ beyond. omega arith, tt))
      (refl, ap (λ rows. with_rows (shown (draft_of road count memory)) rows) (ap (λ m. rows_of m fewer) exact ∙ rows_removed memory count n fewer blank_record (omega arith) (omega arith) fits))
      exact fits (omega arith) long

  -- both lengths of a curve were set
  pub relengthened : (n entry exit : ℕ) (c : Curve) (d : RowRecord) → entry ≤ 2_000_000 → exit ≤ 2_000_000 → count ≤ length memory → n < count → row.Curve c ≡ row_of (get_or memory n d) → memory' ≡ set memory n (stored.Curve c.sense c.radius c.turn entry exit) → Performs (draft_of road count memory) (set_lengths n entry exit) done (draft_of road count memory')
  relengthened n entry exit c default low low' fits within reads after =
      let d : Curve = record { sense = c.sense; radius = c.radius; turn = c.turn; entry = entry; exit = exit; within = (c.within.0, (c.within.1.0, (low, low'))) } in
      let is : WithLengths c entry exit d = record { sense = refl; radius = refl; turn = refl; entry_is = refl; exit_is = refl } in
      let long : length memory' ≡ length memory = ap length after ∙ length-set memory n (record_of (row.Curve d)) in
      let here = row_at memory count n (row.Curve c) default fits within reads in
      carried (draft_of road count memory) (set_lengths n entry exit) (draft_of road count memory') tt (
        λ above. elim above [ inl a ↦ omega arith | inr b ↦ omega arith ],
        (λ short. omega arith, (λ beyond. omega arith, (λ straight. never_both _ n c straight.0 here straight.1, tt))),
      )
      (refl, (c, d, here, is, ap (λ rows. with_rows (shown (draft_of road count memory)) rows) (ap (λ m. rows_of m count) after ∙ rows_set memory count n (row.Curve d) within)))
      (c, reads ∙ ap row_of (get_or_default memory n default blank_record (omega arith)), after)
      fits fits long

  -- there is no record of that row
  pub no_record : (n entry exit : ℕ) (e : Refusal) → entry ≤ 2_000_000 → exit ≤ 2_000_000 → RecordAt memory count n (Err e) → Performs (draft_of road count memory) (set_lengths n entry exit) (refusal e) (draft_of road count memory)
  no_record n entry exit e low low' why =
      let later = more_grounds (ground 7 (length memory < count) ∷ ground 8 (count ≤ n) ∷ []) (ground 9 (StraightAt (rows_of memory count) n) ∷ []) (number_of e) why.smallest in
      let first = inr (λ above. elim above [ inl a ↦ omega arith | inr b ↦ omega arith ], later) in
      rw why.names (halted (draft_of road count memory) (set_lengths n entry exit) (number_of e) tt first)

  -- a straight has no lengths to set
  pub no_curve : (n entry exit : ℕ) (s : Straight) (d : RowRecord) → entry ≤ 2_000_000 → exit ≤ 2_000_000 → count ≤ length memory → n < count → row.Straight s ≡ row_of (get_or memory n d) → Performs (draft_of road count memory) (set_lengths n entry exit) (refused 9 n) (draft_of road count memory)
  no_curve n entry exit s d low low' fits within reads =
      halted (draft_of road count memory) (set_lengths n entry exit) 9 tt
      (inr (
        λ above. elim above [ inl a ↦ omega arith | inr b ↦ omega arith ],
        inr (λ short. omega arith, inr (λ beyond. omega arith, inl ((s, row_at memory count n (row.Straight s) d fits within reads), refl))),
      ))
