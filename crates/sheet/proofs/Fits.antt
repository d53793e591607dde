-- A fit of the first records is the plain sheet's.
use Rattle.std.proofs.Common.{◌≡◌, ℕ, suc, ◌<◌, ◌≤◌, List, [], ◌∷◌, ◌++◌, map, length, take, drop, Ok, Err, refl, sym, ap, ◌∙◌, subst, inl, inr, arith}
use Rattle.std.proofs.lemmas.List.{take-append-drop, length-take-le, length-append, length-drop, take_at, drop_at}
use Rattle.road.specs.declared.road.Road.{Road}
use Rattle.rows.specs.Records.{row_of}
use Rattle.rows.specs.declared.record.RowRecord.{RowRecord}
use Rattle.fitting.specs.Fits.{OnlyCurves, Fits}
use Rattle.plain.specs.Sheet.{fitted, Meaning, marked, with_rows, fit, carrying, done, refused}
use Rattle.sheet.specs.States.{State, shown, Performs}
use Rattle.sheet.proofs.Keeps.{draft_of, halted, carried}

-- the records keep their number
same_number : (before after : List RowRecord) → OnlyCurves before after → length after ≡ length before
same_number [] [] same = refl
same_number [] (t ∷ ts) never = absurd never
same_number (r ∷ rs) [] never = absurd never
same_number (r ∷ rs) (t ∷ ts) (_, more) = ap suc (same_number rs ts more)

module _ (road : Road) (count : ℕ) (memory : List RowRecord) (limit : Meaning) where
  abbrev here : State
  here = draft_of road count memory

  -- the memory is shorter than the count
  pub too_short : length memory < count → Performs here (fit limit) (refused 7 0) here
  too_short short = halted here (fit limit) 7 tt (inl (short, refl))

  -- there are no rows
  pub no_rows : count ≤ length memory → count ≡ 0 → Performs here (fit limit) (refused 11 0) here
  no_rows fits none = halted here (fit limit) 11 tt (inr (λ short. omega arith, inl (none, refl)))

  -- the front of the memory was fitted, and the rest stays
  module _ (front : List RowRecord) (memory' : List RowRecord) (fits : count ≤ length memory) (some : count ≡ 0 → ⊥) (after : memory' ≡ front ++ drop count memory) where
    -- the curves have the least lengths
    pub shortest : Fits road limit.admits (take count memory) front (Ok tt) → Performs here (fit limit) done (record { mark = fitted; road = road; count = count; memory = memory' })
    shortest (least, curves) =
        let number : length front ≡ count = same_number _ _ curves ∙ length-take-le count memory fits in
        let first : take count memory' ≡ front = ap (take count) after ∙ take_at front (drop count memory) count number in
        let rest : drop count memory' ≡ drop count memory = ap (drop count) after ∙ drop_at front (drop count memory) count number in
        let long : length memory' ≡ length memory = ap length after ∙ length-append front (drop count memory) ∙ omega (arith, length-drop count memory) in
        carried here (fit limit) (record { mark = fitted; road = road; count = count; memory = memory' }) tt (λ short. omega arith, (λ none. some none, tt))
        (inl (refl, (map row_of front, least, ap (λ rows. marked fitted (with_rows (shown here) (map row_of rows))) first)))
        (subst (OnlyCurves (take count memory)) (sym first) curves, rest) fits fits long

    -- no lengths keep the rules
    pub unfitted : (n : ℕ) → Fits road limit.admits (take count memory) front (Err n) → Performs here (fit limit) (refused 12 n) (draft_of road count memory')
    unfitted n (none, first, same) =
        let kept : memory' ≡ memory = after ∙ ap (λ xs. xs ++ drop count memory) same ∙ take-append-drop count memory in
        rw kept (
        record {
          step = carrying tt (λ short. omega arith, (λ empty. some empty, tt)) (inr (n, none, first, refl, refl));
          unchanged = λ _. refl;
          memory = λ never. absurd (never tt);
          whole = λ h. h;
          short = λ _. refl;
          long = refl;
        }
        )
