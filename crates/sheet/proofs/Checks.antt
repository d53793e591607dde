-- A check of the first rows is the plain sheet's, under either mark.
use Rattle.std.proofs.Common.{◌≡◌, ℕ, ◌+◌, ◌<◌, ◌≤◌, List, map, length, take, drop, Ok, Err, Result, sym, refl, ap, ◌∙◌, subst, inl, inr, arith}
use Rattle.std.proofs.lemmas.List.{length-take-le, length-map, length-append, length-drop, take_at, drop_at}
use Rattle.std.proofs.lemmas.Result.{err_from_is_err_and}
use Rattle.road.specs.declared.refusal.Refusal.{Refusal}
use Rattle.road.specs.declared.refusal.Refusal.TheVariants as number
use Rattle.road.specs.declared.road.Road.{Road}
use Rattle.rows.specs.declared.record.RowRecord.{RowRecord}
use Rattle.rows.specs.declared.row.Row.{Row}
use Rattle.rows.specs.Records.{row_of, rows_of}
use Rattle.findings.specs.declared.TooMany.{TooMany}
use Rattle.findings.specs.declared.TooMany.TheVariants.{Rows, Findings}
use Rattle.findings.specs.declared.finding.Finding.{Finding}
use Rattle.findings.specs.Findings.{Checked, Written}
use Rattle.findings.specs.Findings.{FindingsOf, OneList}
use Rattle.plain.specs.Sheet.{Mark, draft, fitted, Meaning, check, Allowed, found, refused}
use Rattle.sheet.specs.States.{State, Performs, Untouched, listed}
use Rattle.sheet.proofs.Errors.{Mapped}
use Rattle.sheet.proofs.Keeps.{halted, looked}

allowed : (mark : Mark) (limit : Meaning) (space : ℕ) → Allowed mark (check limit space)
allowed draft limit space = tt
allowed fitted limit space = tt

module _ (mark : Mark) (road : Road) (count : ℕ) (memory : List RowRecord) (limit : Meaning) (old new : List Finding) where
  abbrev here : State
  here = record { mark = mark; road = road; count = count; memory = memory }

  -- the memory is shorter than the count
  pub short_memory : length memory < count → Performs here (check limit (length old)) (refused 7 0) here
  short_memory short = halted here (check limit (length old)) 7 (allowed mark limit (length old)) (inl (short, refl))

  -- the front of the memory is the records of the sheet's rows
  module _ (one : OneList) (fits : count ≤ length memory) (front : List RowRecord) (is : front ≡ take count memory) where
    whole : (P : List Row → Type 0) → P (map row_of front) → P (rows_of memory count)
    whole P p = subst (λ (xs : List RowRecord). P (map row_of xs)) is p

    -- the findings were written
    checked : (n : ℕ) → length new ≡ length old → Written road limit.admits (map row_of front) old new n → Performs here (check limit (length old)) (found n (take n new)) here
    checked n kept by_front =
        let written = whole (λ rows. Written road limit.admits rows old new n) by_front in
        let all : length new ≡ length written.list + length (drop n old) = ap length written.memory ∙ length-append written.list (drop n old) in
        let left = length-drop n old in
        let first : take n new ≡ written.list = ap (take n) written.memory ∙ take_at written.list (drop n old) n (sym written.number) in
        looked here (check limit (length old)) (found n (take n new)) (allowed mark limit (length old)) (
          λ short. omega arith,
          (
            λ more.
                let same = ap length (one road limit.admits (rows_of memory count) more.0 written.list more.1 written.findings) in
                omega (arith, more.2, written.number),
            tt,
          ),
        )
        (written.list, written.findings, (λ i. found (written.number i) (first i)), refl) refl

    untouched : (n : ℕ) → length new ≡ length old → Written road limit.admits (map row_of front) old new n → Untouched (Ok n) old new
    untouched n kept written =
        let all : length new ≡ length written.list + length (drop n old) = ap length written.memory ∙ length-append written.list (drop n old) in
        let left = length-drop n old in
        (omega (arith, written.number), kept, ap (drop n) written.memory ∙ drop_at written.list (drop n old) n (sym written.number))

    -- they outnumber their memory
    outnumbered : (why : TooMany) → count ≤ 4_000 → Checked road limit.admits (map row_of front) old new (Err why) → Performs here (check limit (length old)) (refused 10 0) here × (new ≡ old)
    outnumbered Rows few (many, same) =
        let long = ap length is ∙ length-take-le count memory fits in
        let all = length-map front row_of in
        absurd (omega arith)
    outnumbered Findings few (_, by_front, same) =
        let more = whole (λ rows. (list : List Finding) × FindingsOf road limit.admits rows list × (length old < length list)) by_front in
        (halted here (check limit (length old)) 10 (allowed mark limit (length old)) (inr (λ short. omega arith, inl (more, refl))), same)

    -- what the check answered, where every error of it is named so
    pub answered : (given : Result ℕ TooMany) (said : Result ℕ Refusal) (post : TooMany → Refusal → Type 0) → ((why : TooMany) (d : Refusal) → post why d → d ≡ number.Full 0) → count ≤ 4_000 → length new ≡ length old → Checked road limit.admits (map row_of front) old new given → Mapped said post given → Performs here (check limit (length old)) (listed said new) here × Untouched said old new
    answered (Ok n) said post named few kept by ok = rw ok (checked n kept by.1, untouched n kept by.1)
    answered (Err why) said post named few kept by err =
        let p = err_from_is_err_and said err in
        rw (p.1, named why p.0 p.2) (outnumbered why few by)
