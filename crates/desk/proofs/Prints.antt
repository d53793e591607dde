-- Texts that are written one after the other.
use Rattle.std.proofs.Common.{◌≡◌, ℕ, ◌+◌, ◌<◌, List, [], ◌∷◌, ◌++◌, map, take, length, get_or, Option, Result, Ok, Err, OnOk, refl, sym, ap, ◌∙◌, subst, append_assoc, add-zero, arith}
use Rattle.std.specs.Io.KnownBytes.{Appends}
use Rattle.std.proofs.lemmas.List.{append-nil, map_more, length-map, length-take-le}
use Rattle.rows.specs.declared.record.RowRecord.{RowRecord}
use Rattle.rows.specs.declared.row.Row.{Row}
use Rattle.rows.specs.Records.{row_of}
use Rattle.answers.specs.declared.set_out.SetOut.{SetOut}
use Rattle.answers.specs.SetOut.{SetsOut}
use Rattle.report.proofs.Tables.{append_both}
use Rattle.answers.specs.Shown.{row_text, set_out_text}
use Rattle.report.specs.Tables.{as_line}
use Rattle.desk.specs.Texts.{rows_text, SetOutList}

pub then_ok : {A E P Q : Type 0} (r : Result A E) → (P → Q) → OnOk r P → OnOk r Q
then_ok (Ok x) f p = f p
then_ok (Err e) f p = p

-- a row more is listed
rows_more : (position : ℕ) (rows : List Row) (r : Row) → rows_text position (rows ++ r ∷ []) ≡ rows_text position rows ++ as_line (row_text (position + length rows) r)
rows_more position [] r = append-nil (as_line (row_text position r)) ∙ ap (λ n. as_line (row_text n r)) (sym (add-zero position))
rows_more position (o ∷ rows) r =
    let further : (position + 1) + length rows ≡ position + length (o ∷ rows) = omega arith in
    ap (λ l. as_line (row_text position o) ++ l) (rows_more (position + 1) rows r ∙ ap (λ n. rows_text (position + 1) rows ++ as_line (row_text n r)) further)
    ∙ sym (append_assoc (as_line (row_text position o)) (rows_text (position + 1) rows) (as_line (row_text (position + length (o ∷ rows)) r)))

-- the same of the rows that records stand for
pub rows_next : (old mid new : Option (List ℕ)) (records : List RowRecord) (i : ℕ) (d : RowRecord) (r : Row) → i < length records → r ≡ row_of (get_or records i d) → Appends old mid (rows_text 0 (map row_of (take i records))) → Appends mid new (as_line (row_text i r)) → Appends old new (rows_text 0 (map row_of (take (i + 1) records)))
rows_next old mid new records i d r within is before now =
    let position : i ≡ 0 + length (map row_of (take i records)) = omega (arith, length-map (take i records) row_of, length-take-le i records (omega arith)) in
    let rows : map row_of (take i records) ++ r ∷ [] ≡ map row_of (take (i + 1) records) = ap (λ x. map row_of (take i records) ++ x ∷ []) is ∙ sym (map_more row_of records i d within) in
    let last : rows_text 0 (map row_of (take i records)) ++ as_line (row_text i r) ≡ rows_text 0 (map row_of (take (i + 1) records)) =
    ap (λ n. rows_text 0 (map row_of (take i records)) ++ as_line (row_text n r)) position ∙ sym (rows_more 0 (map row_of (take i records)) r) ∙ ap (rows_text 0) rows in
    subst (Appends old new) last (append_both old mid new (rows_text 0 (map row_of (take i records))) (as_line (row_text i r)) before now)

-- a row more is set out
set_out_more : (position : ℕ) (rows : List Row) (text : List ℕ) (r : Row) (last : SetOut) → SetOutList position rows text → SetsOut (position + length rows) r last → SetOutList position (rows ++ r ∷ []) (text ++ as_line (set_out_text last))
set_out_more position [] text r last is out = (last, [], subst (λ n. SetsOut n r last) (add-zero position) out, refl, ap (λ l. l ++ as_line (set_out_text last)) is ∙ sym (append-nil (as_line (set_out_text last))))
set_out_more position (o ∷ rows) text r last (first, rest, sets, list, is) out =
    let further : position + length (o ∷ rows) ≡ (position + 1) + length rows = omega arith in (
      first,
      rest ++ as_line (set_out_text last),
      sets,
      set_out_more (position + 1) rows rest r last list (subst (λ n. SetsOut n r last) further out),
      ap (λ l. l ++ as_line (set_out_text last)) is ∙ append_assoc (as_line (set_out_text first)) rest (as_line (set_out_text last)),
    )

-- the same of the rows that records stand for
pub set_out_next : (old mid new : Option (List ℕ)) (records : List RowRecord) (i : ℕ) (d : RowRecord) (r : Row) (last : SetOut) → i < length records → r ≡ row_of (get_or records i d) → (text : List ℕ) × SetOutList 0 (map row_of (take i records)) text × Appends old mid text → SetsOut i r last → Appends mid new (as_line (set_out_text last)) → (text : List ℕ) × SetOutList 0 (map row_of (take (i + 1) records)) text × Appends old new text
set_out_next old mid new records i d r last within is (text, list, before) out now =
    let position : i ≡ 0 + length (map row_of (take i records)) = omega (arith, length-map (take i records) row_of, length-take-le i records (omega arith)) in
    let rows : map row_of (take i records) ++ r ∷ [] ≡ map row_of (take (i + 1) records) = ap (λ x. map row_of (take i records) ++ x ∷ []) is ∙ sym (map_more row_of records i d within) in (
      text ++ as_line (set_out_text last),
      subst (λ rs. SetOutList 0 rs (text ++ as_line (set_out_text last))) rows (set_out_more 0 (map row_of (take i records)) text r last list (subst (λ n. SetsOut n r last) position out)),
      append_both old mid new text (as_line (set_out_text last)) before now,
    )
