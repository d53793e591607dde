-- Lines that are written one after the other.
use Rattle.std.proofs.Common.{◌≡◌, ℕ, ◌+◌, ◌<◌, Bool, List, [], ◌∷◌, ◌++◌, map, take, length, get_or, Option, Some, None, Result, Ok, Err, OnOk, codes, refl, sym, ap, ◌∙◌, subst, append_assoc, add-zero, arith}
use Rattle.std.specs.Io.KnownBytes.{Appends}
use Rattle.std.proofs.lemmas.List.{append-nil, map_more, take_more, length-map, length-take-le}
use Rattle.std.specs.Fmt.{decimal}
use Rattle.std.proofs.lemmas.Fmt.{decimal_digit}
use Rattle.road.specs.declared.road.Road.{Road}
use Rattle.rows.specs.declared.record.RowRecord.{RowRecord}
use Rattle.rows.specs.declared.row.Row.{Row}
use Rattle.rows.specs.Records.{row_of}
use Rattle.limit_names.specs.Names.{limit_word}
use Rattle.choice.specs.declared.ChosenLimit.{ChosenLimit}
use Rattle.choice.specs.declared.in_force.LimitsInForce.{LimitsInForce}
use Rattle.choice.specs.declared.in_force.LimitsInForce.TheVariants.{Compulsory}
use Rattle.choice.specs.Governors.{name_of, limits_of}
use Rattle.report.specs.declared.table_row.TableRow.{TableRow}
use Rattle.report.specs.Rows.{Tabulates}
use Rattle.report.specs.Shown.{table_row_text}
use Rattle.report.specs.Headings.{numbered_text, counted_text}
use Rattle.findings.specs.declared.finding.Finding.{Finding}
use Rattle.wording.specs.declared.explained.Explained.{Explained}
use Rattle.report.specs.Explanations.{ExplainedAs, LinesOf}
use Rattle.report.specs.Findings.{finding_line, FindingsBelow}
use Rattle.report.specs.Tables.{as_line, TableOf, heading_text, SheetTable}

pub append_both : (old mid new : Option (List ℕ)) (xs ys : List ℕ) → Appends old mid xs → Appends mid new ys → Appends old new (xs ++ ys)
append_both None mid new xs ys p q = tt
append_both (Some a) None new xs ys p q = absurd p
append_both (Some a) (Some b) None xs ys p q = absurd q
append_both (Some a) (Some b) (Some c) xs ys p q = q ∙ ap (λ l. l ++ ys) p ∙ append_assoc a xs ys

-- a row more in the table
table_more : (road : Road) (limits : LimitsInForce) (position : ℕ) (rows : List Row) (text : List ℕ) (r : Row) (last : TableRow) → TableOf road limits position rows text → Tabulates road limits (position + length rows) r last → TableOf road limits position (rows ++ r ∷ []) (text ++ as_line (table_row_text last))
table_more road limits position [] text r last is out = (last, [], subst (λ n. Tabulates road limits n r last) (add-zero position) out, refl, ap (λ l. l ++ as_line (table_row_text last)) is ∙ sym (append-nil (as_line (table_row_text last))))
table_more road limits position (o ∷ rows) text r last (first, rest, has, table, is) out =
    let further : position + length (o ∷ rows) ≡ (position + 1) + length rows = omega arith in (
      first,
      rest ++ as_line (table_row_text last),
      has,
      table_more road limits (position + 1) rows rest r last table (subst (λ n. Tabulates road limits n r last) further out),
      ap (λ l. l ++ as_line (table_row_text last)) is ∙ append_assoc (as_line (table_row_text first)) rest (as_line (table_row_text last)),
    )

-- the same of the rows that records stand for
pub table_next : (road : Road) (limits : LimitsInForce) (old mid new : Option (List ℕ)) (records : List RowRecord) (i : ℕ) (d : RowRecord) (r : Row) (last : TableRow) → i < length records → r ≡ row_of (get_or records i d) → (text : List ℕ) × TableOf road limits 0 (map row_of (take i records)) text × Appends old mid text → Tabulates road limits i r last → Appends mid new (as_line (table_row_text last)) → (text : List ℕ) × TableOf road limits 0 (map row_of (take (i + 1) records)) text × Appends old new text
table_next road limits old mid new records i d r last within is (text, table, before) has now =
    let position : i ≡ 0 + length (map row_of (take i records)) = omega (arith, length-map (take i records) row_of, length-take-le i records (omega arith)) in
    let rows : map row_of (take i records) ++ r ∷ [] ≡ map row_of (take (i + 1) records) = ap (λ x. map row_of (take i records) ++ x ∷ []) is ∙ sym (map_more row_of records i d within) in (
      text ++ as_line (table_row_text last),
      subst (λ rs. TableOf road limits 0 rs (text ++ as_line (table_row_text last))) rows (table_more road limits 0 (map row_of (take i records)) text r last table (subst (λ n. Tabulates road limits n r last) position has)),
      append_both old mid new text (as_line (table_row_text last)) before now,
    )

-- a limit more is numbered
numbered_more : (number : ℕ) (limits : List ChosenLimit) (limit : ChosenLimit) → numbered_text number (limits ++ limit ∷ []) ≡ numbered_text number limits ++ (32 ∷ (decimal (number + length limits) ++ (32 ∷ limit_word (name_of limit))))
numbered_more number [] limit =
    ap (λ n. 32 ∷ (decimal n ++ (32 ∷ (limit_word (name_of limit) ++ [])))) (sym (add-zero number)) ∙ ap (λ l. 32 ∷ (decimal (number + 0) ++ (32 ∷ l))) (append-nil (limit_word (name_of limit)))
numbered_more number (o ∷ limits) limit =
    let word = limit_word (name_of o) in
    let last = λ (n : ℕ). 32 ∷ (decimal n ++ (32 ∷ limit_word (name_of limit))) in
    let further : (number + 1) + length limits ≡ number + length (o ∷ limits) = omega arith in
    ap (λ l. 32 ∷ (decimal number ++ (32 ∷ (word ++ l)))) (numbered_more (number + 1) limits limit ∙ ap (λ n. numbered_text (number + 1) limits ++ last n) further)
    ∙ sym (ap (λ l. 32 ∷ l) (append_assoc (decimal number) (32 ∷ (word ++ numbered_text (number + 1) limits)) (last (number + length (o ∷ limits)))
    ∙ ap (λ l. decimal number ++ (32 ∷ l)) (append_assoc word (numbered_text (number + 1) limits) (last (number + length (o ∷ limits))))))

-- the same of the front of a list
pub numbered_next : (old mid new : Option (List ℕ)) (limits : List ChosenLimit) (i : ℕ) (limit : ChosenLimit) → i < length limits → limit ≡ get_or limits i limit → Appends old mid (numbered_text 1 (take i limits)) → Appends mid new (32 ∷ (decimal (i + 1) ++ (32 ∷ limit_word (name_of limit)))) → Appends old new (numbered_text 1 (take (i + 1) limits))
numbered_next old mid new limits i limit within is before now =
    let position : i + 1 ≡ 1 + length (take i limits) = omega (arith, length-take-le i limits (omega arith)) in
    let more : numbered_text 1 (take i limits) ++ (32 ∷ (decimal (i + 1) ++ (32 ∷ limit_word (name_of limit)))) ≡ numbered_text 1 (take (i + 1) limits) =
    ap (λ n. numbered_text 1 (take i limits) ++ (32 ∷ (decimal n ++ (32 ∷ limit_word (name_of limit))))) position
    ∙ sym (numbered_more 1 (take i limits) limit) ∙ ap (λ x. numbered_text 1 (take i limits ++ x ∷ [])) is ∙ ap (numbered_text 1) (sym (take_more limits i limit within)) in
    subst (Appends old new) more (append_both old mid new (numbered_text 1 (take i limits)) (32 ∷ (decimal (i + 1) ++ (32 ∷ limit_word (name_of limit)))) before now)

pub four_text : numbered_text 1 (limits_of Compulsory) ≡ codes " 1 comfort 2 transition 3 azimuth 4 shift"
four_text = rw (decimal_digit 1 (omega arith), decimal_digit 2 (omega arith), decimal_digit 3 (omega arith), decimal_digit 4 (omega arith)) refl

-- three texts one after the other
pub append_three : {A E : Type 0} (r : Result A E) (old one two new : Option (List ℕ)) (xs ys zs : List ℕ) → Appends old one xs → Appends one two ys → OnOk r (Appends two new zs) → OnOk r (Appends old new (xs ++ (ys ++ zs)))
append_three (Ok x) old one two new xs ys zs p q s = append_both old one new xs (ys ++ zs) p (append_both one two new ys zs q s)
append_three (Err e) old one two new xs ys zs p q s = s

module _ (road : Road) (limits : LimitsInForce) (rows : List RowRecord) (shown : Explained → List ℕ) where
  -- a finding more
  lines_more : (findings : List Finding) (text : List ℕ) (f : Finding) (e : Explained) → LinesOf road limits rows shown findings text → ExplainedAs road limits rows f e → LinesOf road limits rows shown (findings ++ f ∷ []) (text ++ as_line (shown e))
  lines_more [] text f e is of_it = (e, [], of_it, refl, ap (λ l. l ++ as_line (shown e)) is ∙ sym (append-nil (as_line (shown e))))
  lines_more (o ∷ findings) text f e (first, rest, firsts, lines, is) of_it = (
    first,
    rest ++ as_line (shown e),
    firsts,
    lines_more findings rest f e lines of_it,
    ap (λ l. l ++ as_line (shown e)) is ∙ append_assoc (as_line (shown first)) rest (as_line (shown e)),
  )

  -- the same of the front of a list
  pub lines_next : (old mid new : Option (List ℕ)) (findings : List Finding) (i : ℕ) (f : Finding) (e : Explained) → i < length findings → f ≡ get_or findings i f → (text : List ℕ) × LinesOf road limits rows shown (take i findings) text × Appends old mid text → ExplainedAs road limits rows f e → Appends mid new (as_line (shown e)) → (text : List ℕ) × LinesOf road limits rows shown (take (i + 1) findings) text × Appends old new text
  lines_next old mid new findings i f e within is (text, lines, before) of_it now =
      let front : take i findings ++ f ∷ [] ≡ take (i + 1) findings = ap (λ x. take i findings ++ x ∷ []) is ∙ sym (take_more findings i f within) in (
        text ++ as_line (shown e),
        subst (λ fs. LinesOf road limits rows shown fs (text ++ as_line (shown e))) front (lines_more (take i findings) text f e lines of_it),
        append_both old mid new text (as_line (shown e)) before now,
      )

-- how many findings there are, and their lines
pub counted_then : {A E : Type 0} (road : Road) (limits : LimitsInForce) (rows : List RowRecord) (r : Result A E) (old mid new : Option (List ℕ)) (findings : List Finding) → Appends old mid (as_line (counted_text (length findings) (codes "finding"))) → OnOk r ((text : List ℕ) × LinesOf road limits rows finding_line findings text × Appends mid new text) → OnOk r ((text : List ℕ) × FindingsBelow road limits rows findings text × Appends old new text)
counted_then road limits rows (Ok x) old mid new findings before (lines, are, after) =
    (as_line (counted_text (length findings) (codes "finding")) ++ lines, (lines, are, refl), append_both old mid new (as_line (counted_text (length findings) (codes "finding"))) lines before after)
counted_then road limits rows (Err e) old mid new findings before after = after

-- what stands above the rows, the rows, and an empty line
pub table_then : {A E : Type 0} (road : Road) (is_fitted : Bool) (limits : LimitsInForce) (r : Result A E) (old heading table new : Option (List ℕ)) (rows : List Row) → Appends old heading (heading_text road is_fitted rows limits) → (text : List ℕ) × TableOf road limits 0 rows text × Appends heading table text → OnOk r (Appends table new (as_line [])) → OnOk r ((text : List ℕ) × SheetTable road is_fitted rows limits text × Appends old new text)
table_then road is_fitted limits (Ok x) old heading table new rows above (text, are, below) last =
    (heading_text road is_fitted rows limits ++ (text ++ as_line []), (text, are, refl), append_both old heading new (heading_text road is_fitted rows limits) (text ++ as_line []) above (append_both heading table new text (as_line []) below last))
table_then road is_fitted limits (Err e) old heading table new rows above below last = last

-- four texts one after the other
pub append_four : {A E : Type 0} (r : Result A E) (old one two three new : Option (List ℕ)) (xs ys zs ws : List ℕ) → Appends old one xs → Appends one two ys → Appends two three zs → OnOk r (Appends three new ws) → OnOk r (Appends old new (xs ++ (ys ++ (zs ++ ws))))
append_four (Ok x) old one two three new xs ys zs ws p q s t = append_both old one new xs (ys ++ (zs ++ ws)) p (append_both one two new ys (zs ++ ws) q (append_both two three new zs ws s t))
append_four (Err e) old one two three new xs ys zs ws p q s t = t
