-- What is written of answers, and of words.
use Rattle.std.proofs.Common.{◌≡◌, ℕ, inl, inr, Bool, true, false, cond, List, [], ◌∷◌, ◌++◌, drop, Option, Some, None, Result, Ok, Err, MatchResult, IfOk, IsUtf8, codes, decimal, ◌+◌, ◌<◌, length, take, get_or, ap, ◌∙◌, refl, sym, subst, append_assoc}
use Rattle.std.specs.Borrow.{Bor}
use Rattle.std.specs.Str.Lossy.{utf8_valid_len}
use Rattle.std.specs.Io.KnownBytes.{Appends}
use Rattle.std.specs.List.{flat_map}
use Rattle.std.proofs.lemmas.List.{append-nil, take_more, flat_map_more}
use Rattle.report.proofs.Tables.{append_both}
use Rattle.series.specs.declared.any_sheet.Sheet.{Sheet as OpenSheet}
use Rattle.commands.specs.declared.name.Name.{Name}
use Rattle.commands.specs.declared.name.Name.TheVariants as name
use Rattle.answers.specs.declared.failure.Failure.TheVariants.{NoRoad}
use Rattle.answers.specs.declared.failure.Failure.{Failure}
use Rattle.answers.specs.Shown.{failure_text}
use Rattle.answers.specs.declared.verdict.Verdict.{Verdict}
use Rattle.answers.specs.declared.verdict.Verdict.TheVariants.{Answered, Wrong}
use Rattle.desk.specs.declared.desk.Desk.{Desk}
use Rattle.desk.specs.Desk.{with_limits, IsOpen}
use Rattle.report.specs.Tables.{as_line}
use Rattle.desk.specs.Texts.{wrong_line}
use Rattle.session.specs.LimitWords.{FileAt, unreadable_text, spaced, echo}
use Rattle.session.specs.Lines.{AreNamed, LimitLeft, BytesLeft, LineLeft, Unmarked, comment_bytes, no_text, too_long}

-- nothing is written
pub nothing_more : (known : Option (List ℕ)) → Appends known known []
nothing_more None = tt
nothing_more (Some bytes) = sym (append-nil bytes)

-- where no sheet is open, that is what is wrong with the line
pub not_open : (line : ℕ) (name : Name) (left : Option OpenSheet → List ℕ → Type 0) (old new : Option (List ℕ)) → left None (wrong_line line (failure_text (NoRoad name))) → (o : Option OpenSheet) (failure : Failure) → IsOpen name o (Err failure) → Appends old new (wrong_line line (failure_text failure)) → (text : List ℕ) × left o text × Appends old new text
not_open line name left old new says (Some s) failure is now = absurd (subst (λ r. MatchResult r (λ _. ⊥) (λ _. Unit {0})) is tt)
not_open line name left old new says None failure is now = (wrong_line line (failure_text (NoRoad name)), says, subst (λ r. MatchResult r (λ _. ⊥) (λ f. Appends old new (wrong_line line (failure_text f)))) is now)

module _ (line : ℕ) (d : Desk) (ws : List (Bor (List ℕ))) (old new : Option (List ℕ)) where
  pub limit_named : (o : Option OpenSheet) (after : Desk) → IsOpen name.Limit o (Ok tt) → AreNamed (drop 1 ws) after.limits → after ≡ with_limits after.limits d → Appends old new (as_line (echo ws)) → (text : List ℕ) × LimitLeft line d after text Answered ws o × Appends old new text
  limit_named (Some s) after is named same now = (as_line (echo ws), inl (named, same, refl, refl), now)
  limit_named None after is named same now = absurd (subst (λ r. MatchResult r (λ _. Unit {0}) (λ _. ⊥)) is tt)

  pub limit_unreadable : (o : Option OpenSheet) (at : ℕ) (file why : List ℕ) → IsOpen name.Limit o (Ok tt) → FileAt 2 (drop 1 ws) at file → Appends old new (wrong_line line (unreadable_text at file why)) → (text : List ℕ) × LimitLeft line d d text Wrong ws o × Appends old new text
  limit_unreadable (Some s) at file why is stands now = (_, inr (at, file, why, stands, (refl, refl, refl)), now)
  limit_unreadable None at file why is stands now = absurd (subst (λ r. MatchResult r (λ _. Unit {0}) (λ _. ⊥)) is tt)

module _ (line : ℕ) (d : Desk) (bytes : List ℕ) (no : IsUtf8 bytes → ⊥) where
  pub comment_left : (known : Option (List ℕ)) → comment_bytes bytes ≡ true → (text : List ℕ) × BytesLeft line d d text Answered bytes × Appends known known text
  comment_left known is = ([], inr (no, rw is (refl, refl, refl)), nothing_more known)

  pub no_text_left : (old new : Option (List ℕ)) (valid : ℕ) → valid ≡ utf8_valid_len bytes → comment_bytes bytes ≡ false → Appends old new (wrong_line line (no_text valid)) → (text : List ℕ) × BytesLeft line d d text Wrong bytes × Appends old new text
  no_text_left old new valid so is now = (wrong_line line (no_text valid), inr (no, rw is (refl, ap (λ n. wrong_line line (no_text n)) so, refl)), now)

pub line_of : {E : Type 0} (line : ℕ) (d after : Desk) (first : Bool) (whole bytes : List ℕ) (old new : Option (List ℕ)) (r : Result Verdict E) → cond first (Unmarked whole bytes) (bytes ≡ whole) → IfOk r (λ v. (text : List ℕ) × BytesLeft line d after text v bytes × Appends old new text) → IfOk r (λ v. (text : List ℕ) × LineLeft line d after text v first (Some whole) × Appends old new text)
line_of line d after first whole bytes old new (Ok v) mark (text, left, now) = (text, (bytes, mark, left), now)
line_of line d after first whole bytes old new (Err e) mark left = left

pub too_long_left : (line : ℕ) (d : Desk) (first : Bool) (old new : Option (List ℕ)) → Appends old new (codes "error " ++ (decimal line ++ (codes ": the line is longer than " ++ (decimal 16_384 ++ (codes " bytes" ++ 10 ∷ []))))) → (text : List ℕ) × LineLeft line d d text Wrong first None × Appends old new text
too_long_left line d first old new now = (wrong_line line too_long, (refl, refl, refl), subst (λ l. Appends old new (codes "error " ++ (decimal line ++ (codes ": the line is longer than " ++ l)))) (sym (append_assoc (decimal 16_384) (codes " bytes") (10 ∷ []))) now)

-- a word more is written
pub words_more : (old mid new : Option (List ℕ)) (ws : List (Bor (List ℕ))) (k : ℕ) (d : Bor (List ℕ)) → k < length ws → Appends old mid (flat_map spaced (take k ws)) → Appends mid new (spaced (get_or ws k d)) → Appends old new (flat_map spaced (take (k + 1) ws))
words_more old mid new ws k d within before now =
    subst (Appends old new) (flat_map_more spaced [] (take k ws) (get_or ws k d) ∙ ap (flat_map spaced) (sym (take_more ws k d within))) (append_both old mid new (flat_map spaced (take k ws)) (spaced (get_or ws k d)) before now)
