-- The open sheet after each line is what the history of its lines' calls leaves.
use Rattle.std.proofs.Common.{◌≡◌, ℕ, Bool, true, false, ◌&&◌, cond, inl, inr, List, [], ◌∷◌, ◌++◌, Option, Some, None, Result, Ok, Err, refl, sym, ap, ◌∙◌, subst}
use Rattle.std.specs.Borrow.{Bor}
use Rattle.road.specs.declared.road.Road.{Road}
use Rattle.road.specs.declared.refusal.Refusal.{Refusal}
use Rattle.commands.specs.declared.command.Command.{Command}
use Rattle.commands.specs.declared.command.Command.TheVariants.{Road as RoadLine, Label, Sheet as Call, Rows, Report, Limit}
use Rattle.commands.specs.declared.command.SheetCommand.{SheetCommand}
use Rattle.commands.specs.declared.mistake.ParseError.{ParseError}
use Rattle.plain.specs.Sheet.{Plain, opened}
use Rattle.sheet.specs.States.{shown}
use Rattle.series.specs.Calls.{stands}
use Rattle.series.specs.Histories.{Seen, History, last_seen, Left, look}
use Rattle.series.specs.declared.any_sheet.Sheet.{Sheet}
use Rattle.series.proofs.Lawful.{laws}
use Rattle.answers.specs.declared.line_answer.LineAnswer.{LineAnswer}
use Rattle.answers.specs.declared.failure.Failure.{Failure}
use Rattle.answers.specs.declared.verdict.Verdict.{Verdict}
use Rattle.desk.specs.declared.desk.Desk.{Desk}
use Rattle.desk.specs.Desk.{rows_in, Same, LaysOut, OpenedAs}
use Rattle.desk.specs.Calls.{Called, CalledOn}
use Rattle.desk.specs.Reports.{Reports}
use Rattle.session.specs.declared.Session.{Session}
use Rattle.session.specs.Lines.{CommandLeft, LeftBy, BytesLeft, LineLeft, RowsLeft, LimitLeft, comment_bytes}
use Rattle.session.specs.Faults.{any}
use Rattle.session.specs.Inputs.{LineDone, LinesDone}
use Rattle.session.specs.Sheets.{Past, call_said, one_call_more, Makes, calling, opening, keeping, LinesMake, Leaves, LinesMakeHistory}

-- what is seen last is what was added last
last_added : (p : Plain) (xs : List Seen) (x : Seen) → last_seen p (xs ++ x ∷ []) ≡ x.sheet
last_added p [] x = refl
last_added p (y ∷ xs) x = last_added y.sheet xs x

module _ (line : ℕ) (d d' : Desk) (text : List ℕ) (v : Verdict) where
  -- the past after the line
  abbrev Next : Option Past → Type 0
  Next h = (h' : Option Past) × Makes line d d' text v h h' × Leaves h' d'.sheet (rows_in d')

  kept : (h : Option Past) → d'.sheet ≡ d.sheet → rows_in d' ≡ rows_in d → Leaves h d.sheet (rows_in d) → Next h
  kept h is same was = (h, keeping is same refl, rw (is, same) was)

  same_kept : (h : Option Past) → Same d d' → Leaves h d.sheet (rows_in d) → Next h
  same_kept h same was = kept h same.sheet same.rows was

  equal_kept : (h : Option Past) → d' ≡ d → Leaves h d.sheet (rows_in d) → Next h
  equal_kept h is was = kept h (ap (λ x. x.sheet) is) (ap rows_in is) was

  -- a road just opened
  laid : (h : Option Past) (road : Road) (o : Option Sheet) → LaysOut road o → d'.sheet ≡ o → Next h
  laid h road None lays is = absurd lays
  laid h road (Some s) lays is =
      let begun : last_seen (opened road) [] ≡ shown (stands s (rows_in d')) = sym (laws.opens road (rows_in d')).0 ∙ ap shown (sym (lays (rows_in d'))) in
      (Some (record { road = road; calls = []; seen = [] }), opening road s is lays refl, rw is (tt, begun))

  opened_next : (h : Option Past) (given : Result Road Refusal) (answer : Result LineAnswer Failure) → OpenedAs given d d' answer → Leaves h d.sheet (rows_in d) → Next h
  opened_next h (Ok road) answer is was = laid h road d'.sheet is.1 refl
  opened_next h (Err refusal) answer is was = same_kept h is.1 was

  -- a call more
  called_next : (h : Option Past) (command : SheetCommand) (s : Sheet) → d.sheet ≡ Some s → Called line command s d d' text v → Leaves h (Some s) (rows_in d) → Next h
  called_next None command s lying called was = absurd was
  called_next (Some k) command s lying called (history, ends) =
      let q = call_said d command in
      let x : Left = record { answer = called.answer; state = stands called.left (rows_in d') } in
      let step : History (shown (stands s (rows_in d))) (q ∷ []) (look x ∷ []) = laws.chains (stands s (rows_in d)) (q ∷ []) (x ∷ []) called.holds (laws.links _ _ _ _ called.performs, tt) in
      let longer = laws.parts (opened k.road) k.calls (q ∷ []) k.seen (look x ∷ []) history (subst (λ p. History p (q ∷ []) (look x ∷ [])) (sym ends) step) in
      (Some (one_call_more k q (look x)), calling k command s called lying refl refl, rw called.sheet (longer, last_added (opened k.road) k.seen (look x)))

  call_next : (h : Option Past) (command : SheetCommand) (lying : Option Sheet) → d.sheet ≡ lying → CalledOn line command lying d d' text v → Leaves h d.sheet (rows_in d) → Next h
  call_next h command (Some s) is called was = called_next h command s is called (subst (λ l. Leaves h l (rows_in d)) is was)
  call_next h command None is (same, _, _) was = same_kept h same was

  report_next : (h : Option Past) (lying : Option Sheet) → d.sheet ≡ lying → Reports line lying d d' text v → Leaves h d.sheet (rows_in d) → Next h
  report_next h (Some s) is report was = kept h (report.sheet ∙ sym is) report.rows was
  report_next h None is (same, _, _) was = same_kept h same was

  module _ (h : Option Past) (was : Leaves h d.sheet (rows_in d)) where
    rows_next : (lying : Option Sheet) → RowsLeft line d d' text v lying → Next h
    rows_next (Some s) (is, _, _) = equal_kept h is was
    rows_next None (is, _, _) = equal_kept h is was

    limit_next : (ws : List (Bor (List ℕ))) (lying : Option Sheet) → LimitLeft line d d' text v ws lying → Next h
    limit_next ws (Some s) (inl (named, is, _, _)) = kept h (ap (λ x. x.sheet) is) (ap rows_in is) was
    limit_next ws (Some s) (inr (at, file, why, here, (is, _, _))) = equal_kept h is was
    limit_next ws None (is, _, _) = equal_kept h is was

    command_next : (ws : List (Bor (List ℕ))) (c : Command) → CommandLeft line d d' text v ws c → Next h
    command_next ws (RoadLine design) left = opened_next h left.opens.0 left.answer left.opens.2 was
    command_next ws (Label radius turn) left = equal_kept h left.desk was
    command_next ws (Call command) left = call_next h command d.sheet refl left was
    command_next ws Rows left = rows_next d.sheet left
    command_next ws Report left = report_next h d.sheet refl left was
    command_next ws Limit left = limit_next ws d.sheet left

    said_next : (ws : List (Bor (List ℕ))) (said : Result (Option Command) ParseError) → LeftBy line d d' text v ws said → Next h
    said_next ws (Ok None) (is, _, _) = equal_kept h is was
    said_next ws (Ok (Some c)) left = command_next ws c left
    said_next ws (Err mistake) (is, _, _) = equal_kept h is was

    comment_next : {P Q : Type 0} (b : Bool) → (P → Next h) → (Q → Next h) → cond b P Q → Next h
    comment_next true f g p = f p
    comment_next false f g q = g q

    bytes_next : (bytes : List ℕ) → BytesLeft line d d' text v bytes → Next h
    bytes_next bytes (inl (utf8, (ws, said, words, answers, left))) = said_next ws said left
    bytes_next bytes (inr (never, left)) = comment_next (comment_bytes bytes) (λ nothing. equal_kept h nothing.0 was) (λ wrong. equal_kept h wrong.0 was) left

    line_next : (first : Bool) (l : Option (List ℕ)) → LineLeft line d d' text v first l → Next h
    line_next first None (is, _, _) = equal_kept h is was
    line_next first (Some whole) (bytes, mark, left) = bytes_next bytes left

abbrev After : Bool → List (Option (List ℕ)) → Session → Session → Option Past → Type 0
After stop ls s s' h = (h' : Option Past) × LinesMake stop ls s s' h h' × Leaves h' s'.desk.sheet (rows_in s'.desk)

by_cond : {P Q : Type 0} (R : Bool → Type 0) (b : Bool) → (P → R true) → (Q → R false) → cond b P Q → R b
by_cond R true f g p = f p
by_cond R false f g q = g q

lines_after : (stop : Bool) (ls : List (Option (List ℕ))) (s s' : Session) (text : List ℕ) (h : Option Past) → LinesDone stop ls s s' text → Leaves h s.desk.sheet (rows_in s.desk) → After stop ls s s' h
lines_after stop [] s s' text h (is, _) was = (h, (is, refl), subst (λ x. Leaves h x.desk.sheet (rows_in x.desk)) (sym is) was)
lines_after stop (l ∷ ls) s s' text h done was =
    by_cond
    (λ b. (h' : Option Past) × cond b ((s' ≡ s) × (h' ≡ h)) ((mid : Session) × (text : List ℕ) × (done : LineDone l s mid text) × (between : Option Past) × Makes mid.lines s.desk mid.desk text done.verdict h between × LinesMake stop ls mid s' between h') × Leaves h' s'.desk.sheet (rows_in s'.desk))
    (stop && any s.faults)
    (λ ended. (h, (ended.0, refl), subst (λ x. Leaves h x.desk.sheet (rows_in x.desk)) (sym ended.0) was))
    (λ more.
    let next = line_next more.0.lines s.desk more.0.desk more.1 more.3.verdict h was _ l more.3.left in
    let rest = lines_after stop ls more.0 s' more.2 next.0 more.4 next.2 in
    (rest.0, (more.0, more.1, more.3, next.0, next.1, rest.1), rest.2))
    done

pub lines_make_history : LinesMakeHistory
lines_make_history stop ls s s' text begun done = lines_after stop ls s s' text None done (rw begun.sheet tt)
