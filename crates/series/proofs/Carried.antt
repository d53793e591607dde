-- What a loop over requests has carried out so far.
use Rattle.std.proofs.Common.{◌≡◌, ℕ, ◌+◌, ◌<◌, ◌≤◌, List, [], ◌∷◌, ◌++◌, map, length, get_or, take, drop, refl, sym, ap, ◌∙◌, subst, arith}
use Rattle.std.proofs.lemmas.List.{length-take, length-take-le, length-map, map-append, map_more, take_all, take_at, drop_at, take-append-drop}
use Rattle.road.specs.declared.road.Road.{Road}
use Rattle.rows.specs.declared.record.RowRecord.{RowRecord}
use Rattle.rows.specs.Records.{row_of, rows_of, blank_record}
use Rattle.findings.specs.declared.finding.Finding.{Finding}
use Rattle.plain.specs.Sheet.{opened, Call, Answer}
use Rattle.sheet.specs.States.{State, drafted, shown, Performs}
use Rattle.sheet.specs.declared.draft.Draft.{Draft}
use Rattle.series.specs.declared.outcome.Outcome.{Outcome}
use Rattle.series.specs.declared.outcome.Outcome.TheVariants as outcome
use Rattle.series.specs.declared.any_sheet.Sheet.{Sheet}
use Rattle.series.specs.declared.any_sheet.Sheet.TheVariants as sheet
use Rattle.series.specs.Calls.{stands, told, found_in, Kept}
use Rattle.series.specs.Histories.{LentCall, Seen, Left, look, Lent, Chain, last_of, Watched, findings_after, findings_after_all, seen, opened_in, CarriedOut}
use Rattle.series.proofs.Chains.{chained, chain_fits, chain_more, last_more, watched_more, over_more}

-- a sheet just opened, with any memory
pub just_opened : (d : Draft) (road : Road) → ((memory : List RowRecord) → shown (drafted d memory) ≡ opened road) → (memory : List RowRecord) → (stands (sheet.Draft d) memory ≡ opened_in road memory) × (d.count ≤ length memory)
just_opened d road is memory =
    let road_is : d.road ≡ road = ap (λ p. p.road) (is memory) in
    let rows : length (rows_of (blank_record ∷ []) d.count) ≡ 0 = ap (λ p. length p.rows) (is (blank_record ∷ [])) in
    let none : d.count ≡ 0 = omega (arith, sym (length-map (take d.count (blank_record ∷ [])) row_of) ∙ rows, length-take d.count (blank_record ∷ [])) in
    (rw (road_is, none) refl, omega arith)

pub record Sofar {W : Type 0} (sees : W → Seen → W → Type 0) (calls : List LentCall) (w w' : W) (findings findings' : List Finding) (s s' : State) : Type 0 where
  pub trail : List Left
  pub chain : Chain s calls trail
  pub watched : Watched sees w (map look trail) w'
  pub ends : s' ≡ last_of s trail
  pub written : findings' ≡ findings_after_all trail findings

-- a call that was lent the front of the rows
pub lent_front : (s n : Sheet) (rows part : List RowRecord) (room : ℕ) (c : Call) (a : Answer) → room ≤ length rows → Performs (stands s (take room rows)) c a (stands n part) → Lent room (stands s rows) c a (stands n (part ++ drop room rows))
lent_front s n rows part room c a within p =
    let number : length part ≡ room = p.long ∙ length-take-le room rows within in
    record {
      within = within;
      performs = subst (λ m. Performs (stands s (take room rows)) c a (stands n m)) (sym (take_at part (drop room rows) room number)) p;
      rest = drop_at part (drop room rows) room number;
    }

-- the watcher was shown what the check found
pub showed : {W : Type 0} (sees : W → Seen → W → Type 0) (w w' : W) (s : Sheet) (rows : List RowRecord) (a : Outcome) (memory found : List Finding) → found ≡ found_in a memory → sees w (seen s rows found a) w' → sees w (seen s rows (found_in a memory) a) w'
showed sees w w' s rows a memory found is saw = subst (λ xs. sees w (seen s rows xs a) w') is saw

-- what the findings memory holds after an answer
pub over_by : (a : Outcome) (before after : List Finding) → Kept a before after → after ≡ findings_after (told a (found_in a after)) before
over_by outcome.Done before after same = same
over_by (outcome.Found n) before after (within, long, past) =
    let number : length (take n after) ≡ n = length-take-le n after (omega arith) in
    sym (ap (λ xs. take n after ++ xs) (ap (λ k. drop k before) number ∙ sym past) ∙ take-append-drop n after)
over_by (outcome.Parameter A) before after same = same
over_by (outcome.Refused r) before after same = same
over_by outcome.Barred before after same = same

module _ {W : Type 0} (sees : W → Seen → W → Type 0) (w : W) (findings : List Finding) (s : State) where
  none_yet : Sofar sees [] w w findings findings s s
  none_yet = record { trail = []; chain = tt; watched = refl; ends = refl; written = refl }

  -- one call more
  pub more : (calls : List LentCall) (v w' : W) (mid findings' : List Finding) (t s' : State) (q : LentCall) (a : Answer) → Sofar sees calls w v findings mid s t → Lent q.room t (q.call t.count) a s' → sees v (record { answer = a; sheet = shown s' }) w' → findings' ≡ findings_after a mid → Sofar sees (calls ++ q ∷ []) w w' findings findings' s s'
  more calls v w' mid findings' t s' q a before call saw wrote =
      let x : Left = record { answer = a; state = s' } in
      record {
        trail = before.trail ++ x ∷ [];
        chain = chain_more s calls before.trail q x before.chain (subst (λ u. Lent q.room u (q.call u.count) a s') before.ends call);
        watched = subst (λ xs. Watched sees w xs w') (sym (map-append look before.trail (x ∷ []))) (watched_more sees w (map look before.trail) v (look x) w' before.watched saw);
        ends = sym (last_more s before.trail x);
        written = wrote ∙ ap (findings_after a) before.written ∙ sym (over_more before.trail x findings);
      }

  -- the same, over the items of a slice
  pub next : {X : Type 0} (f : X → LentCall) (xs : List X) (i : ℕ) (x : X) (v w' : W) (mid findings' : List Finding) (t s' : State) (room : ℕ) (c : Call) (a : Answer) → i < length xs → x ≡ get_or xs i x → Sofar sees (map f (take i xs)) w v findings mid s t → room ≡ (f x).room → c ≡ (f x).call t.count → Lent room t c a s' → sees v (record { answer = a; sheet = shown s' }) w' → findings' ≡ findings_after a mid → Sofar sees (map f (take (i + 1) xs)) w w' findings findings' s s'
  next f xs i x v w' mid findings' t s' room c a lt is before rooms asks call saw wrote =
      let same = subst (λ n. Lent n t ((f x).call t.count) a s') rooms (subst (λ d. Lent room t d a s') asks call) in
      subst (λ qs. Sofar sees qs w w' findings findings' s s')
      (sym (map_more f xs i x lt ∙ ap (λ y. map f (take i xs) ++ f y ∷ []) (sym is)))
      (more (map f (take i xs)) v w' mid findings' t s' (f x) a before same saw wrote)

  -- all of them
  pub all : {X : Type 0} (f : X → LentCall) (xs : List X) (i : ℕ) (w' : W) (findings' : List Finding) (s' : State) → length xs ≤ i → Sofar sees (map f (take i xs)) w w' findings findings' s s' → CarriedOut sees (map f xs) w w' findings findings' s s'
  all f xs i w' findings' s' past sofar =
      let whole : Sofar sees (map f xs) w w' findings findings' s s' = subst (λ ys. Sofar sees (map f ys) w w' findings findings' s s') (take_all i xs past) sofar in
      record {
        trail = whole.trail;
        chain = whole.chain;
        history = λ fits. chained s (map f xs) whole.trail fits whole.chain;
        watched = whole.watched;
        ends = whole.ends;
        fits = λ fits. subst (λ t. t.count ≤ length t.memory) (sym whole.ends) (chain_fits s (map f xs) whole.trail fits whole.chain);
        written = whole.written;
      }
