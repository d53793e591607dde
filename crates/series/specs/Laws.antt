-- What holds of the plain sheet and of its histories, whoever makes the calls.
use Rattle.std.specs.Prelude.{◌≡◌, ℕ, ◌≤◌, ◌↔◌, Option, Some, None, List, [], ◌∷◌, ◌++◌, map, length}
use Rattle.road.specs.declared.road.Road.{Road}
use Rattle.limits.specs.declared.place.Place.{Place}
use Rattle.rows.specs.declared.record.RowRecord.{RowRecord}
use Rattle.plain.specs.Lengths.{Alike, LeastLengths}
use Rattle.plain.specs.Sheet.{draft, fitted, opened, Plain, Meaning, Call, fit, reopen, Answer, done, barred, Allowed, Step}
use Rattle.sheet.specs.States.{State, shown, Performs}
use Rattle.series.specs.Histories.{LentCall, Seen, History, last_seen, Left, look, Lent, Chain, opened_in}
use Rattle.series.specs.ByHand.{Paired, firsts, seconds, ButLengths}

-- From each sheet and call there is one answer, and one sheet after.
abbrev pub OneStep : Type 0
OneStep =
    (room : ℕ) (s : Plain) (c : Call)
    → (a : Answer) × (s' : Plain) × Step room s c a s' × ((b : Answer) (t : Plain) → Step room s c b t → (b ≡ a) × (t ≡ s'))

-- So a series has one history.
abbrev pub OneHistory : Type 0
OneHistory = (s : Plain) (calls : List LentCall) → (xs : List Seen) × History s calls xs × ((ys : List Seen) → History s calls ys → ys ≡ xs)

-- A call is barred only where a sheet of that mark does not have it, and then nothing changes.
abbrev pub BarredOnly : Type 0
BarredOnly = (room : ℕ) (s : Plain) (c : Call) (s' : Plain) → Step room s c barred s' → (Allowed s.mark c → ⊥) × (s' ≡ s)

-- Two drafts, whatever made them, that agree in road, straights, senses, radii and turns, get the same answer from fitting under limits that admit
-- alike at every place, where both memories hold their rows or neither does: the same refusal, or the same fitted sheet.
abbrev pub FitsAgree : Type 0
FitsAgree =
    (room other_room : ℕ) (s t : Plain) (limit other : Meaning) (a b : Answer) (s' t' : Plain)
    → s.mark ≡ draft → t.mark ≡ draft → t.road ≡ s.road → Alike s.rows t.rows
    → ((place : Place) (length : ℕ) → limit.admits place length ≡ other.admits place length)
    → ((length s.rows ≤ room) ↔ (length t.rows ≤ other_room))
    → Step room s (fit limit) a s' → Step other_room t (fit other) b t'
    → (b ≡ a) × (a ≡ done → t' ≡ s')

-- A call that keeps its own contract, whoever makes it, is a link of a chain: one that is lent all the memory.
abbrev pub CallsLink : Type 0
CallsLink = (s : State) (c : Call) (a : Answer) (s' : State) → Performs s c a s' → Lent (length s.memory) s c a s'

-- Any calls that are linked by their own contracts, whoever makes them, from a sheet whose memory holds its rows, are a history of the plain sheet.
abbrev pub ChainsAreHistories : Type 0
ChainsAreHistories = (s : State) (calls : List LentCall) (trail : List Left) → s.count ≤ length s.memory → Chain s calls trail → History (shown s) calls (map look trail)

-- The sheet has the least lengths that keep the rules under the limit.
abbrev pub HasLeast : Meaning → Plain → Type 0
HasLeast limit s = LeastLengths s.road limit.admits s.rows s.rows

-- The limit that a sheet is fitted under, after a call with this answer: a fit that was carried out brings its own, a reopening that was carried out
-- lets it go, and it stays at every other call.
abbrev pub limit_after : Call → Answer → Option Meaning → Option Meaning
limit_after (fit limit) done under = Some limit
limit_after reopen done under = None
limit_after c a under = under

-- The same after all calls: each is that for the rows that the sheet then had.
abbrev pub fitted_under : Option Meaning → Plain → List LentCall → List Seen → Option Meaning
fitted_under under s [] xs = under
fitted_under under s (q ∷ qs) [] = under
fitted_under under s (q ∷ qs) (x ∷ xs) = fitted_under (limit_after (q.call (length s.rows)) x.answer under) x.sheet qs xs

-- Whatever calls follow the opening: where they leave the sheet fitted, it has the least lengths under the limit of the last fit that was carried out
-- and not reopened since; where they leave a draft, there is no such fit.
abbrev pub FittedIsLeast : Type 0
FittedIsLeast =
    (road : Road) (calls : List LentCall) (xs : List Seen)
    → History (opened road) calls xs
    → let s = last_seen (opened road) xs in
    let under = fitted_under None (opened road) calls xs in
    (s.mark ≡ fitted → (limit : Meaning) × (under ≡ Some limit) × HasLeast limit s) × (s.mark ≡ draft → under ≡ None)

-- Lengths that are set by hand do not bear on what fitting gives: two series on a sheet that differ only in calls that set lengths by hand, wherever
-- these stand, leave the same sheet but for its lengths, and where it is fitted the same sheet.
abbrev pub HandLengths : Type 0
HandLengths =
    (s : Plain) (pairs : List Paired) (xs ys : List Seen) → History s (firsts pairs) xs → History s (seconds pairs) ys → ButLengths (last_seen s xs) (last_seen s ys)

-- A sheet just opened is the plain sheet just opened, and every memory holds its rows: what carrying out promises holds of it without a premise.
abbrev pub Opening : Type 0
Opening = (road : Road) (memory : List RowRecord) → (shown (opened_in road memory) ≡ opened road) × ((opened_in road memory).count ≤ length memory)

-- Parts of a series, carried out one after the other, are a history of the whole.
abbrev pub Parts : Type 0
Parts = (s : Plain) (calls more : List LentCall) (xs ys : List Seen) → History s calls xs → History (last_seen s xs) more ys → History s (calls ++ more) (xs ++ ys)

pub record Laws : Type 0 where
  pub opens : Opening
  pub parts : Parts
  pub steps : OneStep
  pub histories : OneHistory
  pub links : CallsLink
  pub chains : ChainsAreHistories
  pub barring : BarredOnly
  pub fits : FitsAgree
  pub fitted_least : FittedIsLeast
  pub hand : HandLengths
