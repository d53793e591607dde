-- Series of calls: the histories of the plain sheet, the chains of a sheet with its memory, and what carrying them out promises.
use Rattle.std.specs.Prelude.{◌≡◌, ℕ, ◌≤◌, List, [], ◌∷◌, ◌++◌, map, length, take, drop, min}
use Rattle.road.specs.declared.road.Road.{Road}
use Rattle.rows.specs.declared.record.RowRecord.{RowRecord}
use Rattle.findings.specs.declared.finding.Finding.{Finding}
use Rattle.plain.specs.Sheet.{draft, Plain, Meaning, Call, Answer, done, found, value, refused, barred, Step}
use Rattle.sheet.specs.States.{State, shown, Performs}
use Rattle.series.specs.declared.outcome.Outcome.{Outcome}
use Rattle.series.specs.declared.call.Request.{Request}
use Rattle.series.specs.declared.any_sheet.Sheet.{Sheet}
use Rattle.series.specs.Calls.{stands, asked, told}

-- A call of a series, with what it is lent: how many rows its memory can hold, and the call, by the number of rows that there then are.
pub record LentCall : Type 0 where
  pub room : ℕ
  pub call : (count : ℕ) → Call

-- What is seen after a call: the answer, and the plain sheet.
pub record Seen : Type 0 where
  pub answer : Answer
  pub sheet : Plain

-- A history of the plain sheet: its step at each call of a series, and what is seen after it.
abbrev pub History : Plain → List LentCall → List Seen → Type 0
History s [] [] = Unit {0}
History s [] (x ∷ xs) = ⊥
History s (q ∷ qs) [] = ⊥
History s (q ∷ qs) (x ∷ xs) = Step q.room s (q.call (length s.rows)) x.answer x.sheet × History x.sheet qs xs

-- The sheet that is seen last.
abbrev pub last_seen : Plain → List Seen → Plain
last_seen s [] = s
last_seen s (x ∷ xs) = last_seen x.sheet xs

-- What a call leaves: the answer, and the sheet with all its memory.
pub record Left : Type 0 where
  pub answer : Answer
  pub state : State

abbrev pub look : Left → Seen
look x = record { answer = x.answer; sheet = shown x.state }

-- A sheet with the first slots of its memory.
abbrev pub lent : ℕ → State → State
lent room s = record { mark = s.mark; road = s.road; count = s.count; memory = take room s.memory }

-- A call that is lent the first slots keeps its contract on them, and leaves the others.
pub record Lent (room : ℕ) (s : State) (c : Call) (a : Answer) (s' : State) : Type 0 where
  pub within : room ≤ length s.memory
  pub performs : Performs (lent room s) c a (lent room s')
  pub rest : drop room s'.memory ≡ drop room s.memory

-- Calls that are linked by their own contracts, whoever makes them.
abbrev pub Chain : State → List LentCall → List Left → Type 0
Chain s [] [] = Unit {0}
Chain s [] (x ∷ xs) = ⊥
Chain s (q ∷ qs) [] = ⊥
Chain s (q ∷ qs) (x ∷ xs) = Lent q.room s (q.call s.count) x.answer x.state × Chain x.state qs xs

-- The sheet that the last of them leaves.
abbrev pub last_of : State → List Left → State
last_of s [] = s
last_of s (x ∷ xs) = last_of x.state xs

-- A watcher, who is shown each answer and the sheet after it, goes from w to w' by seeing these, one after the other.
abbrev pub Watched : {W : Type 0} → (W → Seen → W → Type 0) → W → List Seen → W → Type 0
Watched sees w [] w' = w' ≡ w
Watched {W = W} sees w (x ∷ xs) w' = (v : W) × sees w x v × Watched sees v xs w'

-- What the findings memory holds after an answer, and after several: the findings of a check at its front, and past them what it held.
abbrev pub findings_after : Answer → List Finding → List Finding
findings_after done memory = memory
findings_after (found number findings) memory = findings ++ drop (length findings) memory
findings_after (value A) memory = memory
findings_after (refused number row) memory = memory
findings_after barred memory = memory

abbrev pub findings_after_all : List Left → List Finding → List Finding
findings_after_all [] memory = memory
findings_after_all (x ∷ xs) memory = findings_after_all xs (findings_after x.answer memory)

-- What a request asks, with so many slots of row memory and of findings memory; more cannot be lent.
abbrev pub lent_call : {L : Type 0} → (L → Meaning) → (rows findings : ℕ) → Request L → LentCall
lent_call meant rows findings q = record { room = min q.room rows; call = λ count. asked meant findings count q.call }

-- What is seen of a sheet, with the findings of its check.
abbrev pub seen : Sheet → List RowRecord → List Finding → Outcome → Seen
seen s memory findings a = record { answer = told a findings; sheet = shown (stands s memory) }

-- The calls were carried out: each call kept its own contract, and the watcher was shown its answer and the sheet after it; the sheet is the one that
-- the last call leaves, and the findings memory has what the checks wrote. Where the memory held the sheet's rows, what the watcher was shown is a history
-- of the plain sheet, and the memory holds the rows of the sheet that is left.
pub record CarriedOut {W : Type 0} (sees : W → Seen → W → Type 0) (calls : List LentCall) (w w' : W) (findings findings' : List Finding) (s s' : State) : Type 0 where
  pub trail : List Left
  pub chain : Chain s calls trail
  pub history : s.count ≤ length s.memory → History (shown s) calls (map look trail)
  pub watched : Watched sees w (map look trail) w'
  pub ends : s' ≡ last_of s trail
  pub fits : s.count ≤ length s.memory → s'.count ≤ length s'.memory
  pub written : findings' ≡ findings_after_all trail findings

-- The requests were carried out, each as the call that it asks, lent what there is of its memory.
abbrev pub SeriesDone : {L W : Type 0} → (W → Seen → W → Type 0) → (L → Meaning) → List (Request L) → (w w' : W) (findings findings' : List Finding) (s s' : State) → Type 0
SeriesDone sees meant requests w w' findings findings' s s' =
    CarriedOut sees (map (lent_call meant (length s.memory) (length findings)) requests) w w' findings findings' s s'

-- A sheet just opened, with its memory.
abbrev pub opened_in : Road → List RowRecord → State
opened_in road memory = record { mark = draft; road = road; count = 0; memory = memory }
