-- How many lines were refused and how many were wrong, the first of each, and what the program says of them at its end.
use Rattle.std.specs.Prelude.{ℕ, ◌+◌, ◌-◌, ◌^◌, min, cond, ◌==◌, Bool, true, false, List, [], ◌++◌, Option, Some, None, codes, decimal}
use Rattle.answers.specs.declared.verdict.Verdict.{Verdict}
use Rattle.answers.specs.declared.verdict.Verdict.TheVariants.{Answered, Refused, Wrong}
use Rattle.session.specs.declared.faults.Tally.{Tally}
use Rattle.session.specs.declared.faults.Faults.{Faults}

-- A line more; the count stops at the greatest number of 64 bits.
abbrev pub one_more : (line : ℕ) → Option Tally → Option Tally
one_more line None = Some (record { lines = 1; first = line })
one_more line (Some t) = Some (record { lines = min (t.lines + 1) (2 ^ 64 - 1); first = t.first })

-- A line that fared so is counted.
abbrev pub counted : Verdict → (line : ℕ) → Faults → Faults
counted Answered line f = f
counted Refused line f = record { wrong = f.wrong; refused = one_more line f.refused }
counted Wrong line f = record { wrong = one_more line f.wrong; refused = f.refused }

-- Whether a line was refused or wrong.
abbrev pub either : (wrong refused : Option Tally) → Bool
either None None = false
either None (Some t) = true
either (Some t) refused = true

abbrev pub any : Faults → Bool
any f = either f.wrong f.refused

abbrev pub tally_text : Tally → (how : List ℕ) → List ℕ
tally_text t how =
    cond (t.lines == 1)
    (codes "1 line is " ++ (how ++ (codes " (line " ++ (decimal t.first ++ codes ")"))))
    (decimal t.lines ++ (codes " lines are " ++ (how ++ (codes " (the first is line " ++ (decimal t.first ++ codes ")")))))

-- What is said of both; nothing where there is neither.
abbrev pub both_text : (wrong refused : Option Tally) → List ℕ
both_text None None = []
both_text None (Some r) = tally_text r (codes "refused")
both_text (Some w) None = tally_text w (codes "wrong")
both_text (Some w) (Some r) = tally_text w (codes "wrong") ++ (codes ", " ++ tally_text r (codes "refused"))

abbrev pub faults_text : Faults → List ℕ
faults_text f = both_text f.wrong f.refused

-- The exit status: 1 where a line was wrong, 2 where lines were refused and none was wrong, and otherwise 0.
abbrev pub status : (wrong refused : Option Tally) → ℕ
status None None = 0
status None (Some r) = 2
status (Some w) refused = 1

abbrev pub status_of : Faults → ℕ
status_of f = status f.wrong f.refused
