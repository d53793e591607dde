use Rattle.std.proofs.Common.{◌≡◌, ℕ, List, ◌++◌, length}
use Rattle.clothoid.proofs.Reading.{Answered}
use Rattle.clothoid.proofs.reader.answer_chunk.Given as goal

-- the lines that end in the front of the chunk are answered, and nothing is pending but what stood behind them
abbrev pub invariant-loop-line : goal.invariant-loop-line
invariant-loop-line g l =
    (front : List ℕ) × (l.chunk ≡ front ++ l.rest) × Answered l.stop l.initial.pending l.initial.session (g.W.Write.contents l.initial.out) front l.pending l.session (g.W.Write.contents l.out)

abbrev pub decreases-loop-line : goal.decreases-loop-line
decreases-loop-line g l = length l.rest
