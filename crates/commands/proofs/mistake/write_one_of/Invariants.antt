use Rattle.std.proofs.Common.{◌≡◌, ℕ, List, ◌++◌, map, length}
use Rattle.std.specs.Fmt.{HasWritten, IsPlainFormatter}
use Rattle.commands.specs.Shown.{one_of}
use Rattle.commands.proofs.mistake.write_one_of.Given as goal

-- what is left is what the words written lack of the whole
abbrev pub invariant-loop-left : goal.invariant-loop-left
invariant-loop-left g l =
    IsPlainFormatter l.initial.f
    → (front : List ℕ) × HasWritten g.W.Write.write_str_gives l.initial.f front l.f
    × (one_of (map (λ entry. entry.1.now) l.fn.named) ≡ front ++ one_of (map (λ entry. entry.1.now) l.left))

abbrev pub decreases-loop-left : goal.decreases-loop-left
decreases-loop-left g l = length l.left
