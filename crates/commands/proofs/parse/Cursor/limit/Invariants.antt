use Rattle.std.proofs.Common.{length, ◌-◌, ◌≡◌, ◌+◌, ◌<◌}
use Rattle.commands.specs.Mistakes.{NamesBefore}
use Rattle.commands.proofs.parse.Cursor.limit.Given as goal

-- the words so far are names
abbrev pub invariant-loop-self : goal.invariant-loop-self
invariant-loop-self l = (l.self.words ≡ l.fn.self.words) × (1 < l.self.at) × NamesBefore l.fn.self.words.now (l.self.at + 1)

abbrev pub decreases-loop-self : goal.decreases-loop-self
decreases-loop-self l = length l.self.words.now - l.self.at
