use Rattle.std.proofs.Common.{take}
use Rattle.std.specs.Io.KnownBytes.{Appends}
use Rattle.std.specs.List.{flat_map}
use Rattle.session.specs.LimitWords.{spaced}
use Rattle.session.proofs.line.write_words.Given as goal

abbrev pub invariant-loop-word : goal.invariant-loop-word
invariant-loop-word g l = Appends (g.W.Write.contents l.initial.out) (g.W.Write.contents l.out) (flat_map spaced (take l.word-index l.rest))
