use Rattle.std.proofs.Common.{◌≡◌, take, drop}
use Rattle.std.specs.Str.Iter.{split_whitespace_rest}
use Rattle.text.specs.Words.{Split}
use Rattle.text.proofs.words.words_of.Given as goal

-- the places so far hold the first words of the line, and the others are as they were
abbrev pub invariant-loop-count : goal.invariant-loop-count
invariant-loop-count l =
    Split l.line (take l.count l.words) (split_whitespace_rest l.left) × (drop l.count l.words ≡ drop l.count l.initial.words)
