use Rattle.std.proofs.Common.{◌≡◌, ◌+◌, ◌<◌, length, drop, sym, ◌∙◌, subst, ap, rules, inl, inr, arith}
use Rattle.std.proofs.lemmas.Grind.{drop_more_same}
use Rattle.std.proofs.lemmas.List.{take-set, take_more_set, set-get_or, drop-set-lt}
use Rattle.std.proofs.Math.Seq.{take-length}
use Rattle.std.specs.Str.Iter.{split_whitespace_rest}
use Rattle.text.specs.Words.{Split}
use Rattle.text.proofs.WordSplits.{first_of, split_more}
use Rattle.text.proofs.words.words_of.Goals as goal

-- the word that is written is the next of the line, and its place is one of those so far
pub loop-count-preserved : goal.loop-count-preserved
loop-count-preserved c =
    let words = c.loop-count.words in
    let count = c.loop-count.count in
    let room : count < length words = search rules in (
      subst (λ l. Split c.args.line.now l (split_whitespace_rest c.next.new.self))
          (sym (take_more_set words count c.in-Some.word room))
          (split_more c.args.line.now _ c.in-Some.word _ _ c.loop-count.invariant.0 (first_of _ c.in-Some.word.now _ c.in-Some.ensures.steps)),
      drop-set-lt (count + 1) words count c.in-Some.word (omega arith)
          ∙ drop_more_same words c.args.words.now count c.loop-count.invariant.1,
    )

-- no word is left, and the place for one more is as it was
pub returns-in_default-clause-front : goal.returns-in_default-clause-front
returns-in_default-clause-front c = rw take-set (split_whitespace_rest c.loop-count.left, c.loop-count.invariant.0, inl c.in_default.ensures.steps.1)

pub returns-in_default-clause-rest : goal.returns-in_default-clause-rest
returns-in_default-clause-rest c = ap (drop c.loop-count.count) (set-get_or c.loop-count.words c.loop-count.count _) ∙ c.loop-count.invariant.1

-- each place holds a word
pub returns-clause-front : goal.returns-clause-front
returns-clause-front c =
    let full : length c.loop-count.words ≡ c.loop-count.count = search rules in
    (split_whitespace_rest c.loop-count.left, rw full c.loop-count.invariant.0, inr (ap length (take-length c.loop-count.words)))
