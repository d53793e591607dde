use Rattle.std.proofs.Common.{length, drop, take, ◌-◌}
use Rattle.session.proofs.Telling.{words_more}
use Rattle.session.proofs.line.write_words.Goals as goal

pub loop-word-preserved : goal.loop-word-preserved
loop-word-preserved g c = words_more _ _ _ (take (length c.args.words.now - 1) (drop 1 c.args.words.now)) c.loop-word.word-index _ c.loop-word-test.true c.loop-word.invariant c.in_ok-write-2.ensures.bytes
