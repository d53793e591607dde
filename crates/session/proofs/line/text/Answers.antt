use Rattle.std.proofs.Common.{[], Ok, None, take, refl, rules}
use Rattle.text.specs.Words.{Words}
use Rattle.session.proofs.Telling.{nothing_more}
use Rattle.session.proofs.line.text.Goals as goal

pub returns-in-Ok-None : goal.returns-in-Ok-None
returns-in-Ok-None g c =
    let ws = take c.words_of-count.result c.words_of-count.new.words in
    let words : Words 64 c.args.text.now ws = search rules in
    ([], (ws, Ok None, words, rw c.in-Ok-None.field-0-is at c.in-Ok-None.ensures, (refl, refl, refl)), nothing_more _)
