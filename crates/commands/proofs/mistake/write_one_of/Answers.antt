use Rattle.std.proofs.Common.{refl, rules, arith}
use Rattle.std.proofs.lemmas.Grind.{put_two}
use Rattle.commands.proofs.ShownWords.{choice_more, first_and_rest}
use Rattle.commands.proofs.mistake.write_one_of.Goals as goal

pub loop-left-preserved : goal.loop-left-preserved
loop-left-preserved g c = λ plain.
    let so_far = c.loop-left.invariant plain in
    let word = put_two _ _ _ _ _ _ _ so_far.1 (c.write_str.ensures.writes so_far.1.plain (search rules)) refl in
    let after = put_two _ _ _ _ _ _ _ word (c.write_str-in-len1-up.ensures.writes word.plain (search rules)) refl in
    (_, rw c.separator.ensures at after, choice_more (λ entry. entry.1.now) c.loop-left.left.now _ _ _ _ (first_and_rest c.loop-left.left.now _ (search (rules, arith))) so_far.2)
