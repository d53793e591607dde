use Rattle.std.proofs.Common.{◌≡◌, [], length, sym, ◌∙◌, rules}
use Rattle.std.proofs.lemmas.Grind.{put_two}
use Rattle.std.proofs.lemmas.Iterator.{YieldsList-from_chars, YieldsList-from_take}
use Rattle.std.proofs.lemmas.Iterator.Consumers.{YieldsList-end}
use Rattle.std.proofs.lemmas.List.{flat_map_more, map-id}
use Rattle.std.proofs.lemmas.Str.{chars_from_encodes}
use Rattle.std.specs.Str.{chars}
use Rattle.text.specs.Shown.{shown_char}
use Rattle.commands.proofs.ShownWords.{shown_front, shown_whole}
use Rattle.commands.proofs.mistake.write_short.Goals as goal

pub loop-c-preserved : goal.loop-c-preserved
loop-c-preserved g c = λ plain.
    let so_far = c.loop-c.invariant plain in
    put_two _ _ _ _ _ _ _ so_far (c.fmt.ensures.writes so_far.plain (search rules)) (flat_map_more shown_char [] c.loop-c.yielded c.in-Some.c)

pub returns-in_ok-write_str : goal.returns-in_ok-write_str
returns-in_ok-write_str g c =
    let word = c.args.word.now in
    let cs = c.loop-c.yielded in
    let count : c.count.result ≡ length (chars word) = search (rules, chars_from_encodes) in
    let all = YieldsList-end (YieldsList-from_take 40 (YieldsList-from_chars word c.utf8.word (cc)) (cc)) cs _ c.loop-c.yielded_by _ _ c.in-None.is c.next.ensures.steps in
    λ plain ok.
    let so_far = c.loop-c.invariant plain in
    put_two _ _ _ _ _ _ _ so_far (c.write_str.ensures.writes so_far.plain (search rules)) (shown_front word cs (sym (map-id cs) ∙ all.0) (search rules))

pub returns-else-count-gt-MOST_SHOWN : goal.returns-else-count-gt-MOST_SHOWN
returns-else-count-gt-MOST_SHOWN g c =
    let word = c.args.word.now in
    let cs = c.loop-c.yielded in
    let count : c.count.result ≡ length (chars word) = search (rules, chars_from_encodes) in
    let all = YieldsList-end (YieldsList-from_take 40 (YieldsList-from_chars word c.utf8.word (cc)) (cc)) cs _ c.loop-c.yielded_by _ _ c.in-None.is c.next.ensures.steps in
    λ plain ok. rw (← shown_whole word cs (sym (map-id cs) ∙ all.0) (search rules)) (c.loop-c.invariant plain)
