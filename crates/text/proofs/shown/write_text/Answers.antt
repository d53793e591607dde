use Rattle.std.proofs.Common.{[], sym, ◌∙◌, rules}
use Rattle.std.proofs.lemmas.Grind.{put_two}
use Rattle.std.proofs.lemmas.Iterator.{YieldsList-from_chars}
use Rattle.std.proofs.lemmas.Iterator.Consumers.{YieldsList-end}
use Rattle.std.proofs.lemmas.List.{flat_map_more, map-id}
use Rattle.text.specs.Shown.{shown_char}
use Rattle.text.proofs.shown.write_text.Goals as goal

pub loop-c-preserved : goal.loop-c-preserved
loop-c-preserved g c = λ plain.
    let so_far = c.loop-c.invariant plain in
    put_two _ _ _ _ _ _ _ so_far (c.write_char.ensures so_far.plain (search rules)) (flat_map_more shown_char [] c.loop-c.yielded c.in-Some.c)

pub returns : goal.returns
returns g c =
    let text = c.args.text.now in
    let cs = c.loop-c.yielded in
    let all = YieldsList-end (YieldsList-from_chars text c.utf8.text (cc)) cs _ c.loop-c.yielded_by _ _ c.in-None.is c.next.ensures.steps in
    λ plain ok. rw (← (sym (map-id cs) ∙ all.0)) (c.loop-c.invariant plain)
