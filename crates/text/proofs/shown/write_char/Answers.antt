use Rattle.std.proofs.Common.{◌++◌, append_assoc, append-nil, ap, sym, ◌∙◌, rules}
use Rattle.std.proofs.lemmas.Grind.{put_two}
use Rattle.std.proofs.lemmas.Str.{encodes-append}
use Rattle.text.proofs.shown.write_char.Goals as goal

pub loop-e-preserved : goal.loop-e-preserved
loop-e-preserved g c =
    let at = c.loop-e in (
      search rules,
      tt,
      rw append_assoc (ap (λ l. at.yielded ++ l) (sym c.in-Some.ensures.steps.1.0) ∙ at.invariant.2),
      λ plain.
          let so_far = at.invariant.3 plain in
          put_two _ _ _ _ _ _ _ so_far (c.write_char.ensures.writes so_far.plain (search rules)) (simp (encodes-append, append-nil)),
    )
