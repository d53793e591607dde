use Rattle.std.proofs.Common.{◌≢◌, [], Some, sym, ◌∙◌, subst}
use Rattle.std.proofs.lemmas.Result.{on_ok_weaker}
use Rattle.session.specs.Inputs.{LineDone}
use Rattle.clothoid.proofs.Reading.{same_line, last_done}
use Rattle.clothoid.proofs.reader.answer_last.Goals as goal

pub returns : goal.returns
returns g c =
    let some : c.args.pending.now ≢ Some [] = λ e. cc (c.is_empty.ensures.1 e, c.if-is_empty.false) in
    on_ok_weaker c.line-2.result (λ done. (
      done.0,
      last_done c.args.stop c.args.pending.now c.args.session.now c.line-2.new.self done.0 some (sym c.stops.ensures ∙ c.if-stops.false)
          (subst (λ l. LineDone l c.args.session.now c.line-2.new.self done.0) (same_line c.line.result c.args.pending.now c.line.ensures.line) done.1),
      done.2,
    )) c.line-2.ensures
