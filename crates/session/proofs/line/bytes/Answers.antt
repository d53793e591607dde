use Rattle.std.proofs.Common.{sym, ◌∙◌, append_assoc}
use Rattle.session.proofs.Telling.{comment_left, no_text_left}
use Rattle.session.proofs.line.bytes.Goals as goal

pub returns-in-Err : goal.returns-in-Err
returns-in-Err g c = comment_left c.args.line c.args.desk.now c.args.bytes.now c.in-Err.ensures.cases.0 _ (sym c.is_comment.ensures ∙ c.if-is_comment.true)

pub returns-in_ok-writeln-in-Err-2 : goal.returns-in_ok-writeln-in-Err-2
returns-in_ok-writeln-in-Err-2 g c =
    no_text_left c.args.line c.args.desk.now c.args.bytes.now c.in-Err.ensures.cases.0 _ _ c.valid_up_to-valid.result (c.valid_up_to-valid.ensures ∙ c.in-Err.ensures.valid_len) (sym c.is_comment.ensures ∙ c.if-is_comment.false)
    (simp append_assoc c.in_ok-writeln-in-Err-2.ensures.bytes)
