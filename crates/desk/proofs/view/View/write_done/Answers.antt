use Rattle.std.proofs.Common.{length, ◌++◌, ap}
use Rattle.answers.specs.declared.line_answer.LineAnswer.TheVariants.{Fitted}
use Rattle.answers.specs.Shown.{answer_text}
use Rattle.report.specs.Tables.{as_line}
use Rattle.report.proofs.Tables.{append_both}
use Rattle.desk.proofs.Prints.{then_ok}
use Rattle.desk.proofs.view.View.write_done.Goals as goal

pub returns-in_ok-writeln-in-Fit : goal.returns-in_ok-writeln-in-Fit
returns-in_ok-writeln-in-Fit g c =
    rw c.in-Fit.is
    (then_ok c.write_set_out.result
    (λ listed. (
      as_line (answer_text (Fitted (length c.records-count.result.now))) ++ listed.0,
      (listed.0, listed.1, ap (λ n. as_line (answer_text (Fitted n)) ++ listed.0) c.records-count.ensures.number),
      append_both _ _ _ _ _ c.in_ok-writeln-in-Fit.ensures.bytes listed.2,
    ))
    c.write_set_out.ensures)
