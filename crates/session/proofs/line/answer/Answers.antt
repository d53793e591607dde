use Rattle.session.proofs.Telling.{line_of, too_long_left}
use Rattle.session.proofs.line.answer.Goals as goal

pub returns-in_ok-writeln-in-None : goal.returns-in_ok-writeln-in-None
returns-in_ok-writeln-in-None g c = rw c.in-None.is (too_long_left c.args.number c.args.desk.now c.args.first _ _ c.in_ok-writeln-in-None.ensures.bytes)

pub returns-in-Some : goal.returns-in-Some
returns-in-Some g c = rw c.in-Some.is (line_of c.args.number c.args.desk.now c.bytes.new.desk c.args.first c.in-Some.whole.now _ _ _ c.bytes.result (rw c.if-first.true c.without_mark.ensures) c.bytes.ensures)
