use Rattle.std.proofs.Common.{subst}
use Rattle.clothoid.proofs.Reading.{AllOf, all_of, input_done}
use Rattle.clothoid.proofs.reader.answer_all.Goals as goal

pub returns : goal.returns
returns g c =
    let known = g.R.Read.remaining c.args.reader.now in
    let old = g.W.Write.contents c.args.out.now in
    let half = g.W.Write.contents c.answer_ended.new.out in
    let ended = all_of c.args.stop known c.new-pending.result c.in_ok-session.session old c.answer_ended.new.pending c.answer_ended.new.session half c.in_ok-answer_ended.ensures.lines c.in_ok-answer_ended.ensures.rest in
    let last = c.in_ok-answer_last.ensures in
    rw c.faults.ensures
    (input_done c.args.stop known c.in_ok-session.session old c.answer_ended.new.pending c.answer_ended.new.session half c.answer_last.new.session _ (g.W.Write.contents c.flush.new.self) last.0 c.in_ok-session.ensures.begun
    (subst (λ begun. AllOf c.args.stop known begun c.in_ok-session.session old c.answer_ended.new.pending c.answer_ended.new.session half) c.new-pending.ensures ended) last.1 last.2 c.flush.ensures.bytes)
