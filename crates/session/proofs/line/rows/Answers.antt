use Rattle.std.proofs.Common.{refl}
use Rattle.commands.specs.declared.name.Name.TheVariants as name
use Rattle.answers.specs.declared.verdict.Verdict.TheVariants.{Wrong}
use Rattle.session.specs.Lines.{RowsLeft}
use Rattle.session.proofs.Telling.{not_open}
use Rattle.session.proofs.line.rows.Goals as goal

pub returns-in-Err : goal.returns-in-Err
returns-in-Err g c =
    let desk = c.args.desk.now in
    not_open c.args.line name.Rows (λ o text. RowsLeft c.args.line desk desk text Wrong o) _ _ (refl, refl, refl) desk.sheet c.in-Err.no_road c.in-Err.ensures c.in_ok-writeln.ensures.bytes
