use Rattle.std.proofs.Common.{arith, rules, ◌<◌, length}
use Rattle.std.proofs.lemmas.Result.{err_from_is_err_and}
use Rattle.commands.specs.Said.{Comment}
use Rattle.commands.proofs.NoneSaid.{none_said}
use Rattle.commands.proofs.parse.parse.Goals as goal

pub returns-in_err-command-in_default : goal.returns-in_err-command-in_default
returns-in_err-command-in_default c =
    let ws = c.args.words.now in
    let p = err_from_is_err_and c.from_residual.result c.from_residual.ensures.1 in
    let e = c.in_err-command-in_default.ensures in
    let some : 0 < length ws = search (rules, arith) in
    let no_comment : Comment ws → ⊥ = search rules in
    rw (p.1, p.2) (some, no_comment, e.0, e.1, e.2, none_said ws c.in_err-command-in_default.field-0.0 some e.0 e.1 e.2)
