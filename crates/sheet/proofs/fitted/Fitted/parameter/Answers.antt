use Rattle.std.proofs.Common.{◌∙◌, ap}
use Rattle.std.proofs.lemmas.Result.{err_from_is_err_and}
use Rattle.rows.specs.Records.{row_of}
use Rattle.sheet.proofs.Measures.{unrecorded, straight, curve}
use Rattle.sheet.proofs.fitted.Fitted.parameter.Goals as goal

pub returns-in_err-record_at : goal.returns-in_err-record_at
returns-in_err-record_at c =
    let p = err_from_is_err_and c.from_residual.result c.from_residual.ensures.1 in
    rw (p.1, p.2) (unrecorded _ _ _ _ c.args.at _ c.in_err-record_at.ensures)

pub returns-in_default : goal.returns-in_default
returns-in_default c =
    let at = c.in_ok-record_at.ensures in
    straight _ _ _ _ _ _ _ at.0 at.1 (c.in_default.ensures ∙ ap row_of at.2)

pub returns : goal.returns
returns c =
    let at = c.in_ok-record_at.ensures in
    curve _ _ _ _ _ _ _ _ at.0 at.1 (c.in-Curve.ensures ∙ ap row_of at.2) (rw c.length_at.ensures at c.clothoid_parameter.ensures)
