use Rattle.std.proofs.Common.{refl, ap, ◌∙◌, arith, rules}
use Rattle.rows.specs.Records.{row_of}
use Rattle.std.proofs.lemmas.Result.{err_from_is_err_and}
use Rattle.sheet.proofs.Keeps.{halted, relengthened, no_record, no_curve}
use Rattle.sheet.proofs.draft.Draft.set_lengths.Goals as goal

pub returns-then-entry-gt-LONGEST_CLOTHOID : goal.returns-then-entry-gt-LONGEST_CLOTHOID
returns-then-entry-gt-LONGEST_CLOTHOID c = halted _ _ 6 _ (search rules)

pub returns-in_err-record_at : goal.returns-in_err-record_at
returns-in_err-record_at c =
    let p = err_from_is_err_and c.from_residual.result c.from_residual.ensures.1 in
    rw (p.1, p.2) (no_record _ _ _ c.args.rows.now c.args.row c.args.entry c.args.exit _ (omega arith) (omega arith) c.in_err-record_at.ensures)

pub returns-in_default : goal.returns-in_default
returns-in_default c =
    let at = c.in_ok-record_at.ensures in
    no_curve _ _ _ c.args.rows.now _ _ _ c.in_default.field-0 _ (omega arith) (omega arith) at.0 at.1 (c.in_default.ensures ∙ ap row_of at.2)

pub returns : goal.returns
returns c =
    let at = c.in_ok-record_at.ensures in
    relengthened _ _ _ _ _ _ _ c.in-Curve.curve _ (omega arith) (omega arith) at.0 at.1 (c.in-Curve.ensures ∙ ap row_of at.2) refl
