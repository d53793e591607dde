use Rattle.std.proofs.Common.{◌≡◌, refl, rules}
use Rattle.road.specs.declared.refusal.Refusal.TheVariants as number
use Rattle.std.proofs.lemmas.Result.{err_from_is_err_and}
use Rattle.rows.specs.Records.{blank_record}
use Rattle.sheet.proofs.Errors.{given_err, given_ok, not_removed}
use Rattle.sheet.proofs.Keeps.{halted, taken_out, turned_down}
use Rattle.sheet.proofs.draft.Draft.take_out.Goals as goal

pub returns-in_err-records : goal.returns-in_err-records
returns-in_err-records c =
    let p = err_from_is_err_and c.from_residual.result c.from_residual.ensures.1 in
    rw (p.1, p.2, c.in_err-records.ensures.1) (halted _ _ 7 _ (search rules))

pub returns-in_err-map_err : goal.returns-in_err-map_err
returns-in_err-map_err c =
    let p = err_from_is_err_and c.from_residual-in_err-map_err.result c.from_residual-in_err-map_err.ensures.1 in
    let given = given_err c.map_err.result _ c.remove.result c.map_err.ensures.cases _ c.in_err-map_err.was in
    let named : c.in_err-map_err.field-0.0 ≡ number.NoSuchRow c.args.row = search (rules, given.2) in
    let refused = not_removed c.over-roll.result c.remove.new.self c.args.row blank_record given.0 (rw given.1 at c.remove.ensures.edit) in
    rw (p.1, p.2, named) (turned_down _ _ _ _ _ 8 _ (search (rules, c.in_ok-records.ensures.0)) (search rules))

pub returns : goal.returns
returns c =
    let given = given_ok c.map_err.result _ c.remove.result c.map_err.ensures.cases _ c.in_ok-map_err.was in
    let removed = rw given at c.remove.ensures.edit in
    taken_out _ _ _ _ _ _ c.in_ok-records.ensures.0 (search rules) refl (search rules)
