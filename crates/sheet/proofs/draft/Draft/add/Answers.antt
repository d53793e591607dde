use Rattle.std.proofs.Common.{length, ap, arith, rules}
use Rattle.std.proofs.lemmas.Result.{err_from_is_err_and}
use Rattle.sheet.proofs.Errors.{given_err, given_ok, not_inserted}
use Rattle.sheet.proofs.Keeps.{numbers_refused, room_refused, added}
use Rattle.sheet.proofs.draft.Draft.add.Goals as goal

pub returns-in_err-record : goal.returns-in_err-record
returns-in_err-record c =
    let p = err_from_is_err_and c.from_residual.result c.from_residual.ensures.1 in
    rw (p.1, p.2) (numbers_refused _ c.args.position c.args.new c.in_err-record.field-0.0 _ c.in_err-record.ensures)

pub returns-then-position-self : goal.returns-then-position-self
returns-then-position-self c = room_refused _ c.args.position c.args.new _ _ c.in_ok-record.ensures.0 c.no_room.ensures

-- the roll has a spare slot
pub returns-in_err-map_err : goal.returns-in_err-map_err
returns-in_err-map_err c =
    let given = given_err c.map_err.result _ c.insert.result c.map_err.ensures.cases _ c.in_err-map_err.was in
    let refused = not_inserted c.over-roll.result c.insert.new.self c.args.position c.in_ok-record.record given.0 (omega arith) (rw given.1 at c.insert.ensures.edit) in
    absurd (omega (arith, refused.0, ap length c.over-roll.ensures.slots, c.over-roll.ensures.count))

pub returns : goal.returns
returns c =
    let given = given_ok c.map_err.result _ c.insert.result c.map_err.ensures.cases _ c.in_ok-map_err.was in
    let inserted = rw given at c.insert.ensures.edit in
    let (row, is, kept) = c.in_ok-record.ensures.1 in
    added _ _ _ _ _ c.args.new row c.in_ok-record.record c.in_ok-record.ensures.0 is (omega arith) (omega arith) (omega arith)
    (search rules) kept (search rules)
