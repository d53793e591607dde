use Rattle.std.proofs.Common.{◌≡◌, ◌^◌, ◌<◌, map, None, refl, sym, ◌∙◌, arith}
use Rattle.rows.specs.Records.{row_of}
use Rattle.rows.specs.declared.row.Row.TheVariants as row
use Rattle.wording.proofs.Beside.{told_again, back_to_straight, back_to_curve}
use Rattle.wording.proofs.neighbours.last_curve.Goals as goal

pub loop-record-init : goal.loop-record-init
loop-record-init c = (told_again 0 (map row_of c.args.rows.now) None refl, omega arith)

pub loop-record-preserved : goal.loop-record-preserved
loop-record-preserved c =
    let s = c.in-Straight.straight in
    let is : row_of c.in-Some.record.now ≡ row.Straight s = sym c.read.ensures ∙ c.in-Straight.is in
    let back = back_to_straight c.loop-record.rest.now c.in-Some.before.now c.in-Some.record.now s c.loop-record.run c.in-Some.ensures.cases.0 is in
    (rw c.saturating_add-run.ensures (sym back ∙ c.loop-record.invariant.0), omega arith)

pub returns-in-Curve : goal.returns-in-Curve
returns-in-Curve c =
    let curve = c.in-Curve.curve in
    let is : row_of c.in-Some.record.now ≡ row.Curve curve = sym c.read.ensures ∙ c.in-Curve.is in
    let low : c.loop-record.run < 2 ^ 64 = c.loop-record.invariant.1 in
    sym (back_to_curve c.loop-record.rest.now c.in-Some.before.now c.in-Some.record.now curve c.loop-record.run c.in-Some.ensures.cases.0 is low)
    ∙ c.loop-record.invariant.0
