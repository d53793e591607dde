use Rattle.std.proofs.Common.{sym, ◌∙◌}
use Rattle.rows.specs.declared.row.Row.TheVariants as row
use Rattle.wording.proofs.Decided.{explained_at}
use Rattle.wording.proofs.Found.{found_explained}
use Rattle.wording.proofs.explained.Explained.reason.Goals as goal

pub returns-in-Straight-clause-explains : goal.returns-in-Straight-clause-explains
returns-in-Straight-clause-explains c =
    explained_at c.args.self.now c.in_ok-before.before.now c.in_ok-before.from.now c.in_ok-record.after.now c.in_ok-record.record.now
    (row.Straight c.in-Straight.straight) c.run_reason.result c.in_ok-before.ensures.cases c.in_ok-record.ensures.cases.0
    (sym c.read.ensures ∙ c.in-Straight.is) c.run_reason.ensures

pub returns-in-Curve-clause-explains : goal.returns-in-Curve-clause-explains
returns-in-Curve-clause-explains c =
    explained_at c.args.self.now c.in_ok-before.before.now c.in_ok-before.from.now c.in_ok-record.after.now c.in_ok-record.record.now
    (row.Curve c.in-Curve.curve) c.curve_reason.result c.in_ok-before.ensures.cases c.in_ok-record.ensures.cases.0
    (sym c.read.ensures ∙ c.in-Curve.is) c.curve_reason.ensures

pub returns-in-Straight-clause-found : goal.returns-in-Straight-clause-found
returns-in-Straight-clause-found c = λ admission found. found_explained c.args.self.now admission found c.run_reason.result (returns-in-Straight-clause-explains c)

pub returns-in-Curve-clause-found : goal.returns-in-Curve-clause-found
returns-in-Curve-clause-found c = λ admission found. found_explained c.args.self.now admission found c.curve_reason.result (returns-in-Curve-clause-explains c)
