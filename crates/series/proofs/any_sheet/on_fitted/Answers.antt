use Rattle.sheet.specs.States.{fitted_in}
use Rattle.plain.specs.Sheet.{meaning}
use Rattle.series.proofs.Spaces.{checked, kept}
use Rattle.series.proofs.any_sheet.on_fitted.Goals as goal

pub returns-in-Check-clause-step : goal.returns-in-Check-clause-step
returns-in-Check-clause-step g c =
    rw c.in-Check.is (checked (fitted_in c.args.fitted c.args.rows.now) (meaning g.L.Limit.admitted g.L.Limit.lawful c.in-Check.limit) c.args.findings.now _ _ c.in-Check.space c.min-space.ensures _ _ c.check_outcome.ensures c.check-result.ensures.rest c.check-result.ensures.step)

pub returns-in-Check-clause-rest : goal.returns-in-Check-clause-rest
returns-in-Check-clause-rest g c =
    kept (fitted_in c.args.fitted c.args.rows.now) (meaning g.L.Limit.admitted g.L.Limit.lawful c.in-Check.limit) c.args.findings.now _ _ c.in-Check.space c.min-space.ensures _ _ c.check_outcome.ensures c.check-result.ensures.rest
