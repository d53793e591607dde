use Rattle.desk.proofs.view.check.Goals as goal

pub returns-in-Draft-clause-step : goal.returns-in-Draft-clause-step
returns-in-Draft-clause-step c = rw c.in-Draft.is c.check.ensures.step

pub returns-in-Fitted-clause-step : goal.returns-in-Fitted-clause-step
returns-in-Fitted-clause-step c = rw c.in-Fitted.is c.check-in-Fitted.ensures.step
