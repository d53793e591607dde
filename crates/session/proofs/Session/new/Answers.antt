use Rattle.session.proofs.Sheets.{lines_make_history}
use Rattle.session.proofs.Session.new.Goals as goal

pub returns-clause-history : goal.returns-clause-history
returns-clause-history c = lines_make_history

pub returns-in_err-new-clause-history : goal.returns-in_err-new-clause-history
returns-in_err-new-clause-history c = lines_make_history
