use Rattle.rows.proofs.Fits.{blank_is}
use Rattle.rows.proofs.record.blank.Goals as goal

pub returns : goal.returns
returns c = blank_is _
