use Rattle.series.proofs.Carried.{just_opened}
use Rattle.series.proofs.any_sheet.Sheet.open.Goals as goal

pub returns : goal.returns
returns c = λ memory. (just_opened c.open.result c.args.road c.open.ensures memory).0
