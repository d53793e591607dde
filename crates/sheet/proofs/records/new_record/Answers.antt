use Rattle.sheet.proofs.Keeps.{numbered}
use Rattle.sheet.proofs.records.new_record.Goals as goal

pub returns-in-Ok : goal.returns-in-Ok
returns-in-Ok c = numbered c.args.position c.args.new c.in-Ok.field-0 c.from-record.result c.in-Ok.ensures c.from-record.ensures
