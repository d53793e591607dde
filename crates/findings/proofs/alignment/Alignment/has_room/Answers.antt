use Rattle.findings.proofs.Whole.{room_for_all}
use Rattle.findings.proofs.alignment.Alignment.has_room.Goals as goal

pub returns-then-self-slots : goal.returns-then-self-slots
returns-then-self-slots g c =
    room_for_all c.args.self.now.road.now (g.L.Limit.admitted c.args.self.now.limit.now) c.args.self.now.rows.now c.args.slots c.if-self-slots.true
