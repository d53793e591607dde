use Rattle.std.proofs.Common.{length, map, take}
use Rattle.plain.specs.Sheet.{meaning}
use Rattle.series.specs.Calls.{stands}
use Rattle.series.specs.Histories.{lent_call}
use Rattle.series.proofs.Carried.{Sofar}
use Rattle.series.proofs.any_sheet.Sheet.carry_out.Given as goal

abbrev pub invariant-loop-request : goal.invariant-loop-request
invariant-loop-request g l =
    Sofar g.W.Watcher.sees (map (lent_call (meaning g.L.Limit.admitted g.L.Limit.lawful) (length l.fn.rows) (length l.fn.findings)) (take l.request-index l.requests))
    l.fn.watcher l.watcher l.fn.findings l.findings (stands l.fn.self l.fn.rows) (stands l.sheet l.rows)
