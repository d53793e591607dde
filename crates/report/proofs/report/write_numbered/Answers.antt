use Rattle.report.proofs.Tables.{numbered_next}
use Rattle.report.proofs.report.write_numbered.Goals as goal

pub loop-at-preserved : goal.loop-at-preserved
loop-at-preserved g c =
    numbered_next _ _ _ c.args.limits.now c.loop-at.at c.index-limits-at.result c.loop-at-test.true c.index-limits-at.is c.loop-at.invariant
    (rw c.name-name.ensures at c.in_ok-write.ensures.bytes)
