use Rattle.desk.proofs.Prints.{rows_next}
use Rattle.desk.proofs.view.View.write_rows.Goals as goal

pub loop-position-preserved : goal.loop-position-preserved
loop-position-preserved g c =
    rows_next _ _ _ c.records-record-items.result.now c.loop-position.position _ c.read.result c.loop-position-test.true c.read.ensures c.loop-position.invariant c.in_ok-writeln.ensures.bytes
