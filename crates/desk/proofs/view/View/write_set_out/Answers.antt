use Rattle.desk.proofs.Prints.{set_out_next}
use Rattle.desk.proofs.view.View.write_set_out.Goals as goal

pub loop-position-preserved : goal.loop-position-preserved
loop-position-preserved g c =
    set_out_next _ _ _ c.records-record-items.result.now c.loop-position.position _ c.read.result c.of.result c.loop-position-test.true c.read.ensures c.loop-position.invariant c.of.ensures c.in_ok-writeln.ensures.bytes
