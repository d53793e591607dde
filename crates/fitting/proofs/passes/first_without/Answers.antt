use Rattle.std.proofs.Common.{refl}
use Rattle.fitting.specs.Passes.{demands, least_asked}
use Rattle.fitting.proofs.InPlace.{decide_none, decide_more, kept_more, least_here}
use Rattle.fitting.proofs.passes.first_without.Goals as goal

pub returns-in-None-clause-decided : goal.returns-in-None-clause-decided
returns-in-None-clause-decided g c =
    decide_none c.args.road.now (g.L.Limit.admitted c.args.limit.now) c.loop-row.row c.loop-row.reach c.read.result c.of-demand.result c.step_kept.result _ _
    c.args.records.now c.loop-row-test.true refl c.read.ensures c.of-demand.ensures c.step_kept.ensures.stepped c.loop-row.invariant.left c.in-None.is

pub loop-row-preserved : goal.loop-row-preserved
loop-row-preserved g c =
    let road = c.args.road.now in
    let admission = g.L.Limit.admitted c.args.limit.now in
    let records = c.args.records.now in
    let inv = c.loop-row.invariant in
    record {
      left =
          decide_more road admission c.loop-row.row c.loop-row.reach c.read.result c.of-demand.result c.step_kept.result _ _ records c.loop-row-test.true refl
          c.read.ensures c.of-demand.ensures c.step_kept.ensures.stepped inv.left c.in-Some.next c.in-Some.is;
      kept =
          kept_more c.loop-row.row (least_asked c.of-demand.result) (demands road admission records) c.loop-row.leasts c.step_kept.new.leasts c.step_kept.ensures.kept
          (least_here road admission c.loop-row.row c.loop-row.reach c.read.result c.of-demand.result c.step_kept.result _ _ records c.loop-row-test.true refl
          c.read.ensures c.of-demand.ensures c.step_kept.ensures.stepped inv.left (least_asked c.of-demand.result) refl)
          inv.kept;
    }
