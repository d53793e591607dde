use Rattle.std.proofs.Common.{refl, arith}
use Rattle.fitting.specs.Demands.{demand}
use Rattle.fitting.proofs.InPlace.{kept_at, started_short, beside_short, asks_is, start_more, started_end, same_more}
use Rattle.fitting.proofs.passes.start.Goals as goal

pub first-lengths-requires : goal.first-lengths-requires
first-lengths-requires g c =
    λ least.
    kept_at c.args.road.now (g.L.Limit.admitted c.args.limit.now) c.loop-row.row least c.get.result c.copied-kept.result c.read.result _ _
    c.loop-row.records c.args.records.now c.args.leasts.now (omega arith) refl c.read.ensures c.loop-row.invariant.same c.requires
    c.get.ensures.lookup.0 c.get.ensures.lookup.1 c.copied-kept.ensures

pub set_lengths-requires : goal.set_lengths-requires
set_lengths-requires g c =
    let row = c.read.result in
    started_short c.args.road.now (g.L.Limit.admitted c.args.limit.now) c.loop-row.least_entry row (demand c.args.road.now (g.L.Limit.admitted c.args.limit.now) row)
    c.first-lengths.result refl c.first-lengths.ensures c.loop-row.invariant.short

pub loop-row-preserved : goal.loop-row-preserved
loop-row-preserved g c =
    let road = c.args.road.now in
    let admission = g.L.Limit.admitted c.args.limit.now in
    let inv = c.loop-row.invariant in
    let row = c.read.result in
    let first = c.first-lengths.ensures in
    record {
      short =
          rw c.least_beside-least_entry.ensures.value
          (beside_short c.first-lengths.result.exit
          (started_short road admission c.loop-row.least_entry row (demand road admission row) c.first-lengths.result refl first inv.short).1);
      same = same_more c.loop-row.row _ c.set_lengths.new.stored _ c.loop-row.records c.args.records.now refl c.set_lengths.ensures.same inv.same;
      written =
          start_more road admission c.loop-row.row c.loop-row.least_entry c.least_beside-least_entry.result c.first-lengths.result row
          (demand road admission row) _ c.set_lengths.new.stored _ c.loop-row.records c.args.records.now _ (omega arith) refl c.read.ensures refl first
          (asks_is road admission c.loop-row.least_entry c.least_beside-least_entry.result row c.first-lengths.result first c.least_beside-least_entry.ensures.value)
          c.set_lengths.ensures.read inv.same inv.written;
    }

pub returns-clause-lengths : goal.returns-clause-lengths
returns-clause-lengths g c =
    started_end c.args.road.now (g.L.Limit.admitted c.args.limit.now) c.loop-row.row c.loop-row.least_entry c.loop-row.records c.args.records.now _
    (omega arith) c.loop-row.invariant.same c.loop-row.invariant.written
