use Rattle.std.proofs.Common.{◌-◌, true, refl, arith}
use Rattle.findings.specs.Rules.{Admission}
use Rattle.fitting.proofs.InPlace.{raised_short, beside_short, push_more, same_more}
use Rattle.fitting.proofs.Loops.{pushed_all}
use Rattle.fitting.proofs.passes.push_back.Goals as goal

abbrev any : Admission
any place length = true

pub set_lengths-requires : goal.set_lengths-requires
set_lengths-requires c =
    raised_short c.args.road.now any c.loop-row.least_exit c.read.result c.raised-lengths.result (c.raised-lengths.ensures any) c.loop-row.invariant.short

pub loop-row-preserved : goal.loop-row-preserved
loop-row-preserved c =
    let inv = c.loop-row.invariant in
    record {
      short =
          rw c.least_beside-least_exit.ensures.value
          (beside_short c.raised-lengths.result.entry
          (raised_short c.args.road.now any c.loop-row.least_exit c.read.result c.raised-lengths.result (c.raised-lengths.ensures any) inv.short).0);
      same = same_more (c.loop-row.row - 1) _ c.set_lengths.new.stored _ c.loop-row.records c.args.records.now refl c.set_lengths.ensures.same inv.same;
      raised =
          λ admission.
          push_more c.args.road.now admission c.loop-row.row (c.loop-row.row - 1) c.loop-row.least_exit c.least_beside-least_exit.result c.raised-lengths.result
          c.read.result _ c.set_lengths.new.stored _ c.loop-row.records c.args.records.now (omega arith) (omega arith) refl c.read.ensures
          (c.raised-lengths.ensures admission) c.least_beside-least_exit.ensures.value c.set_lengths.ensures.read inv.same (inv.raised admission);
    }

pub returns-clause-lengths : goal.returns-clause-lengths
returns-clause-lengths c =
    λ admission. pushed_all c.loop-row.row c.loop-row.least_exit _ _ _ c.loop-row-test.false (c.loop-row.invariant.raised admission)
