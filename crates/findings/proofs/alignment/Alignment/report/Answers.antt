use Rattle.std.proofs.Common.{◌≡◌, length, refl, ap, ◌∙◌, inl, arith}
use Rattle.std.specs.Iterator.Adapters.{enumerate_source, enumerate_count}
use Rattle.findings.specs.Alignments.{left, all_rows}
use Rattle.findings.specs.Walk.{gathered_from}
use Rattle.findings.proofs.Reports.{none_put, more_put, no_room, all_put, refused_put}
use Rattle.findings.proofs.Steps.{left_few, rows_more}
use Rattle.findings.proofs.alignment.Alignment.report.Goals as goal

pub loop-position-init : goal.loop-position-init
loop-position-init g c =
    let admitted = g.L.Limit.admitted in
    let items = c.into_iter-position-iterator.result in
    let made = c.into_iter-position-iterator.ensures.into_iter_gives in
    let source : enumerate_source items ≡ c.walk.result = ap enumerate_source made ∙ c.enumerate-position-items.ensures.source in
    let first : enumerate_count items ≡ 0 = ap enumerate_count made ∙ c.enumerate-position-items.ensures.count in
    let whole : left admitted (enumerate_source items) ≡ all_rows admitted c.args.self.now = ap (left admitted) source ∙ c.walk.ensures in
    let few = left_few admitted (enumerate_source items) in
    (refl, rw (whole, first) (none_put c.args.findings.now _), omega arith, (tt, tt, inl (omega arith)), tt)

pub loop-position-preserved : goal.loop-position-preserved
loop-position-preserved g c =
    let inv = c.loop-position.invariant in
    let done = c.in_ok-report.ensures in
    let steps = c.in-Some.ensures.steps in
    let few = ap length steps.0 in (
      done.same ∙ inv.0,
      more_put c.args.findings.now c.loop-position.findings c.report.new.findings _ _ _ _
          (rows_more c.args.self.now.road.now _ _ _ c.in-Some.at _ _ steps.0 steps.1 steps.2) done.report inv.1,
      omega (arith, few, steps.2, inv.2),
      (tt, tt, inl (omega (arith, few, steps.2, inv.2))),
      tt,
    )

pub returns-in_err-report : goal.returns-in_err-report
returns-in_err-report g c =
    let inv = c.loop-position.invariant in
    let done = c.in_err-report.ensures in
    let steps = c.in-Some.ensures.steps in
    record {
      same = done.same ∙ inv.0;
      report =
          refused_put c.args.findings.now c.report.new.findings _ c.from_residual.result c.from_residual.ensures.0
          (no_room c.args.findings.now c.loop-position.findings _ _ _ _
          (rows_more c.args.self.now.road.now _ _ _ c.in-Some.at _ _ steps.0 steps.1 steps.2) done.report inv.1);
    }

pub returns : goal.returns
returns g c =
    let inv = c.loop-position.invariant in
    let steps = c.in-None.ensures.steps in
    let none = ap (gathered_from c.args.self.now.road.now (enumerate_count c.loop-position.position-iterator)) steps.0.0 in
    record {
      same = inv.0;
      report = all_put c.args.findings.now c.loop-position.findings _ _ none inv.1;
    }
