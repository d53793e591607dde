use Rattle.std.proofs.Common.{sym, ◌∙◌}
use Rattle.fitting.proofs.Whole.{fits_none, fits_all}
use Rattle.fitting.proofs.fit.Goals as goal

pub returns-in-Some : goal.returns-in-Some
returns-in-Some g c =
    fits_none c.args.road.now (g.L.Limit.admitted c.args.limit.now) (g.L.Limit.lawful c.args.limit.now) c.args.records.now c.in-Some.row
    (sym c.in-Some.is ∙ c.first_without.ensures.decided)

pub start-requires : goal.start-requires
start-requires g c = c.first_without.ensures.kept c.in_default.is

pub returns : goal.returns
returns g c =
    let admission = g.L.Limit.admitted c.args.limit.now in
    fits_all c.args.road.now admission (g.L.Limit.lawful c.args.limit.now) c.args.records.now c.start.new.records c.push_back.new.records
    (sym c.in_default.is ∙ c.first_without.ensures.decided) c.start.ensures.same c.start.ensures.lengths
    c.push_back.ensures.same (c.push_back.ensures.lengths admission)
