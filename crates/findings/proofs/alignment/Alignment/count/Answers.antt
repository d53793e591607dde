use Rattle.std.proofs.Common.{rules, refl, ◌∙◌, arith}
use borrow.Author.Tests.{tests}
use Rattle.std.proofs.lemmas.Iterator.{YieldsList-from_map}
use Rattle.std.proofs.lemmas.Iterator.Consumers.{YieldsList-from_first, YieldsList-at, sum_by_from_yields_List}
use Rattle.std.proofs.lemmas.Iterator.Adapters.{fits_from_length, at_most_from_yields_List}
use Rattle.findings.specs.Alignments.{left, all_rows}
use Rattle.findings.specs.Walk.{counted, kinds}
use Rattle.findings.proofs.Steps.{counted_from, left_few}
use Rattle.findings.proofs.alignment.Alignment.count.Goals as goal

pub sum-requires-clause-fits : goal.sum-requires-clause-fits
sum-requires-clause-fits g c =
    let rows = YieldsList-from_first (λ x. x) (left g.L.Limit.admitted) (left g.L.Limit.admitted c.walk.result) refl in
    fits_from_length _ _ 4_000 _ (at_most_from_yields_List (YieldsList-at c.map.ensures.source rows) (left_few g.L.Limit.admitted c.walk.result))
    c.map.ensures.closure (omega arith) (λ x r q k. search (rules, tests))

pub returns : goal.returns
returns g c =
    let road = c.args.self.now.road.now in
    let all = all_rows g.L.Limit.admitted c.args.self.now in
    sum_by_from_yields_List (λ at. counted road at kinds) all _ _ c.sum.ensures.ran
    (YieldsList-from_map _ (λ at. counted road at kinds)
    (YieldsList-at c.map.ensures.source (YieldsList-from_first (λ x. x) (left g.L.Limit.admitted) all c.walk.ensures)) c.map.ensures.closure
    (λ x r q k. search (rules, tests)))
    ∙ counted_from road 0 all
