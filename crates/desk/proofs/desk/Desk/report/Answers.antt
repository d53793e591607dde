use Rattle.std.proofs.Common.{◌≡◌, Some, Ok, Err, take, refl, sym, ap, ◌∙◌, length, rules}
use Rattle.std.proofs.lemmas.List.{with_items_is}
use Rattle.series.specs.Calls.{road_of, count_of}
use Rattle.desk.proofs.Reports.{reported, found_below}
use Rattle.desk.proofs.desk.Desk.report.Goals as goal

pub returns-in_ok-write_below-in-Ok : goal.returns-in_ok-write_below-in-Ok
returns-in_ok-write_below-in-Ok g c =
    let desk = c.args.self.now in
    let s = c.in-Some.sheet in
    let is : desk.sheet ≡ Some s = search rules in
    let findings_are = c.as_mut_slice.ensures.value in
    let findings_after = with_items_is desk.findings c.check-found.new.findings (c.check-found.auto.findings ∙ ap length findings_are ∙ sym desk.findings.ok.0) in
    reported c.args.line s desk _ desk.sheet _ (Ok c.in-Ok.count) _ _ _ c.as_slice.result.now c.as_slice-2.result.now c.as_mut_slice.result.now c.check-found.new.findings
    is is refl refl findings_after c.as_slice.ensures.value findings_are c.as_slice-2.ensures.value c.in-Ok.ensures.step c.in-Ok.ensures.rest c.in_ok-write_table.ensures
    (found_below c.args.line (road_of s) desk.limits (take (count_of s) c.as_slice-2.result.now) c.in-Ok.count _ _ _ _ (c.as_slice-in-Ok.ensures.value ∙ findings_after) c.in_ok-write_below-in-Ok.ensures) refl

pub returns-in_ok-writeln-in-Err : goal.returns-in_ok-writeln-in-Err
returns-in_ok-writeln-in-Err g c =
    let desk = c.args.self.now in
    let s = c.in-Some.sheet in
    let is : desk.sheet ≡ Some s = search rules in
    let findings_are = c.as_mut_slice.ensures.value in
    let findings_after = with_items_is desk.findings c.check-found.new.findings (c.check-found.auto.findings ∙ ap length findings_are ∙ sym desk.findings.ok.0) in
    reported c.args.line s desk _ desk.sheet _ (Err c.in-Err.refusal) _ _ _ c.as_slice.result.now c.as_slice-2.result.now c.as_mut_slice.result.now c.check-found.new.findings
    is is refl refl findings_after c.as_slice.ensures.value findings_are c.as_slice-2.ensures.value c.in-Err.ensures.step c.in-Err.ensures.rest c.in_ok-write_table.ensures
    (_, refl, c.in_ok-writeln-in-Err.ensures.bytes) refl
