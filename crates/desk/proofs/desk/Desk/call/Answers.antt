use Rattle.std.proofs.Common.{◌≡◌, Some, refl, sym, ap, ◌∙◌, length, rules}
use Rattle.std.proofs.lemmas.List.{with_items_is}
use Rattle.series.specs.Calls.{asked, told, found_in, count_of}
use Rattle.series.proofs.Carried.{over_by}
use Rattle.desk.specs.Calls.{meant, asks}
use Rattle.desk.proofs.Calls.{calls}
use Rattle.desk.proofs.desk.Desk.call.Goals as goal

pub returns : goal.returns
returns g c =
    let desk = c.args.self.now in
    let s = c.in-Some.sheet in
    let is : desk.sheet ≡ Some s = search rules in
    let rows_are = c.as_mut_slice.ensures.value in
    let findings_are = c.as_mut_slice-2.ensures.value in
    let rows_after = with_items_is desk.rows c.step-sheet.new.rows (c.step-sheet.auto.rows ∙ ap length rows_are ∙ sym desk.rows.ok.0) in
    let findings_after = with_items_is desk.findings c.step-sheet.new.findings (c.step-sheet.auto.findings ∙ ap length findings_are ∙ sym desk.findings.ok.0) in
    let space = c.len.ensures ∙ desk.findings.ok.0 in
    let spaces = ap length findings_are ∙ sym space in
    let asks_so = ap (λ n. asked meant n (count_of s) c.call_of-call.result) spaces ∙ c.call_of-call.ensures (count_of s) ∙ ap (λ n. asks desk.limits n (count_of s) c.args.command) space in
    let found = c.found_in-found.ensures ∙ ap (λ memory. found_in c.step-sheet.result.1 memory) (c.as_slice-2.ensures.value ∙ findings_after) in
    calls c.args.line c.args.command s c.step-sheet.result.0 desk _ desk.sheet _ (told c.step-sheet.result.1 _) c.verdict.result _ _ c.as_mut_slice.result.now c.step-sheet.new.rows c.as_slice.result.now c.as_mut_slice-2.result.now c.step-sheet.new.findings
    is refl refl rows_after findings_after rows_are findings_are c.as_slice.ensures.value asks_so c.step-sheet.ensures.step
    (over_by c.step-sheet.result.1 c.as_mut_slice-2.result.now c.step-sheet.new.findings c.step-sheet.ensures.rest)
    (c.verdict.ensures _) (rw found at c.in_ok-written.ensures)
