use Rattle.std.proofs.Common.{◌≡◌, ◌∙◌, sym, subst, false, leb, rules}
use borrow.Author.Tests.{tests}
use Rattle.std.proofs.lemmas.Bool.{cond-true, le-leb}
use Rattle.std.proofs.lemmas.Iterator.{YieldsList-from_slice}
use Rattle.std.proofs.lemmas.Iterator.Search.{all_from_yields_List}
use Rattle.client_table.specs.Tables.{read, allows, each_allows, table, ByEntries}
use Rattle.client_table.proofs.Whole.{by_entries}
use Rattle.client_table.proofs.table.ClientTableLimit.admits.Goals as goal

is_table : (c : goal.After-all) → c.all.result ≡ table c.args.self.now.entries.now c.args.place.now c.args.length
is_table c =
    let radius = c.args.place.now.radius in
    let length = c.args.length in
    let entries = c.args.self.now.entries.now in
    let asked = all_from_yields_List (λ entry. allows (read entry) radius length) _ _ c.all.result c.all.ensures.ran (YieldsList-from_slice entries cc) (λ x b q k. search (rules, tests)) in
    asked ∙ sym (cond-true (leb length 2_000_000) (each_allows entries radius length) false (le-leb length 2_000_000 c.if-length-le-LONGEST_CLOTHOID.true))

pub returns-then-length-le-LONGEST_CLOTHOID-clause-set : goal.returns-then-length-le-LONGEST_CLOTHOID-clause-set
returns-then-length-le-LONGEST_CLOTHOID-clause-set c = is_table c

pub returns-then-length-le-LONGEST_CLOTHOID-clause-entries : goal.returns-then-length-le-LONGEST_CLOTHOID-clause-entries
returns-then-length-le-LONGEST_CLOTHOID-clause-entries c =
    let entries = c.args.self.now.entries.now in
    let place = c.args.place.now in
    subst (ByEntries entries place c.args.length) (sym (is_table c)) (by_entries entries place c.args.length)
