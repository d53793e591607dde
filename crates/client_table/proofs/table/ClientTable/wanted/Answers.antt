use Rattle.std.proofs.Common.{◌≡◌, ◌∙◌, map, sym, max, rules}
use borrow.Author.Tests.{tests}
use Rattle.std.specs.List.{reduce}
use Rattle.std.proofs.lemmas.Iterator.{YieldsList-from_slice, YieldsList-from_map}
use Rattle.std.proofs.lemmas.Iterator.Consumers.{max_from_yields_List}
use Rattle.std.proofs.lemmas.Iterator.Adapters.{option_map_id}
use Rattle.client_table.specs.Tables.{read, wanted}
use Rattle.client_table.proofs.Whole.{largest_wanted}
use Rattle.client_table.proofs.table.ClientTable.wanted.Goals as goal

pub returns : goal.returns
returns c =
    let radius = c.args.radius in
    let entries = c.args.self.now.entries.now in
    let picked : c.max.result ≡ reduce max (map (λ entry. wanted (read entry) radius) entries) =
    sym (option_map_id _) ∙ max_from_yields_List c.map.result _ c.max.ensures.ran
    (YieldsList-from_map _ (λ entry. wanted (read entry) radius) (YieldsList-from_slice entries cc) c.map.ensures.closure (λ x r q k. search (rules, tests))) in
    rw (c.unwrap_or.ensures, picked) (largest_wanted entries radius)
