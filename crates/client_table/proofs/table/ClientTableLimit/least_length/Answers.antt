use Rattle.std.proofs.Common.{◌≡◌, cond, leb, Some, None, rules}
use borrow.Author.Tests.{tests}
use Rattle.client_table.proofs.Whole.{least_of}
use Rattle.client_table.proofs.table.ClientTableLimit.least_length.Goals as goal

pub returns : goal.returns
returns c =
    let wanted = c.wanted.result in
    let kept : c.filter.result ≡ cond (leb wanted 2_000_000) (Some wanted) None = search (rules, tests) in
    rw kept (least_of c.args.self.now.entries.now c.args.place.now wanted c.wanted.ensures)
