use Rattle.std.proofs.Common.{sym, subst}
use Rattle.client_table.specs.Tables.{WholeEntries}
use Rattle.client_table.proofs.Chunks.{by_positions}
use Rattle.client_table.proofs.table.ClientTable.of.Goals as goal

pub returns-clause-order : goal.returns-clause-order
returns-clause-order c = subst (WholeEntries c.args.bytes.now) (sym c.as_chunks.ensures.front) (by_positions c.args.bytes.now)
