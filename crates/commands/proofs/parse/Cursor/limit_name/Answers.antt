use Rattle.std.proofs.Common.{arith, rules}
use Rattle.std.proofs.lemmas.Grind.{common_steps}
use Rattle.commands.proofs.NameSteps.{name_read, table_read}
use Rattle.commands.proofs.parse.Cursor.limit_name.Goals as goal

pub returns-in_default : goal.returns-in_default
returns-in_default c =
    let read = c.in_ok-operand.ensures.read in
    let next = c.in_ok-operand.ensures.next in
    record {
      read = rw (next.0, next.1) (name_read c.args.self.now.words.now c.args.self.now.at c.in_ok-operand.field-0 c.requires.0 read.1.0 c.requires.2 read.0 c.in_default.not-Table);
      next = search rules;
    }

pub returns-clause-read : goal.returns-clause-read
returns-clause-read c = grind (arith, common_steps, table_read)
