use Rattle.std.proofs.Common.{◌<◌, length}
use Rattle.clothoid.proofs.Reading.{ReadOf}
use Rattle.clothoid.proofs.reader.answer_ended.Given as goal

abbrev pub invariant-loop : goal.invariant-loop
invariant-loop g l =
    record {
      room : 0 < length l.buffer.items;
      read : ReadOf l.stop (g.R.Read.remaining l.initial.reader) l.initial.pending l.initial.session (g.W.Write.contents l.initial.out) (g.R.Read.remaining l.reader) l.pending l.session (g.W.Write.contents l.out);
    }
