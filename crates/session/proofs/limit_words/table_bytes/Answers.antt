use Rattle.std.proofs.Common.{◌≤◌, length, arith}
use Rattle.session.proofs.Naming.{whole}
use Rattle.session.proofs.limit_words.table_bytes.Goals as goal

pub returns : goal.returns
returns g c =
    let remaining = g.R.Read.remaining c.args.reader in
    let few : length c.read_to_end.new.buf.items ≤ 64_000_000 = omega (arith, c.if-len-gt-LARGEST_TABLE.false, c.len.ensures, c.read_to_end.new.buf.ok.0) in
    record {
      few = few;
      all = whole remaining c.read_to_end.new.buf.items (rw (c.take.ensures.limit, c.take.ensures.inner, c.new-bytes.ensures.items) at c.in_ok-read_to_end.ensures.bytes) few;
    }
