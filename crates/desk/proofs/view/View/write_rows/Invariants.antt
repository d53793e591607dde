use Rattle.std.proofs.Common.{map, take}
use Rattle.std.specs.Io.KnownBytes.{Appends}
use Rattle.rows.specs.Records.{row_of}
use Rattle.desk.specs.Texts.{rows_text}
use Rattle.desk.proofs.view.View.write_rows.Given as goal

abbrev pub invariant-loop-position : goal.invariant-loop-position
invariant-loop-position g l = Appends (g.W.Write.contents l.initial.out) (g.W.Write.contents l.out) (rows_text 0 (map row_of (take l.position l.record-items)))
