use Rattle.std.proofs.Common.{ℕ, List, map, take}
use Rattle.std.specs.Io.KnownBytes.{Appends}
use Rattle.rows.specs.Records.{row_of}
use Rattle.desk.specs.Texts.{SetOutList}
use Rattle.desk.proofs.view.View.write_set_out.Given as goal

abbrev pub invariant-loop-position : goal.invariant-loop-position
invariant-loop-position g l =
    (text : List ℕ) × SetOutList 0 (map row_of (take l.position l.record-items)) text × Appends (g.W.Write.contents l.initial.out) (g.W.Write.contents l.out) text
