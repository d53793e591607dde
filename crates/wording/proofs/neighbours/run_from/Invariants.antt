use Rattle.std.proofs.Common.{◌≡◌, map, drop}
use Rattle.rows.specs.Records.{row_of}
use Rattle.wording.specs.Beside.{run_on}
use Rattle.wording.proofs.neighbours.run_from.Given as goal

-- What is left goes on to the length of the whole.
abbrev pub invariant-loop-record : goal.invariant-loop-record
invariant-loop-record l = run_on l.run (map row_of (drop l.record-index l.after)) ≡ run_on l.fn.straight.length (map row_of l.after)
