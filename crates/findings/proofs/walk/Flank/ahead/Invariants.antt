use Rattle.std.proofs.Common.{◌≡◌, ◌*◌, ◌≤◌, map, drop}
use Rattle.rows.specs.Records.{row_of}
use Rattle.findings.specs.Walk.{reached}
use Rattle.findings.proofs.walk.Flank.ahead.Given as goal

-- What is left reaches as far as the whole does.
abbrev pub invariant-loop-record : goal.invariant-loop-record
invariant-loop-record l =
    (reached l.run (map row_of (drop l.record-index l.rows)) ≡ reached 0 (map row_of l.rows)) × (l.run ≤ 20_000_000 * l.record-index)
