use Rattle.std.proofs.Common.{◌≡◌, ◌+◌, map, drop}
use Rattle.rows.specs.Records.{row_of}
use Rattle.wording.specs.Beside.{next_curve}
use Rattle.wording.proofs.neighbours.first_curve.Given as goal

-- What is left gives the curve that the whole gives.
abbrev pub invariant-loop-offset : goal.invariant-loop-offset
invariant-loop-offset l =
    next_curve l.run (l.from + l.offset) (map row_of (drop l.offset l.rows)) ≡ next_curve 0 l.from (map row_of l.rows)
