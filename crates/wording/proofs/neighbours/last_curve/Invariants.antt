use Rattle.std.proofs.Common.{◌≡◌, ◌^◌, ◌<◌, map, length}
use Rattle.rows.specs.Records.{row_of}
use Rattle.wording.specs.Beside.{longer, last_curve_lem}
use Rattle.wording.proofs.neighbours.last_curve.Given as goal

-- What is left gives, over the run so far, the curve that the whole gives.
abbrev pub invariant-loop-record : goal.invariant-loop-record
invariant-loop-record l = (longer l.run (last_curve_lem (map row_of l.rest)) ≡ last_curve_lem (map row_of l.rows)) × (l.run < 2 ^ 64)

abbrev pub decreases-loop-record : goal.decreases-loop-record
decreases-loop-record l = length l.rest
