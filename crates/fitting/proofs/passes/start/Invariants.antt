use Rattle.std.proofs.Common.{◌≡◌, ◌++◌, ◌≤◌, map, take, drop}
use Rattle.fitting.specs.Passes.{started, body, demands, all_lengths}
use Rattle.fitting.proofs.passes.start.Given as goal

-- What is written, with what is left, is the whole.
abbrev pub invariant-loop-row : goal.invariant-loop-row
invariant-loop-row g l =
    let all = demands l.road (g.L.Limit.admitted l.limit) l.initial.records in
    record {
      short : l.least_entry ≤ 2_000_000;
      same : map body l.records ≡ map body l.initial.records;
      written : take l.row (all_lengths l.records) ++ started l.least_entry (drop l.row all) ≡ started 0 all;
    }
