use Rattle.std.proofs.Common.{◌≡◌, ◌≤◌, map}
use Rattle.findings.specs.Rules.{Admission}
use Rattle.fitting.specs.Passes.{body, demands, all_lengths}
use Rattle.fitting.proofs.Loops.{Pushed}
use Rattle.fitting.proofs.passes.push_back.Given as goal

-- From the row on the lengths are raised, before it they are as they were.
abbrev pub invariant-loop-row : goal.invariant-loop-row
invariant-loop-row l =
    record {
      short : l.least_exit ≤ 2_000_000;
      same : map body l.records ≡ map body l.initial.records;
      raised :
          (admission : Admission)
          → Pushed (demands l.road admission l.initial.records) (all_lengths l.initial.records) (all_lengths l.records) l.row l.least_exit;
    }
