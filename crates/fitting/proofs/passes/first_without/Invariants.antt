use Rattle.std.proofs.Common.{◌≡◌, ℕ, ◌<◌, length, get_or, slice_index, drop}
use Rattle.fitting.specs.declared.demand.Demand.TheVariants.{Free}
use Rattle.fitting.specs.declared.reach.Reach.TheVariants as reach
use Rattle.fitting.specs.Passes.{decide, demands, least_asked}
use Rattle.fitting.proofs.passes.first_without.Given as goal

-- What is left decides as the whole does, and of what came before the least lengths are kept, as far as there are slots.
abbrev pub invariant-loop-row : goal.invariant-loop-row
invariant-loop-row g l =
    let all = demands l.road (g.L.Limit.admitted l.limit) l.records in
    record {
      left : decide l.row l.reach (drop l.row all) ≡ decide 0 reach.Free all;
      kept : (i : ℕ) → i < l.row → i < length l.leasts → slice_index l.leasts i ≡ least_asked (get_or all i Free);
    }
