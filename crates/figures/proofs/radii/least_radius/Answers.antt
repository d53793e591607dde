use Rattle.std.proofs.Common.{ℕ, ◌*◌, ◌≤◌, subst, arith}
use Rattle.limits.specs.Least.{Smallest}
use Rattle.figures.proofs.Quotients.{rounded_up}
use Rattle.figures.proofs.radii.least_radius.Goals as goal

pub returns-clause-least : goal.returns-clause-least
returns-clause-least c =
    let turn = c.args.curve.now.turn in
    let Least : ℕ → Type 0 = λ missing. Smallest (λ radius. 1_591_500 * missing ≤ radius * turn) c.div_ceil.result in
    subst Least c.saturating_sub.ensures (rounded_up _ turn c.div_ceil.result (omega arith) c.div_ceil.ensures)
