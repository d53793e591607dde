use Rattle.std.proofs.Common.{◌≡◌, ℕ, ◌<◌, get_or, Option}
use Rattle.limits.specs.Admission.{In}
use Rattle.limits.specs.Least.{LeastOf}
use Rattle.choice.specs.Chosen.{chosen}
use Rattle.choice.specs.declared.ChosenLimit.TheVariants.{Comfort}
use Rattle.choice.proofs.governor.first_governing.Given as goal

-- the limits before have other least lengths
abbrev pub invariant-loop-at : goal.invariant-loop-at
invariant-loop-at l = (i : ℕ) → i < l.at → (x : Option ℕ) × LeastOf (In (chosen (get_or l.limits i Comfort) l.place)) x × (x ≡ l.least → ⊥)
