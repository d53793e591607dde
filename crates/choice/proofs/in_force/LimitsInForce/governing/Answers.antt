use Rattle.std.proofs.Common.{subst, sym}
use Rattle.choice.specs.Governors.{limits_of, Governed}
use Rattle.choice.specs.declared.in_force.LimitsInForce.TheVariants.{Compulsory}
use Rattle.choice.proofs.Governors.{compulsory_is}
use Rattle.choice.proofs.in_force.LimitsInForce.governing.Goals as goal

pub returns-in-Compulsory : goal.returns-in-Compulsory
returns-in-Compulsory c =
    let place = c.args.place.now in
    rw c.in-Compulsory.is (subst (λ together. Governed together (limits_of Compulsory) place c.first_governing.result) (compulsory_is place) c.first_governing.ensures)

pub returns-in-Named : goal.returns-in-Named
returns-in-Named c = rw (c.in-Named.is, sym c.as_slice.ensures.value) c.first_governing-in-Named.ensures
