use Rattle.std.proofs.Common.{◌≡◌, ◌+◌, ◌-◌, get_or, sym, ap, ◌∙◌, subst, arith}
use Rattle.std.proofs.lemmas.List.{get_or_default}
use Rattle.limits.specs.Admission.{In}
use Rattle.limits.specs.Least.{LeastOf}
use Rattle.choice.specs.Chosen.{chosen, chosen_lawful}
use Rattle.choice.specs.Governors.{name_of}
use Rattle.choice.specs.declared.ChosenLimit.TheVariants.{Comfort}
use Rattle.choice.proofs.Governors.{one_least, none_there, option_same, option_other, one_more}
use Rattle.choice.proofs.governor.first_governing.Goals as goal

pub loop-at-preserved : goal.loop-at-preserved
loop-at-preserved c =
    let place = c.args.place.now in
    one_more (λ limit. chosen limit place) Comfort c.args.limits.now c.least_length-least.result c.loop-at.at c.index-limits-at.result c.index-limits-at.is c.loop-at-test.true
    c.loop-at.invariant c.least_length.result c.least_length.ensures (option_other c.least_length.result c.least_length-least.result (sym c.eq.ensures ∙ c.if-eq.false))

pub returns-then-eq : goal.returns-then-eq
returns-then-eq c =
    let place = c.args.place.now in
    let limits = c.args.limits.now in
    let same : c.least_length.result ≡ c.least_length-least.result = option_same c.least_length.result c.least_length-least.result (sym c.eq.ensures ∙ c.if-eq.true) in
    let here : c.index-limits-at.result ≡ get_or limits c.loop-at.at Comfort = c.index-limits-at.is ∙ get_or_default limits c.loop-at.at c.index-limits-at.result Comfort c.loop-at-test.true in
    let place_is : c.loop-at.at ≡ (c.loop-at.at + 1) - 1 = omega arith in
    let there : c.index-limits-at.result ≡ get_or limits ((c.loop-at.at + 1) - 1) Comfort = here ∙ ap (λ n. get_or limits n Comfort) place_is in
    record {
      within = (omega arith, omega (arith, c.loop-at-test.true));
      name = c.name-name.ensures ∙ ap name_of there;
      own = subst (λ limit. LeastOf (In (chosen limit place)) c.least_length-least.result) there (subst (LeastOf (In (chosen c.index-limits-at.result place))) same c.least_length.ensures);
      whole = c.least_length-least.ensures;
      first =
          λ i before is.
          let (x, least, other) = c.loop-at.invariant i (omega (arith, before)) in
          other (one_least _ x c.least_length-least.result least is);
    }

pub returns : goal.returns
returns c =
    let place = c.args.place.now in
    none_there (λ limit. chosen limit place) (λ limit. chosen_lawful limit place) Comfort c.args.limits.now c.least_length-least.result c.least_length-least.ensures
    (λ i within. c.loop-at.invariant i (omega (arith, c.loop-at-test.false)))
