use Rattle.choice.proofs.ChosenLimitLimit.least_length.Goals as goal

pub returns : goal.returns
returns c = rw (← c.limit.ensures c.args.place.now) c.least_length.ensures
