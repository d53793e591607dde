use Rattle.wording.proofs.sentence.write_unequal.Goals as goal

pub returns : goal.returns
returns g c = λ plain ok. rw (c.length-entry.ensures, c.length-exit.ensures) at (c.write.ensures.writes plain ok)
