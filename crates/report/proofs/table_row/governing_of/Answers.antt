use Rattle.std.proofs.Common.{inl, inr, refl, sym, ◌∙◌}
use Rattle.std.proofs.lemmas.Bool.{false≢true}
use Rattle.report.proofs.table_row.governing_of.Goals as goal

pub returns-then-not-calls_for_clothoids : goal.returns-then-not-calls_for_clothoids
returns-then-not-calls_for_clothoids c = inr (λ calling. false≢true (sym c.if-not-calls_for_clothoids.true ∙ c.calls_for_clothoids.ensures.1 calling), refl)

pub returns : goal.returns
returns c = inl (c.calls_for_clothoids.ensures.0 c.if-not-calls_for_clothoids.false, rw (sym c.place.ensures) c.governing.ensures)
