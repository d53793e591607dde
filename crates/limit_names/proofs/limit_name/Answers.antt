use Rattle.std.proofs.Common.{rules, tests, ◌≡◌, refl, subst, map}
use Rattle.std.specs.Slice.Iter.{iter_rest}
use Rattle.std.proofs.lemmas.Iterator.{first_from_find, YieldsList-from_slice}
use Rattle.limit_names.proofs.Listed.{NoneIs, none_is, unlisted}
use Rattle.limit_names.proofs.limit_name.Goals as goal

pub returns-in_err-name : goal.returns-in_err-name
returns-in_err-name c =
    let word = c.args.word.now in
    let first = first_from_find _ _ c.find.result (λ named. named.1.now ≡ word) (λ named. named.1.now ≡ word → ⊥) c.find.ensures.ran (YieldsList-from_slice (iter_rest c.iter.result) refl) (λ x q k. search (rules, tests)) (λ x q k. search (rules, tests)) in
    let none = none_is (λ named. named.1.now) word (iter_rest c.iter.result) (rw c.in_err-name.was at first) in
    rw c.from_residual.ensures (unlisted word (subst (λ named. NoneIs word (map (λ e. e.1.now) named)) c.iter.ensures.rest none))
