use Rattle.std.proofs.Common.{◌≡◌, ◌+◌, ◌≤◌, ◌++◌, [], ◌∷◌, length, drop, sym, subst, append_assoc, rules, arith}
use Rattle.std.proofs.lemmas.Result.{err_from_is_err_and}
use Rattle.std.proofs.lemmas.List.{drop-drop, length-drop, append-nil, take_rest}
use Rattle.std.proofs.Math.ListN.{drop_of_length-le}
use Rattle.commands.specs.Names.{Names}
use Rattle.session.specs.LimitWords.{NamedFirst, NamesLimits, FileAt, OfFile}
use Rattle.session.proofs.Naming.{taken_so, file_behind, of_all}
use Rattle.session.proofs.limit_words.named_limits.Goals as goal

pub returns-in_err-limit : goal.returns-in_err-limit
returns-in_err-limit c =
    let p = err_from_is_err_and c.from_residual.result c.from_residual.ensures.1 in
    rw p.1 (subst (OfFile 2 c.args.words.now) (sym p.2) (of_all (c.loop-named.named + 2) (drop c.loop-named.named c.args.words.now) c.args.words.now c.loop-named.invariant.files c.in_err-limit.field-0.0
    (subst (λ ws. OfFile (c.loop-named.named + 2) ws c.in_err-limit.field-0.0) (take_rest c.args.words.now c.loop-named.named) c.in_err-limit.ensures.named)))

pub loop-named-preserved : goal.loop-named-preserved
loop-named-preserved c =
    let all = c.args.words.now in
    let k = c.loop-named.named in
    let n = c.in_ok-limit.taken in
    let here = drop k all in
    let l = c.in_ok-limit.limit in
    let same = take_rest all k in
    let fits : n ≤ length here = subst (λ ws. n ≤ length ws) same c.in_ok-limit.ensures.taken.1 in
    let both = subst (λ ws. NamedFirst ws l (drop n ws) × Names (drop n ws)) same c.in_ok-limit.ensures.named in
    let named : NamedFirst here l (drop n here) = both.0 in
    let behind : drop n here ≡ drop (k + n) all = drop-drop n k all in
    let pushed : c.push.new.self.items ≡ c.loop-named.limits.items ++ (l ∷ []) = search rules in
    let further : k + 2 + n ≡ k + n + 2 = omega arith in
    record {
      within = omega (arith, fits, length-drop k all);
      left = subst Names behind both.1;
      limits = λ more names.
          let whole = c.loop-named.invariant.limits (l ∷ more) (drop n here, named, subst (λ ws. NamesLimits ws more) (sym behind) names) in
          subst (λ ls. NamesLimits all (ls ++ more)) (sym pushed) (subst (NamesLimits all) (sym (append_assoc c.loop-named.limits.items (l ∷ []) more)) whole);
      files = λ at file stands. c.loop-named.invariant.files at file (file_behind (k + 2) n here (drop n here) l at file (taken_so here n l fits named) named (subst (λ ws. FileAt (k + 2 + n) ws at file) (sym behind) (subst (λ m. FileAt m (drop (k + n) all) at file) (sym further) stands)));
    }

pub returns : goal.returns
returns c =
    let none : drop c.loop-named.named c.args.words.now ≡ [] = drop_of_length-le c.args.words.now c.loop-named-test.false in
    subst (λ ls. NamesLimits c.args.words.now ls) (append-nil c.loop-named.limits.items) (c.loop-named.invariant.limits [] none)
