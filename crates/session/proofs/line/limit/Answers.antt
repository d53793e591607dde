use Rattle.std.proofs.Common.{◌≡◌, drop, vec_items, sym, subst, refl, append_assoc}
use Rattle.std.proofs.lemmas.List.{take_rest}
use Rattle.desk.specs.Desk.{with_limits}
use Rattle.choice.specs.declared.in_force.LimitsInForce.TheVariants.{Named}
use Rattle.commands.specs.declared.name.Name.TheVariants as name
use Rattle.answers.specs.declared.verdict.Verdict.TheVariants.{Wrong}
use Rattle.session.specs.LimitWords.{NamesLimits, OfFile}
use Rattle.session.specs.Lines.{AreNamed, LimitLeft}
use Rattle.session.proofs.Telling.{not_open, limit_named, limit_unreadable}
use Rattle.session.proofs.line.limit.Goals as goal

pub returns-in-Err : goal.returns-in-Err
returns-in-Err g c =
    let desk = c.args.desk.now in
    not_open c.args.line name.Limit (λ o text. LimitLeft c.args.line desk desk text Wrong c.args.words.now o) _ _ (refl, refl, refl) desk.sheet c.in-Err.no_road c.in-Err.ensures c.in_ok-writeln.ensures.bytes

pub returns-in_ok-write_words-in-Ok : goal.returns-in_ok-write_words-in-Ok
returns-in_ok-write_words-in-Ok g c =
    let chosen : c.choose.new.self ≡ with_limits (Named c.in-Ok.limits) c.args.desk.now = c.choose.ensures in
    limit_named c.args.line c.args.desk.now c.args.words.now _ _ c.args.desk.now.sheet c.choose.new.self c.in_default.ensures
    (subst (λ d. AreNamed (drop 1 c.args.words.now) d.limits) (sym chosen) (subst (λ ws. NamesLimits ws (vec_items c.in-Ok.limits)) (take_rest c.args.words.now 1) c.in-Ok.ensures))
    (subst (λ d. d ≡ with_limits d.limits c.args.desk.now) (sym chosen) refl) c.in_ok-write_words-in-Ok.ensures

pub returns-in_ok-writeln-in-Err-Unreadable : goal.returns-in_ok-writeln-in-Err-Unreadable
returns-in_ok-writeln-in-Err-Unreadable g c =
    let bad = c.in-Err-Unreadable in
    let stands : OfFile 2 (drop 1 c.args.words.now) bad.field-0 = subst (λ ws. OfFile 2 ws bad.field-0) (take_rest c.args.words.now 1) bad.ensures in
    limit_unreadable c.args.line c.args.desk.now c.args.words.now _ _ c.args.desk.now.sheet bad.at bad.file.now bad.why.bytes.items c.in_default.ensures
    (rw bad.field-0-is at stands) (simp append_assoc (rw c.as_str-why.ensures.value at c.in_ok-writeln-in-Err-Unreadable.ensures.bytes))
