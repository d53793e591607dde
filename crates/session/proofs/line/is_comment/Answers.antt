use Rattle.std.proofs.Common.{◌≡◌, ◌≤◌, false, true, eqb, length, sym, ap, ◌∙◌, get_or, rules, arith}
use Rattle.std.proofs.lemmas.List.{get_or_past}
use Rattle.session.proofs.Comments.{comment_trimmed}
use Rattle.session.proofs.line.is_comment.Goals as goal

pub returns-in-35 : goal.returns-in-35
returns-in-35 c =
    let rest = c.trim_ascii_start.result.now in
    let first : eqb (get_or rest 0 0) 35 ≡ true = search rules in
    sym first ∙ comment_trimmed c.args.bytes.now rest c.trim_ascii_start.ensures.value

-- where nothing is left, there is no '#' either
pub returns-in_default : goal.returns-in_default
returns-in_default c =
    let rest = c.trim_ascii_start.result.now in
    let none : length rest ≤ 0 = omega arith in
    sym (ap (λ b. eqb b 35) (get_or_past rest 0 0 none)) ∙ comment_trimmed c.args.bytes.now rest c.trim_ascii_start.ensures.value

pub returns-in_default-2 : goal.returns-in_default-2
returns-in_default-2 c =
    let rest = c.trim_ascii_start.result.now in
    let first : eqb (get_or rest 0 0) 35 ≡ false = search rules in
    sym first ∙ comment_trimmed c.args.bytes.now rest c.trim_ascii_start.ensures.value
