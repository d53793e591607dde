use Rattle.std.proofs.Common.{rules, ◌≡◌, Some, Ok}
use Rattle.answers.specs.declared.line_answer.LineAnswer.TheVariants.{Labelled}
use Rattle.desk.specs.Desk.{label_answer}
use Rattle.desk.proofs.Labels.{label_on}
use Rattle.desk.proofs.desk.Desk.label.Goals as goal

pub returns-in_err-label : goal.returns-in_err-label
returns-in_err-label c =
    let is : c.args.self.now.sheet ≡ Some c.in-Some.sheet = search rules in
    let answered : c.from_residual.result ≡ label_answer c.args.radius c.args.turn c.at.result = search rules in
    label_on _ c.in-Some.sheet c.road.result c.args.radius c.args.turn c.at.result c.from_residual.result is c.road.ensures c.at.ensures answered

pub returns : goal.returns
returns c =
    let is : c.args.self.now.sheet ≡ Some c.in-Some.sheet = search rules in
    let answered : Ok (Labelled c.args.radius c.args.turn c.in_ok-label.label) ≡ label_answer c.args.radius c.args.turn c.at.result = search rules in
    label_on _ c.in-Some.sheet c.road.result c.args.radius c.args.turn c.at.result _ is c.road.ensures c.at.ensures answered
