-- What a label of the open sheet's road answers.
use Rattle.std.proofs.Common.{◌≡◌, ℕ, Option, Some, Result, sym}
use Rattle.road.specs.declared.refusal.Refusal.{Refusal}
use Rattle.road.specs.declared.road.Road.{Road}
use Rattle.label.specs.declared.Label.{Label}
use Rattle.label.specs.Labels as labels
use Rattle.series.specs.Calls.{road_of}
use Rattle.series.specs.declared.any_sheet.Sheet.{Sheet}
use Rattle.answers.specs.declared.line_answer.LineAnswer.{LineAnswer}
use Rattle.answers.specs.declared.failure.Failure.{Failure}
use Rattle.desk.specs.Desk.{label_answer, Labels}

pub label_on : (o : Option Sheet) (s : Sheet) (road : Road) (radius turn : ℕ) (given : Result Label Refusal) (answer : Result LineAnswer Failure)
    → o ≡ Some s → road ≡ road_of s → labels.Labelled road radius turn given → answer ≡ label_answer radius turn given → Labels radius turn o answer
label_on o s road radius turn given answer is road_is labelled answered = rw is (given, rw (sym road_is) labelled, answered)
