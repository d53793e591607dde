use Rattle.worked.proofs.Examples.{worked, label_is}
use Rattle.worked.proofs.worked_label.Goals as goal

pub returns : goal.returns
returns c = record { table = worked; value = label_is c.in_ok-road.road c.in_ok-road.ensures.1 c.at.result c.at.ensures }
