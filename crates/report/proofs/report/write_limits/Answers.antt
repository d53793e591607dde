use Rattle.std.proofs.Common.{[], ◌∷◌, codes}
use Rattle.choice.specs.Governors.{limits_of}
use Rattle.report.specs.Headings.{numbered_text}
use Rattle.report.proofs.Tables.{append_three}
use Rattle.report.proofs.report.write_limits.Goals as goal

pub returns : goal.returns
returns g c =
    append_three c.writeln.result _ _ _ _ (codes "limits:") (numbered_text 1 (limits_of c.args.limits.now)) (10 ∷ []) c.in_ok-write.ensures.bytes c.in_ok-write_in_force.ensures c.writeln.ensures.bytes
