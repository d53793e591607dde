-- What the clothoids of a row are held to.
use Rattle.std.proofs.Common.{◌≡◌, ℕ, Bool, true, ltb, leb, Decides, Option, ap, ◌∙◌}
use Rattle.std.proofs.lemmas.Bool.Decides.{same_from_decides, Decides-and, Decides-ltb}
use Rattle.limits.specs.Admission.{In, UpToLongest}
use Rattle.limits.specs.Least.{LeastOf}
use Rattle.road.specs.declared.road.Road.{Road}
use Rattle.rows.proofs.Leasts.{is_least_in}
use Rattle.rows.specs.declared.row.Curve.{Curve}
use Rattle.rows.specs.declared.row.Row.TheVariants as row
use Rattle.rows.specs.Curves.{place_of, Calling}
use Rattle.figures.proofs.Tests.{decides_leb}
use Rattle.findings.specs.declared.walk.Clothoids.TheVariants.{Called}
use Rattle.findings.specs.Rules.{Admission}
use Rattle.findings.specs.Walk.{calls, clothoids_of}

pub decides_calls : (road : Road) (c : Curve) → Decides (calls road c) (Calling road c)
decides_calls road c =
    Decides-and (leb 60_000 c.turn) (ltb c.radius road.free_radius) (decides_leb 60_000 c.turn)
    (Decides-ltb c.radius road.free_radius)

-- the least length of a curve that calls, as it was answered
pub called_is : (road : Road) (admission : Admission) (c : Curve) (b : Bool) (least : Option ℕ) → UpToLongest (admission (place_of road c))
    → Decides b (Calling road c) → b ≡ true → LeastOf (In (admission (place_of road c))) least
    → Called least ≡ clothoids_of road admission (row.Curve c)
called_is road admission c b least lawful decides taken answer =
    let e : calls road c ≡ true = same_from_decides (calls road c) b (decides_calls road c) decides ∙ taken in
    rw e (ap Called (is_least_in (admission (place_of road c)) lawful least answer))
