-- What each row asks of its clothoids, and the lengths that it has. Only private contracts cite this; proofs/ tie it to the rules.
use Rattle.std.specs.Prelude.{cond}
use Rattle.road.specs.declared.road.Road.{Road}
use Rattle.rows.specs.declared.row.Curve.{Curve}
use Rattle.rows.specs.declared.row.Row.{Row}
use Rattle.rows.specs.declared.row.Row.TheVariants as row
use Rattle.rows.specs.Curves.{place_of}
use Rattle.rows.specs.Leasts.{least_in}
use Rattle.figures.specs.Lengths.{longest_pair_lem}
use Rattle.findings.specs.Rules.{Admission}
use Rattle.findings.specs.Walk.{calls}
use Rattle.fitting.specs.declared.demand.Bounds.{Bounds}
use Rattle.fitting.specs.declared.demand.Demand.{Demand}
use Rattle.fitting.specs.declared.demand.Demand.TheVariants.{Free, Called}
use Rattle.fitting.specs.declared.demand.Lengths.{Lengths}

-- The bounds of a calling curve: the least length that is admitted is that of both its places.
abbrev pub bounds : Road → Admission → Curve → Bounds
bounds road admission c =
    record {
      entry = least_in (admission (place_of road c));
      exit = least_in (admission (place_of road c));
      even = road.symmetric;
      room = longest_pair_lem c;
    }

abbrev pub demand : Road → Admission → Row → Demand
demand road admission (row.Straight s) = Free
demand road admission (row.Curve c) = cond (calls road c) (Called (bounds road admission c)) Free

abbrev pub lengths : Row → Lengths
lengths (row.Straight s) = record { entry = 0; exit = 0 }
lengths (row.Curve c) = record { entry = c.entry; exit = c.exit }
