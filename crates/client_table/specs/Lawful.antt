-- Proof that a client's table is lawful. There is nothing here to believe.
use Rattle.std.specs.Prelude.{Bool, true, false, cond, List, [], ◌∷◌, ◌&&◌, ℕ, ◌≤◌, T, leb}
use Rattle.std.proofs.Common.{le_trans, leb→le, le→leb}
use Rattle.limits.specs.declared.place.Place.{Place}
use Rattle.limits.specs.Admission.{UpToLongest}
use Rattle.limits.specs.Lawful.{capped_lawful}
use Rattle.client_table.specs.Tables.{read, allows, each_allows, table}

unless_rises : (a b : Bool) (least short long : ℕ) → short ≤ long → T (cond a (cond b (leb least short) true) true) → T (cond a (cond b (leb least long) true) true)
unless_rises true true least short long le t = le→leb least long (le_trans (leb→le least short t) le)
unless_rises true false least short long le t = tt
unless_rises false b least short long le t = tt

both_rise : (a a' b b' : Bool) → (T a → T a') → (T b → T b') → T (a && b) → T (a' && b')
both_rise true true b b' one other t = other t
both_rise true false b b' one other t = absurd (one tt)
both_rise false a' b b' one other t = absurd t

each_rises : (entries : List (List ℕ)) (radius short long : ℕ) → short ≤ long → T (each_allows entries radius short) → T (each_allows entries radius long)
each_rises [] radius short long le t = tt
each_rises (bytes ∷ entries) radius short long le t =
    let entry = read bytes in
    both_rise (allows entry radius short) (allows entry radius long) (each_allows entries radius short) (each_allows entries radius long)
    (unless_rises (leb entry.first_radius radius) (leb radius entry.last_radius) entry.least_length short long le)
    (each_rises entries radius short long le) t

pub table_lawful : (entries : List (List ℕ)) (place : Place) → UpToLongest (table entries place)
table_lawful entries place = capped_lawful (each_allows entries place.radius) (each_rises entries place.radius)
