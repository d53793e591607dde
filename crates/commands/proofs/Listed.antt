-- Every command is listed.
use Rattle.std.proofs.Common.{◌≡◌, ℕ, List, map, sym, arith}
use Rattle.limit_names.proofs.Listed.{NoneIs}
use Rattle.commands.specs.declared.name.Name.{Name}
use Rattle.commands.specs.declared.name.Name.TheVariants.{Road, Label, Straight, Curve, Remove, Set, Rows, Report, Limit, Check, Fit, Parameter, Reopen}
use Rattle.commands.specs.Names.{ACommand, name_word, names}

by_name : (w : List ℕ) → NoneIs w (map name_word names) → (name : Name) → w ≡ name_word name → ⊥
by_name w none Road is = none 0 (omega arith) (sym is)
by_name w none Label is = none 1 (omega arith) (sym is)
by_name w none Straight is = none 2 (omega arith) (sym is)
by_name w none Curve is = none 3 (omega arith) (sym is)
by_name w none Remove is = none 4 (omega arith) (sym is)
by_name w none Set is = none 5 (omega arith) (sym is)
by_name w none Rows is = none 6 (omega arith) (sym is)
by_name w none Report is = none 7 (omega arith) (sym is)
by_name w none Limit is = none 8 (omega arith) (sym is)
by_name w none Check is = none 9 (omega arith) (sym is)
by_name w none Fit is = none 10 (omega arith) (sym is)
by_name w none Parameter is = none 11 (omega arith) (sym is)
by_name w none Reopen is = none 12 (omega arith) (sym is)

pub unlisted : (w : List ℕ) → NoneIs w (map name_word names) → ACommand w → ⊥
unlisted w none named = by_name w none named.0 named.1
