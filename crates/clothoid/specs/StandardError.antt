-- What the program says on standard error of the lines that were wrong or refused, where any were.
use Rattle.std.specs.Prelude.{ℕ, cond, List, [], ◌∷◌, ◌++◌, codes}
use Rattle.session.specs.declared.faults.Faults.{Faults}
use Rattle.session.specs.Faults.{any, faults_text}

abbrev pub said_of : Faults → List ℕ
said_of f = cond (any f) (codes "clothoid: " ++ (faults_text f ++ 10 ∷ [])) []
