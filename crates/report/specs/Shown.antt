-- How the table is shown.
use Rattle.std.specs.Prelude.{ℕ, List, ◌++◌, Option, Some, None, codes, decimal}
use Rattle.limit_names.specs.Names.{limit_word}
use Rattle.rows.specs.declared.row.Sense.{Sense}
use Rattle.rows.specs.declared.row.Sense.TheVariants.{Left, Right}
use Rattle.choice.specs.declared.governor.Governing.{Governing}
use Rattle.report.specs.declared.table_row.TableRow.{TableRow}
use Rattle.report.specs.declared.table_row.TableRow.TheVariants.{Straight, Curve}
use Rattle.report.specs.Columns.{on_the_right, metres_column, gon_column, percent_column}

abbrev pub kind_text : Sense → List ℕ
kind_text Left = codes "curve left "
kind_text Right = codes "curve right"

abbrev pub least_column : Option ℕ → List ℕ
least_column (Some length) = metres_column length
least_column None = codes "      none"

-- The least length of a place, and the limit that it comes from.
abbrev pub governed_text : Option Governing → List ℕ
governed_text (Some g) = least_column g.least ++ (codes "  " ++ (decimal g.number ++ (codes " " ++ limit_word g.name)))
governed_text None = codes "         -  -"

abbrev pub table_row_text : TableRow → List ℕ
table_row_text (Straight position length) = on_the_right 4 (decimal position) ++ (codes "  straight   " ++ metres_column length)
table_row_text (Curve position c p entry exit g) =
    on_the_right 4 (decimal position) ++ (codes "  " ++ (kind_text c.sense ++ (codes "          " ++ (metres_column c.radius ++ (gon_column c.turn ++ (percent_column p ++ (
    metres_column c.entry ++ (metres_column entry ++ (metres_column c.exit ++ (metres_column exit ++ governed_text g))))))))))
