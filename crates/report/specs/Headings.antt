-- What a table begins with.
use Rattle.std.specs.Prelude.{ℕ, ◌+◌, Bool, true, false, cond, List, [], ◌∷◌, ◌++◌, codes, decimal, nat_eq}
use Rattle.superelevation.specs.Superelevation.{group_number}
use Rattle.road.specs.declared.road.Road.{Road}
use Rattle.road.specs.Words.{class_word}
use Rattle.limit_names.specs.Names.{limit_word}
use Rattle.choice.specs.declared.ChosenLimit.{ChosenLimit}
use Rattle.choice.specs.Governors.{name_of}
use Rattle.units.specs.Units.{metres_text}

abbrev pub road_name : Road → List ℕ
road_name road = class_word road.class ++ (codes "-" ++ (decimal road.speed ++ (codes ", group " ++ decimal (group_number road.group))))

abbrev pub road_heading : Road → List ℕ
road_heading road =
    codes "road " ++ (road_name road ++ (codes ", least radius " ++ (metres_text road.least_radius ++ (codes " m, edge distance " ++ (metres_text road.edge ++ (
    codes " m, lanes turning " ++ (decimal road.lanes ++ (codes ", J 0." ++ (decimal road.jerk ++ codes " m/s3")))))))))

-- So many of something.
abbrev pub counted_text : (count : ℕ) → (what : List ℕ) → List ℕ
counted_text count what = cond (nat_eq count 1) (codes "1 " ++ what) (decimal count ++ (codes " " ++ (what ++ codes "s")))

abbrev pub sheet_heading : (is_fitted : Bool) → (count : ℕ) → List ℕ
sheet_heading true count = codes "fitted sheet, " ++ counted_text count (codes "row")
sheet_heading false count = codes "draft, " ++ counted_text count (codes "row")

-- Limits with their numbers; the first has this one.
abbrev pub numbered_text : (number : ℕ) → List ChosenLimit → List ℕ
numbered_text number [] = []
numbered_text number (limit ∷ limits) = codes " " ++ (decimal number ++ (codes " " ++ (limit_word (name_of limit) ++ numbered_text (number + 1) limits)))

abbrev pub limits_heading : List ChosenLimit → List ℕ
limits_heading limits = codes "limits:" ++ numbered_text 1 limits
