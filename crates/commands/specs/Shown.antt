-- How mistakes are shown.
use Rattle.std.specs.Prelude.{ℕ, cond, List, [], ◌∷◌, ◌++◌, map, length, take, Some, None, codes, Option, nat_lt}
use Rattle.std.specs.List.{flat_map}
use Rattle.std.specs.Str.{chars}
use Rattle.std.specs.Borrow.{Bor}
use Rattle.std.specs.Fmt.{decimal}
use Rattle.text.specs.Shown.{shown_char}
use Rattle.limit_names.specs.Names.{limit_word, limits}
use Rattle.commands.specs.Names.{name_word, names}
use Rattle.commands.specs.declared.mistake.Expected.{Expected}
use Rattle.commands.specs.declared.mistake.Expected.TheVariants.{Command, Class, Number, JerkChoice, Sense, End, Before, LimitName, FileName, EndOfLine}

-- what stands between a word and the rest of a choice
abbrev pub between : List (List ℕ) → List ℕ
between [] = []
between (w ∷ []) = codes " or "
between (w ∷ v ∷ ws) = codes ", "

-- words as a choice: "a, b or c"
abbrev pub one_of : List (List ℕ) → List ℕ
one_of [] = []
one_of (w ∷ ws) = w ++ (between ws ++ one_of ws)

-- what should have stood there, in plain words
abbrev pub expected_text : Expected → List ℕ
expected_text Command = codes "a command: " ++ one_of (map name_word names)
expected_text Class = codes "a class: A, M or C"
expected_text Number = codes "a whole number: digits alone, without a point or a unit"
expected_text JerkChoice = codes "usual or top"
expected_text Sense = codes "left or right"
expected_text End = codes "entry or exit"
expected_text Before = codes "before, or the end of the line"
expected_text LimitName = codes "a limit: " ++ (one_of (map limit_word limits) ++ codes " FILE")
expected_text FileName = codes "the name of a file"
expected_text EndOfLine = codes "the end of the line"

-- a word as it is shown, or the first 40 characters of a longer one and two dots
abbrev pub shown_word : List ℕ → List ℕ
shown_word word = flat_map shown_char (take 40 (chars word)) ++ cond (nat_lt 40 (length (chars word))) (codes "..") []

-- which word is wrong, and what should have stood there
abbrev pub mistake_text : ℕ → Option (Bor (List ℕ)) → Expected → List ℕ
mistake_text at None expected = codes "word " ++ (decimal at ++ (codes " is missing, expected " ++ expected_text expected))
mistake_text at (Some word) expected =
    codes "word " ++ (decimal at ++ (codes " is '" ++ (shown_word word.now ++ (codes "', expected " ++ expected_text expected))))
