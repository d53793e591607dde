-- How text is shown in a message.
use Rattle.std.specs.Prelude.{ℕ, cond, List}
use Rattle.std.specs.Char.{is_control, encode_utf8}
use Rattle.std.specs.Char.Escape.{escape_default}
use Rattle.std.specs.List.{flat_map}
use Rattle.std.specs.Str.{chars, encode_utf8_all}

-- a character as it is shown: a control character as its escape
abbrev pub shown_char : ℕ → List ℕ
shown_char c = cond (is_control c) (encode_utf8_all (escape_default c)) (encode_utf8 c)

-- a text as it is shown, character by character
abbrev pub shown : List ℕ → List ℕ
shown text = flat_map shown_char (chars text)
