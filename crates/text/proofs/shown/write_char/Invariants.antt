use Rattle.std.proofs.Common.{◌≡◌, ◌++◌}
use Rattle.std.specs.Char.Escape.{escape_default}
use Rattle.std.specs.Char.Iter.{escape_rest}
use Rattle.std.specs.Fmt.{HasWritten, IsPlainFormatter}
use Rattle.std.specs.Str.{encode_utf8_all}
use Rattle.text.proofs.shown.write_char.Given as goal

-- the front of the escape is written
abbrev pub invariant-loop-e : goal.invariant-loop-e
invariant-loop-e g l =
    (goal.iterator-loop-e g).can_next l.e-iterator ×
    (goal.iterator-loop-e g).is_finite l.e-iterator ×
    (l.yielded ++ escape_rest l.e-iterator ≡ escape_default l.fn.c) ×
    (IsPlainFormatter l.initial.f → HasWritten g.W.Write.write_str_gives l.initial.f (encode_utf8_all l.yielded) l.f)
