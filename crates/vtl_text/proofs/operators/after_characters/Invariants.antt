-- What is left are the characters from the index on.
use Rattle.std.proofs.Common.{◌≡◌, chars, encode_utf8_all, drop}
use Rattle.std.specs.Str.Iter.{chars_rest}
use Rattle.vtl_text.proofs.operators.after_characters.Given as goal

abbrev pub invariant-loop : goal.invariant-loop
invariant-loop l = chars_rest l.rest ≡ encode_utf8_all (drop l.counter (chars l.t))
