use Rattle.std.proofs.Common.{◌≡◌, [], ◌∷◌, ◌∙◌, arith}
use Rattle.std.specs.Str.{chars}
use Rattle.std.proofs.lemmas.Str.{chars-IsAscii}
use Rattle.std.proofs.lemmas.Str.Ascii.{IsAscii-cons, IsAscii-nil}
use Rattle.selects_to_sql.proofs.writer.Writer.new.Goals as goal

letter_chars : chars (97 ∷ []) ≡ 97 ∷ []
letter_chars = chars-IsAscii (97 ∷ []) (IsAscii-cons 97 [] (omega arith) IsAscii-nil)

next_chars : chars (98 ∷ []) ≡ 98 ∷ []
next_chars = chars-IsAscii (98 ∷ []) (IsAscii-cons 98 [] (omega arith) IsAscii-nil)

pub invariant_of-result : goal.invariant_of-result
invariant_of-result c = (c.in_ok-first.ensures ∙ letter_chars, c.in_ok-second.ensures ∙ next_chars)
