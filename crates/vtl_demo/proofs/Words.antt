-- Texts of word characters are their own characters.
use Rattle.std.proofs.Common.{◌≡◌, ◌<◌, ◌+◌, ℕ, List, true, arith, refl}
use Rattle.std.specs.List.{list_all}
use Rattle.std.specs.Str.{chars}
use Rattle.std.proofs.lemmas.Bool.Decides.{nat_tests}
use Rattle.std.proofs.lemmas.Fmt.{decimal_digit}
use Rattle.std.proofs.lemmas.Str.{chars-IsAscii}
use Rattle.vtl_text.specs.Words.{is_word_character}
use Rattle.vtl_lexer.proofs.CutLemmas.{all-ascii, word-ascii}
use Rattle.vtl_demo.specs.DataSets.{group_name}

pub plain : (text : List ℕ) → list_all is_word_character text ≡ true → chars text ≡ text
plain text e = chars-IsAscii text (all-ascii is_word_character text word-ascii e)

digit-character : (d : ℕ) → d < 10 → is_word_character (48 + d) ≡ true
digit-character d low = grind (arith, nat_tests, low)

pub group-plain : (d : ℕ) → d < 10 → list_all is_word_character (group_name d) ≡ true
group-plain d low = rw (decimal_digit d low, digit-character d low) refl
