-- Runs of characters that pass a test.
use Rattle.std.proofs.Common.{◌≡◌, ◌≤◌, ◌<◌, ◌+◌, ◌∷◌, ◌++◌, ◌∙◌, [], ℕ, suc, List, Bool, true, false, chars, length, take, drop, sym, ap, subst, refl, arith, inl, inr, IsUtf8, IsCharBoundary, encode_utf8_all, take-append-drop}
use Rattle.std.specs.Char.{is_ascii_digit}
use Rattle.std.specs.List.{list_all, prefix_len}
use Rattle.std.proofs.lemmas.Bool.{and_from, and_parts, cases_Bool, false≢true}
use Rattle.std.proofs.lemmas.Bool.Decides.{nat_tests}
use Rattle.std.proofs.lemmas.List.Sums.{prefix_len-le-length}
use Rattle.std.proofs.lemmas.Str.{IsCharBoundary-from_take, IsUtf8-drop, IsUtf8-from_ascii, encode_ascii, encodes-chars}
use Rattle.sql_lexer.specs.Front.{Run}
use Rattle.sql_lexer.specs.Lexed.{is_white_space}
use Rattle.vtl_lists.specs.Runs.{begins_with}
use Rattle.vtl_lists.proofs.Runs.{prefix-passes, prefix-stops}
use Rattle.sql_lexer.proofs.Texts.{all-ascii, front-chars, tail-utf8}

pub digit-ascii : (c : ℕ) → is_ascii_digit c ≡ true → c < 128
digit-ascii c e = grind (arith, nat_tests, e)

pub white-ascii : (c : ℕ) → is_white_space c ≡ true → c < 128
white-ascii c e = grind (arith, nat_tests, e)

-- ---- a run that was counted

module _ (test : ℕ → Bool) (ascii : (c : ℕ) → test c ≡ true → c < 128) where
  stops-chars : (rest cs : List ℕ) → encode_utf8_all cs ≡ rest → begins_with test rest ≡ false → begins_with test cs ≡ false
  stops-chars rest [] e stops = refl
  stops-chars rest (c ∷ cs) e stops = elim (cases_Bool (test c)) [
    | inl pass ↦
        let is : rest ≡ c ∷ encode_utf8_all cs = sym e ∙ ap (λ l. l ++ encode_utf8_all cs) (encode_ascii c (ascii c pass)) in
        absurd (false≢true (sym stops ∙ ap (begins_with test) is ∙ pass))
    | inr fail ↦ fail
  ]

  pub run-within : (text : List ℕ) (n : ℕ) → IsUtf8 text → n ≡ prefix_len test text → IsCharBoundary text n
  run-within text n u e =
      let passes = subst (λ m. list_all test (take m text) ≡ true) (sym e) (prefix-passes test text) in
      let within : n ≤ length text = omega (arith, e, prefix_len-le-length test text) in
      IsCharBoundary-from_take text n u within (IsUtf8-from_ascii (take n text) (all-ascii test (take n text) ascii passes))

  pub run-at : (text front rest : List ℕ) (n : ℕ) → IsUtf8 text → n ≡ prefix_len test text → front ≡ take n text → rest ≡ drop n text → Run test text front rest
  run-at text front rest n u e front_is rest_is =
      let left : IsUtf8 (drop n text) = IsUtf8-drop text n u (run-within text n u e) in
      let bytes = subst (λ m. begins_with test (drop m text) ≡ false) (sym e) (prefix-stops test text) in
      let stops = stops-chars (drop n text) (chars (drop n text)) (encodes-chars (drop n text) left) bytes in
      record {
        split = sym (take-append-drop n text) ∙ ap (λ l. l ++ drop n text) (sym front_is) ∙ ap (λ l. front ++ l) (sym rest_is);
        passes = subst (λ l. list_all test l ≡ true) (sym front_is) (subst (λ m. list_all test (take m text) ≡ true) (sym e) (prefix-passes test text));
        stops = subst (λ l. begins_with test (chars l) ≡ false) (sym rest_is) stops;
      }

  pub run-chars : (text front rest : List ℕ) → Run test text front rest → chars text ≡ front ++ chars rest
  run-chars text front rest run = front-chars text front rest (all-ascii test front ascii run.passes) run.split

  pub run-utf8 : (text front rest : List ℕ) → IsUtf8 text → Run test text front rest → IsUtf8 rest
  run-utf8 text front rest u run = tail-utf8 text front rest u (all-ascii test front ascii run.passes) run.split
