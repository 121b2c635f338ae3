-- What the tests of words and names come to.
use Rattle.std.proofs.Common.{◌≡◌, ℕ, ◌+◌, cond, not, Some, None, Bool, true, false, ◌&&◌, ◌||◌, nat_eq, List, [], ◌∷◌, length, refl, sym, ap, ◌∙◌, arith, chars, IsUtf8, encode_utf8_all, ◌==◌, ◌<◌, nat_lt, ◌-◌, length-append}
use Rattle.std.specs.Cmp.Lexicographic.{pointwise}
use Rattle.std.specs.List.{list_all, list_any, position, position_or_len}
use Rattle.std.proofs.lemmas.Str.{encodes-chars, length-le-encodes, chars-IsAscii, IsUtf8-from_ascii}
use Rattle.std.proofs.lemmas.Str.Ascii.{IsAscii-nil, IsAscii-cons}
use Rattle.std.proofs.lemmas.Bool.{and_parts}
use Rattle.std.specs.Str.{IsAscii}
use Rattle.std.proofs.lemmas.List.{take_at}
use Rattle.std.proofs.lemmas.Slice.Eq.{bytes_eq-Decides}
use borrow.Author.Tests.{ltb-true}
use Rattle.std.proofs.lemmas.Bool.Decides.{nat_tests}
use Rattle.vtl_text.specs.Words.{is_component_name, is_reserved, reserved_place, reserved_words, quoted, unquoted, is_quoted_name}
use Rattle.vtl_text.proofs.SameCharacters.{same_characters}

pub three_pass : (a b x : Bool) → a ≡ true → b ≡ true → x ≡ a && (b && x)
three_pass a b x p q = sym (ap (λ k. k && (b && x)) p ∙ ap (λ k. k && x) q)

pub two_pass : (a x : Bool) → a ≡ true → x ≡ a && x
two_pass a x p = sym (ap (λ k. k && x) p)

pub first_fails : (a x : Bool) → a ≡ false → false ≡ a && x
first_fails a x p = sym (ap (λ k. k && x) p)

pub second_fails : (a b x : Bool) → a ≡ true → b ≡ false → false ≡ a && (b && x)
second_fails a b x p q = sym (ap (λ k. k && (b && x)) p ∙ ap (λ k. k && x) q)

not_none : (n : ℕ) → 0 < n → (n == 0) ≡ false
not_none n some = grind (arith, nat_tests)

-- a text is empty where its list of characters is
pub same_empty : (bs : List ℕ) → IsUtf8 bs → (length bs == 0) ≡ (length (chars bs) == 0)
same_empty bs u = elim (chars bs) as (λ cs. encode_utf8_all cs ≡ bs → (length bs == 0) ≡ (length cs == 0)) [
  | [] ↦ λ e. ap (λ l. length l == 0) (sym e)
  | c ∷ cs ↦ λ e. not_none (length bs) (omega (arith, ap length e, length-le-encodes (c ∷ cs))) ∙ sym (not_none (length (c ∷ cs)) (omega arith))
] (encodes-chars bs u)

ascii_from : (w : List ℕ) → list_all (λ b. nat_lt b 128) w ≡ true → IsAscii w
ascii_from [] h = IsAscii-nil
ascii_from (b ∷ w) h =
    let parts = and_parts (nat_lt b 128) (list_all (λ x. nat_lt x 128) w) h in
    IsAscii-cons b w (ltb-true b 128 parts.0) (ascii_from w parts.1)

-- the words are looked up by their bytes
same_word : (w bs : List ℕ) → IsUtf8 bs → list_all (λ b. nat_lt b 128) w ≡ true → pointwise nat_eq w bs ≡ pointwise nat_eq w (chars bs)
same_word w bs u h =
    let ascii = ascii_from w h in
    same_characters w bs (IsUtf8-from_ascii w ascii) u ∙ ap (λ l. pointwise nat_eq l (chars bs)) (chars-IsAscii w ascii)

same_any : (ws : List (List ℕ)) (bs : List ℕ) → IsUtf8 bs → list_all (list_all (λ b. nat_lt b 128)) ws ≡ true
    → list_any (λ w. pointwise nat_eq w bs) ws ≡ list_any (λ w. pointwise nat_eq w (chars bs)) ws
same_any [] bs u h = refl
same_any (w ∷ ws) bs u h =
    let parts = and_parts (list_all (λ b. nat_lt b 128) w) (list_all (list_all (λ b. nat_lt b 128)) ws) h in
    let first = same_word w bs u parts.0 in
    ap (λ b. b || list_any (λ x. pointwise nat_eq x bs) ws) first ∙ ap (λ b. pointwise nat_eq w (chars bs) || b) (same_any ws bs u parts.1)

same_prefix : (ws : List (List ℕ)) (bs : List ℕ) → IsUtf8 bs → list_all (list_all (λ b. nat_lt b 128)) ws ≡ true
    → position_or_len (λ w. pointwise nat_eq w bs) ws ≡ position_or_len (λ w. pointwise nat_eq w (chars bs)) ws
same_prefix [] bs u h = refl
same_prefix (w ∷ ws) bs u h =
    let parts = and_parts (list_all (λ b. nat_lt b 128) w) (list_all (list_all (λ b. nat_lt b 128)) ws) h in
    ap (λ b. cond (not b) (1 + position_or_len (λ x. pointwise nat_eq x bs) ws) 0) (same_word w bs u parts.0)
    ∙ ap (λ n. cond (not (pointwise nat_eq w (chars bs))) (1 + n) 0) (same_prefix ws bs u parts.1)

pub reserved_place_by_bytes : (bs : List ℕ) → IsUtf8 bs → position (λ w. pointwise nat_eq w bs) reserved_words ≡ reserved_place (chars bs)
unfolding reserved_place reserved_words
reserved_place_by_bytes bs u = ap (λ n. cond (nat_lt n (length reserved_words)) (Some n) None) (same_prefix reserved_words bs u refl)

pub reserved_by_bytes : (bs : List ℕ) → IsUtf8 bs → list_any (λ w. pointwise nat_eq w bs) reserved_words ≡ is_reserved (chars bs)
unfolding is_reserved reserved_words
reserved_by_bytes bs u = same_any reserved_words bs u refl

unquoted-quoted : (name : List ℕ) → unquoted (quoted name) ≡ name
unquoted-quoted name = take_at name (39 ∷ []) (length (quoted name) - 2) (omega (arith, length-append name (39 ∷ [])))

-- the names between quotes are just the component names
pub is_quoted_name-quoted : (name : List ℕ) → is_quoted_name (quoted name) ≡ is_component_name name
unfolding is_quoted_name
is_quoted_name-quoted name =
    let same = unquoted-quoted name in
    ap (λ n. pointwise nat_eq (quoted name) (quoted n) && is_component_name n) same
    ∙ ap (λ b. b && is_component_name name) ((bytes_eq-Decides (quoted name) (quoted name)).1 refl)

-- a quoted name is the name that it holds, between quotes
pub quoted_name_is : (cs : List ℕ) → is_quoted_name cs ≡ true → (cs ≡ quoted (unquoted cs)) × (is_component_name (unquoted cs) ≡ true)
unfolding is_quoted_name
quoted_name_is cs h =
    let parts = and_parts (pointwise nat_eq cs (quoted (unquoted cs))) (is_component_name (unquoted cs)) h in
    ((bytes_eq-Decides cs (quoted (unquoted cs))).0 parts.0, parts.1)
