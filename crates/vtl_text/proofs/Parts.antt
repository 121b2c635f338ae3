-- The parts of a text before and after a number of characters.
use Rattle.std.proofs.Common.{◌≡◌, ℕ, ◌+◌, ◌-◌, ◌≤◌, true, false, ◌&&◌, List, [], ◌∷◌, ◌++◌, length, take, drop, Option, None, Some, is_some, refl, sym, ap, subst, ◌∙◌, arith, chars, IsUtf8, encode_utf8_all, length-append, length-drop}
use lib.Utf8.{scalar, scalars}
use Rattle.std.specs.declared.str.Chars.{Chars}
use Rattle.std.specs.Str.{IsCharBoundary}
use Rattle.std.specs.Str.Iter.{chars_rest, chars_steps}
use Rattle.std.proofs.lemmas.Bool.{false≢true}
use Rattle.std.proofs.lemmas.List.{drop-drop, drop_all, take-append-drop, take_at, drop_at}
use Rattle.std.proofs.lemmas.Str.{cons_from_encodes, length-le-encodes, encodes-chars, encodes-append, chars-encodes, scalars-chars, IsCharBoundary-at_seam}

-- the text of two lists of characters holds the text of each
pub scalars-left : (xs ys : List ℕ) → scalars (xs ++ ys) ≡ true → scalars xs ≡ true
scalars-left [] ys h = refl
scalars-left (x ∷ xs) ys h = elim (scalar x) as (λ b. (b && scalars (xs ++ ys) ≡ true) → b && scalars xs ≡ true) [ true ↦ λ k. scalars-left xs ys k | false ↦ λ k. k ] h

pub scalars-right : (xs ys : List ℕ) → scalars (xs ++ ys) ≡ true → scalars ys ≡ true
scalars-right [] ys h = h
scalars-right (x ∷ xs) ys h = elim (scalar x) as (λ b. (b && scalars (xs ++ ys) ≡ true) → scalars ys ≡ true) [ true ↦ λ k. scalars-right xs ys k | false ↦ λ k. absurd (false≢true k) ] h

-- a turn that takes a character from what follows the first i
pub next_left : (cs : List ℕ) (i : ℕ) (s t : Chars) (r : Option ℕ) → chars_steps s r t → chars_rest s ≡ encode_utf8_all (drop i cs) → is_some r ≡ true → chars_rest t ≡ encode_utf8_all (drop (i + 1) cs)
next_left cs i s t None steps left some = absurd (false≢true some)
next_left cs i s t (Some c) steps left some =
    let first = cons_from_encodes (drop i cs) (chars_rest t) c (sym left ∙ steps.0) in
    sym first.2 ∙ ap encode_utf8_all (sym (ap (drop 1) first.1) ∙ drop-drop 1 i cs)

-- a turn that finds no character
pub none_left : (cs : List ℕ) (i n : ℕ) (s t : Chars) (r : Option ℕ) → chars_steps s r t → chars_rest s ≡ encode_utf8_all (drop i cs) → i ≤ n → is_some r ≡ false → encode_utf8_all (drop n cs) ≡ []
none_left cs i n s t None steps left within none =
    ap encode_utf8_all (drop_all n cs (omega (arith, steps.0.0, ap length left, length-le-encodes (drop i cs), length-drop i cs)))
none_left cs i n s t (Some c) steps left within none = absurd (false≢true (sym none))

-- a text parted after n characters
pub record IsPartedAt (bs rest : List ℕ) (n : ℕ) : Type 0 where
  pub fits : length rest ≤ length bs
  pub seam : IsCharBoundary bs (length bs - length rest)
  pub front : chars (take (length bs - length rest) bs) ≡ take n (chars bs)
  pub back : chars (drop (length bs - length rest) bs) ≡ drop n (chars bs)

pub parted : (bs rest : List ℕ) (n : ℕ) → IsUtf8 bs → IsUtf8 rest → rest ≡ encode_utf8_all (drop n (chars bs)) → IsPartedAt bs rest n
parted bs rest n u v rest_is =
    let cs = chars bs in
    let front = encode_utf8_all (take n cs) in
    let whole : bs ≡ front ++ rest =
    sym (encodes-chars bs u) ∙ ap encode_utf8_all (sym (take-append-drop n cs)) ∙ encodes-append (take n cs) (drop n cs) ∙ ap (λ l. front ++ l) (sym rest_is) in
    let sizes = length-append front rest in
    let size : length front ≡ length bs - length rest = omega (arith, ap length whole, sizes) in
    let both : scalars (take n cs ++ drop n cs) ≡ true = ap scalars (take-append-drop n cs) ∙ scalars-chars bs u in
    record {
      fits = omega (arith, ap length whole, sizes);
      seam = subst (IsCharBoundary bs) size (IsCharBoundary-at_seam bs front rest whole v);
      front = ap (λ l. chars (take (length bs - length rest) l)) whole ∙ ap chars (take_at front rest (length bs - length rest) size) ∙ chars-encodes (take n cs) (scalars-left (take n cs) (drop n cs) both);
      back = ap (λ l. chars (drop (length bs - length rest) l)) whole ∙ ap chars (drop_at front rest (length bs - length rest) size ∙ rest_is) ∙ chars-encodes (drop n cs) (scalars-right (take n cs) (drop n cs) both);
    }
