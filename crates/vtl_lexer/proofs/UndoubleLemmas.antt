-- The text that a string holds: each `""` of its bytes is one `"` of its characters.
use Rattle.std.proofs.Common.{◌≡◌, ◌∷◌, ◌++◌, ◌∙◌, ◌&&◌, ◌==◌, ◌⊎◌, [], ℕ, List, true, false, not, length, take, drop, get_or, chars, nat_eq, sym, ap, subst, refl, arith, inl, inr, eqb-true, IsUtf8, encode_utf8_all}
use lib.Utf8.{encode, scalar, scalars}
use Rattle.std.specs.Cmp.Lexicographic.{pointwise}
use Rattle.std.proofs.lemmas.Bool.{and_from, and_parts, cases_Bool, false≢true}
use Rattle.std.proofs.lemmas.Bool.Decides.{nat_tests}
use Rattle.std.proofs.lemmas.List.{append-nil}
use Rattle.std.proofs.lemmas.Str.{chars-IsAscii, chars-encodes, encode_ascii, encode_same, encodes-chars, inside_one, scalars-chars}
use Rattle.std.proofs.lemmas.Str.Ascii.{IsAscii-cons, IsAscii-nil}
use Rattle.vtl_text.specs.Texts.{begins, replace_of, replaced_from}
use Rattle.vtl_lexer.specs.Spelling.{Lacks, doubled}
use Rattle.vtl_lexer.proofs.SearchLemmas.{lacks-below, take-whole}
use Rattle.vtl_lexer.proofs.StringLemmas.{doubled-other, doubled-quote, first-byte, no-quote}

-- no byte of another character is a quote
encode-plain : (c : ℕ) → (c == 34) ≡ false → Lacks 34 (encode c)
encode-plain c e =
    subst (Lacks 34) (take-whole (encode c)) (lacks-below 34 (encode c) (length (encode c)) (λ i lt at.
    let is : get_or (encode c) i 0 ≡ 34 = eqb-true (get_or (encode c) i 0) 34 at in
    let same : c ≡ get_or (encode c) i 0 = inside_one c [] (encode c) i (sym (append-nil (encode c))) lt (omega arith) in
    false≢true (sym e ∙ ap (λ n. n == 34) (same ∙ is))))

record Behind (front rest inner : List ℕ) : Type 0 where
  left : List ℕ
  is : inner ≡ front ++ left
  more : rest ≡ doubled left

nothing-doubled : (x : ℕ) (xs : List ℕ) → [] ≡ doubled (x ∷ xs) → ⊥
nothing-doubled x xs e = elim (cases_Bool (x == 34)) [ inl p ↦ absurd (cc (e, doubled-quote x xs p)) | inr p ↦ absurd (cc (e, doubled-other x xs p)) ]

plain-front : (front rest inner : List ℕ) → Lacks 34 front → front ++ rest ≡ doubled inner → Behind front rest inner
plain-front [] rest inner lacks e = record { left = inner; is = refl; more = e }
plain-front (p ∷ front) rest [] lacks e = absurd (cc e)
plain-front (p ∷ front) rest (x ∷ xs) lacks e = by (cases_Bool (x == 34)) (λ tails. plain-front front rest xs (and_parts (not (p == 34)) _ lacks).1 tails)
  where
    by : ((x == 34) ≡ true) ⊎ ((x == 34) ≡ false) → (front ++ rest ≡ doubled xs → Behind front rest xs) → Behind (p ∷ front) rest (x ∷ xs)
    by (inl q) more = absurd (no-quote p (and_parts (not (p == 34)) _ lacks).0 (ap first-byte (e ∙ doubled-quote x xs q)))
    by (inr q) more =
        let whole = e ∙ doubled-other x xs q in
        let behind = more (ap (drop 1) whole) in
        record { left = behind.left; is = ap (λ l. x ∷ l) behind.is ∙ ap (λ b. b ∷ (front ++ behind.left)) (sym (ap first-byte whole)); more = behind.more }

record Paired (rest inner : List ℕ) : Type 0 where
  left : List ℕ
  is : inner ≡ 34 ∷ left
  more : rest ≡ 34 ∷ doubled left

quote-front : (rest inner : List ℕ) → 34 ∷ rest ≡ doubled inner → Paired rest inner
quote-front rest [] e = absurd (cc e)
quote-front rest (x ∷ xs) e = elim (cases_Bool (x == 34)) [
  | inl q ↦ record { left = xs; is = ap (λ b. b ∷ xs) (eqb-true x 34 q); more = ap (drop 1) (e ∙ doubled-quote x xs q) }
  | inr q ↦ absurd (false≢true (sym q ∙ ap (λ b. b == 34) (sym (ap first-byte (e ∙ doubled-other x xs q)))))
]

-- doubled bytes are those of doubled characters
record Undoubled (cs inner : List ℕ) : Type 0 where
  ds : List ℕ
  chars_is : cs ≡ doubled ds
  encodes : encode_utf8_all ds ≡ inner

other-case : (c : ℕ) (cs inner : List ℕ) → (c == 34) ≡ false → encode c ++ encode_utf8_all cs ≡ doubled inner → ((left : List ℕ) → encode_utf8_all cs ≡ doubled left → Undoubled cs left)
    → Undoubled (c ∷ cs) inner
other-case c cs inner other e more =
    let behind = plain-front (encode c) (encode_utf8_all cs) inner (encode-plain c other) e in
    let rest = more behind.left behind.more in
    record {
      ds = c ∷ rest.ds;
      chars_is = ap (λ l. c ∷ l) rest.chars_is ∙ sym (doubled-other c rest.ds other);
      encodes = ap (λ l. encode c ++ l) rest.encodes ∙ sym behind.is;
    }

encode-quote : (c : ℕ) → (c == 34) ≡ true → encode c ≡ 34 ∷ []
encode-quote c e = ap encode (eqb-true c 34 e) ∙ encode_ascii 34 (omega arith)

pair-case : (c d : ℕ) (es inner : List ℕ) → (c == 34) ≡ true → encode c ++ (encode d ++ encode_utf8_all es) ≡ doubled inner
    → ((left : List ℕ) → encode_utf8_all es ≡ doubled left → Undoubled es left) → Undoubled (c ∷ d ∷ es) inner
pair-case c d es inner quote e more =
    let paired = quote-front (encode d ++ encode_utf8_all es) inner (sym (ap (λ l. l ++ (encode d ++ encode_utf8_all es)) (encode-quote c quote)) ∙ e) in
    let second = encode_same d 34 (encode_utf8_all es) (doubled paired.left) (paired.more ∙ ap (λ l. l ++ doubled paired.left) (sym (encode-quote 34 refl))) in
    let rest = more paired.left second.1 in
    record {
      ds = 34 ∷ rest.ds;
      chars_is = ap (λ n. n ∷ d ∷ es) (eqb-true c 34 quote) ∙ ap (λ n. 34 ∷ n ∷ es) second.0 ∙ ap (λ l. 34 ∷ 34 ∷ l) rest.chars_is;
      encodes = ap (λ l. l ++ encode_utf8_all rest.ds) (encode-quote 34 refl) ∙ ap (λ l. 34 ∷ l) rest.encodes ∙ sym paired.is;
    }

single-case : (c : ℕ) (inner : List ℕ) → (c == 34) ≡ true → encode c ++ [] ≡ doubled inner → ⊥
single-case c inner quote e =
    let paired = quote-front [] inner (sym (ap (λ l. l ++ []) (encode-quote c quote)) ∙ e) in
    cc paired.more

undoubled : (cs inner : List ℕ) → encode_utf8_all cs ≡ doubled inner → Undoubled cs inner
undoubled [] [] e = record { ds = []; chars_is = refl; encodes = refl }
undoubled [] (x ∷ xs) e = absurd (nothing-doubled x xs e)
undoubled (c ∷ []) inner e = elim (cases_Bool (c == 34)) [
  | inl quote ↦ absurd (single-case c inner quote e)
  | inr other ↦ other-case c [] inner other e (undoubled [])
]
undoubled (c ∷ d ∷ es) inner e = elim (cases_Bool (c == 34)) [
  | inl quote ↦ pair-case c d es inner quote e (undoubled es)
  | inr other ↦ other-case c (d ∷ es) inner other e (undoubled (d ∷ es))
]

scalars-doubled : (ds : List ℕ) → scalars (doubled ds) ≡ true → scalars ds ≡ true
scalars-doubled [] e = refl
scalars-doubled (d ∷ ds) e = elim (cases_Bool (d == 34)) [
  | inl q ↦
      let whole : (scalar 34 && (scalar 34 && scalars (doubled ds))) ≡ true = sym (ap scalars (doubled-quote d ds q)) ∙ e in
      let (head, tail) = and_parts (scalar 34) (scalar 34 && scalars (doubled ds)) whole in
      and_from (scalar d) (scalars ds) (ap scalar (eqb-true d 34 q) ∙ head) (scalars-doubled ds (and_parts (scalar 34) (scalars (doubled ds)) tail).1)
  | inr q ↦
      let (head, tail) = and_parts (scalar d) (scalars (doubled ds)) (sym (ap scalars (doubled-other d ds q)) ∙ e) in
      and_from (scalar d) (scalars ds) head (scalars-doubled ds tail)
]

-- `replace` takes the doubling back
replaced-doubled : (ds : List ℕ) → replaced_from (34 ∷ 34 ∷ []) (34 ∷ []) 0 (doubled ds) ≡ ds
replaced-doubled [] = refl
replaced-doubled (d ∷ ds) = elim (cases_Bool (d == 34)) [
  | inl q ↦
      ap (replaced_from (34 ∷ 34 ∷ []) (34 ∷ []) 0) (doubled-quote d ds q) ∙ ap (λ l. 34 ∷ l) (replaced-doubled ds) ∙ ap (λ n. n ∷ ds) (sym (eqb-true d 34 q))
  | inr q ↦
      let apart : (34 == d) ≡ false = grind (arith, nat_tests, q) in
      let none : begins (34 ∷ 34 ∷ []) (d ∷ doubled ds) ≡ false = ap (λ b. b && pointwise nat_eq (34 ∷ []) (take 1 (doubled ds))) apart in
      ap (replaced_from (34 ∷ 34 ∷ []) (34 ∷ []) 0) (doubled-other d ds q) ∙ rw none (ap (λ l. d ∷ l) (replaced-doubled ds))
]

quote-chars : chars (34 ∷ []) ≡ 34 ∷ []
quote-chars = chars-IsAscii (34 ∷ []) (IsAscii-cons 34 [] (omega arith) IsAscii-nil)

pair-chars : chars (34 ∷ 34 ∷ []) ≡ 34 ∷ 34 ∷ []
pair-chars = chars-IsAscii (34 ∷ 34 ∷ []) (IsAscii-cons 34 (34 ∷ []) (omega arith) (IsAscii-cons 34 [] (omega arith) IsAscii-nil))

pub undouble : (inner raw held : List ℕ) → IsUtf8 raw → raw ≡ doubled inner → held ≡ replace_of (chars raw) (chars (34 ∷ 34 ∷ [])) (chars (34 ∷ [])) → held ≡ chars inner
unfolding replace_of
undouble inner raw held u is e =
    let cs = chars raw in
    let got = undoubled cs inner (encodes-chars raw u ∙ is) in
    let scalar_ds = scalars-doubled got.ds (ap scalars (sym got.chars_is) ∙ scalars-chars raw u) in
    e ∙ ap (λ l. replace_of cs l (chars (34 ∷ []))) pair-chars ∙ ap (λ l. replace_of cs (34 ∷ 34 ∷ []) l) quote-chars
    ∙ ap (replaced_from (34 ∷ 34 ∷ []) (34 ∷ []) 0) got.chars_is ∙ replaced-doubled got.ds ∙ sym (chars-encodes got.ds scalar_ds) ∙ ap chars got.encodes
