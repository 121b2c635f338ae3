-- What trimming a text at its bytes does to its characters.
use Rattle.std.proofs.Common.{◌≡◌, ◌≢◌, ℕ, ◌-◌, false, cond, nat_eq, List, [], ◌∷◌, ◌++◌, length, drop, Option, None, Some, refl, sym, ap, subst, ◌∙◌, arith, chars, IsUtf8, encode_utf8_all, encode_utf8, ⊎_elim, reverse, IfSome, lit<}
use Rattle.std.specs.Str.{IsCharBoundary}
use Rattle.std.specs.Str.Pattern.{FindsCharPrefix, FindsCharSuffix, CutsPrefixes, CutsSuffixes, IsFullyTrimmed, IsTrimStartMatches, IsTrimEndMatches}
use Rattle.std.proofs.lemmas.Bool.{cases_eq, cases_Bool, eqb-true}
use Rattle.std.proofs.lemmas.List.{take-append-drop, reverse-append, reverse-reverse, append-nil, drop_all}
use Rattle.std.proofs.lemmas.Str.{encodes-chars, chars-nil, chars-append, chars_past_char, encode_ascii, encodes-append, IsUtf8-past_char, IsUtf8-take}
use Rattle.vtl_text.specs.Texts.{ltrim_of, rtrim_of}

-- a text that begins with a space, and the rest
ltrim-step : (m r : List ℕ) → IsUtf8 m → m ≡ encode_utf8 32 ++ r → ltrim_of (chars m) ≡ ltrim_of (chars r)
ltrim-step m r u e = ap ltrim_of (chars_past_char m r 32 u e)

ltrim-cuts : (s r : List ℕ) (ns : List ℕ) → IsUtf8 s → CutsPrefixes (FindsCharPrefix 32) s ns r → IsUtf8 r × (ltrim_of (chars s) ≡ ltrim_of (chars r))
ltrim-cuts s r [] u h = (subst IsUtf8 (sym h) u, ap (λ l. ltrim_of (chars l)) (sym h))
ltrim-cuts s r (n ∷ ns) u h =
    let before = ltrim-cuts s h.0 ns u h.1 in
    let split : h.0 ≡ encode_utf8 32 ++ r = h.2.split ∙ ap (λ l. encode_utf8 32 ++ l) (sym h.3) in
    (IsUtf8-past_char h.0 r 32 before.0 split, before.1 ∙ ltrim-step h.0 r before.0 split)

not_eq : (c : ℕ) → c ≢ 32 → nat_eq c 32 ≡ false
not_eq c other = ⊎_elim (λ yes. absurd (other (eqb-true c 32 yes))) (λ k. k) (cases_Bool (nat_eq c 32))

-- no space leads
ltrim-same : (cs : List ℕ) → ((ys : List ℕ) → cs ≢ 32 ∷ ys) → ltrim_of cs ≡ cs
ltrim-same [] none = refl
ltrim-same (c ∷ cs) none =
    ⊎_elim (λ same. absurd (none cs (ap (λ x. x ∷ cs) same))) (λ other. ap (λ b. cond b (ltrim_of cs) (c ∷ cs)) (not_eq c other)) (cases_eq c 32)

no_space_at : (r : List ℕ) (o : Option ℕ) → FindsCharPrefix 32 r o → IfSome o (λ n. n ≡ 0) → (rest : List ℕ) → r ≢ encode_utf8 32 ++ rest
no_space_at r None none _ rest e = none rest e
no_space_at r (Some n) at empty rest e = omega (arith, at.ends, empty)

no_space_leads : (r : List ℕ) → IsFullyTrimmed (FindsCharPrefix 32) r → (rest : List ℕ) → r ≢ encode_utf8 32 ++ rest
no_space_leads r h = no_space_at r h.0 h.1 h.2

pub ltrim_is : (s r : List ℕ) → IsUtf8 s → IsTrimStartMatches (FindsCharPrefix 32) s r → chars r ≡ ltrim_of (chars s)
ltrim_is s r u h =
    let cut = ltrim-cuts s r h.0.0 u h.0.1 in
    sym (cut.1 ∙ ltrim-same (chars r) (λ ys e. no_space_leads r h.1 (encode_utf8_all ys) (sym (encodes-chars r cut.0) ∙ ap encode_utf8_all e)))

one_space : chars (encode_utf8 32) ≡ 32 ∷ []
one_space = ap chars (encode_ascii 32 (lit< tt)) ∙ chars_past_char (32 ∷ []) [] 32 (32 ∷ [], (refl, ap (λ l. l ++ []) (encode_ascii 32 (lit< tt)))) (sym (ap (λ l. l ++ []) (encode_ascii 32 (lit< tt)))) ∙ ap (λ l. 32 ∷ l) chars-nil

rtrim-push : (cs : List ℕ) → rtrim_of (cs ++ 32 ∷ []) ≡ rtrim_of cs
unfolding rtrim_of
rtrim-push cs = ap (λ l. reverse (ltrim_of l)) (reverse-append cs (32 ∷ []))

rtrim-step : (m r : List ℕ) → IsUtf8 r → m ≡ r ++ encode_utf8 32 → rtrim_of (chars m) ≡ rtrim_of (chars r)
rtrim-step m r u e = ap (λ l. rtrim_of (chars l)) e ∙ ap rtrim_of (chars-append r (encode_utf8 32) u ∙ ap (λ l. chars r ++ l) one_space) ∙ rtrim-push (chars r)

rtrim-cuts : (s r : List ℕ) (ns : List ℕ) → IsUtf8 s → CutsSuffixes (FindsCharSuffix 32) s ns r → IsUtf8 r × (rtrim_of (chars s) ≡ rtrim_of (chars r))
rtrim-cuts s r [] u h = (subst IsUtf8 (sym h) u, ap (λ l. rtrim_of (chars l)) (sym h))
rtrim-cuts s r (n ∷ ns) u h =
    let m = h.0 in
    let before = rtrim-cuts s m ns u h.1 in
    let at = h.2.1 in
    let end : drop (length m) m ≡ [] = drop_all (length m) m (omega arith) in
    let split : m ≡ r ++ encode_utf8 32 =
    sym (take-append-drop (length m - n) m) ∙ ap (λ l. l ++ drop (length m - n) m) (sym h.3)
    ∙ ap (λ l. r ++ l) (at.split ∙ ap (λ l. encode_utf8 32 ++ l) end ∙ append-nil (encode_utf8 32)) in
    let text : IsUtf8 r = subst IsUtf8 (sym h.3) (IsUtf8-take m (length m - n) before.0 (subst (λ k. IsCharBoundary m (length m - k)) (sym h.2.0) h.2.2)) in
    (text, before.1 ∙ rtrim-step m r text split)

no_space_before : (r : List ℕ) (o : Option ℕ) → FindsCharSuffix 32 r o → IfSome o (λ n. n ≡ 0) → (front : List ℕ) → r ≢ front ++ encode_utf8 32
no_space_before r None none _ front e = none front e
no_space_before r (Some n) at empty front e = omega (arith, at.0, empty)

no_space_trails : (r : List ℕ) → IsFullyTrimmed (FindsCharSuffix 32) r → (front : List ℕ) → r ≢ front ++ encode_utf8 32
no_space_trails r h = no_space_before r h.0 h.1 h.2

pub rtrim_is : (s r : List ℕ) → IsUtf8 s → IsTrimEndMatches (FindsCharSuffix 32) s r → chars r ≡ rtrim_of (chars s)
unfolding rtrim_of
rtrim_is s r u h =
    let cut = rtrim-cuts s r h.0.0 u h.0.1 in
    let kept : ltrim_of (reverse (chars r)) ≡ reverse (chars r) =
    ltrim-same (reverse (chars r)) (λ ys e.
    let last : chars r ≡ reverse ys ++ 32 ∷ [] = sym (reverse-reverse (chars r)) ∙ ap reverse e ∙ reverse-append (32 ∷ []) ys in
    no_space_trails r h.1 (encode_utf8_all (reverse ys))
    (sym (encodes-chars r cut.0) ∙ ap encode_utf8_all last ∙ encodes-append (reverse ys) (32 ∷ []) ∙ ap (λ l. encode_utf8_all (reverse ys) ++ l) (append-nil (encode_utf8 32)))) in
    sym (cut.1 ∙ ap reverse kept ∙ reverse-reverse (chars r))
