-- The name of a table up to its first dollar, in bytes and in characters.
use Rattle.std.proofs.Common.{◌≡◌, ◌==◌, ◌+◌, ℕ, suc, Bool, true, false, List, [], ◌∷◌, ◌++◌, length, take, drop, refl, sym, ap, ◌∙◌, subst, arith, append_assoc, length-append}
use Rattle.std.specs.Prelude.{chars}
use Rattle.std.specs.Str.{NonePass, NoCharPasses}
use Rattle.std.proofs.lemmas.Str.{chars-encodes, encode_same, len_utf8_bounds, length-encode}
use Rattle.std.proofs.lemmas.List.{take-append-drop}
use Rattle.std.proofs.lemmas.Bool.{and_parts}
use lib.Utf8.{encode, encodes, scalar, scalars}
use Rattle.sql_meaning.specs.Scripts.{dollar, fault_name}

add-one-first : {n : ℕ} → 1 + n ≡ suc n
add-one-first = omega arith

abbrev pub is_dollar : ℕ → Bool
is_dollar x = x == dollar

before_more : (x : ℕ) (xs : List ℕ) → is_dollar x ≡ false → fault_name (x ∷ xs) ≡ x ∷ fault_name xs
before_more x xs e = rw (e, add-one-first) refl

before_none : (x : ℕ) (xs : List ℕ) → is_dollar x ≡ true → fault_name (x ∷ xs) ≡ []
before_none x xs e = rw e refl

some_bytes : (c : ℕ) (r : List ℕ) → encode c ++ r ≡ [] → ⊥
some_bytes c r e = omega (arith, ap length e, length-append (encode c) r, length-encode c, (len_utf8_bounds c).0)

-- a text is these characters, none of them a dollar, then one, and then others
front_is : (cs name : List ℕ) (rest : List ℕ) → NonePass is_dollar cs → scalars name ≡ true → encodes cs ++ (encode dollar ++ rest) ≡ encodes name → (fault_name name ≡ cs) × (scalars cs ≡ true)
front_is [] [] rest none all e = absurd (some_bytes dollar rest e)
front_is [] (d ∷ ds) rest none all e =
    let same = (encode_same dollar d rest (encodes ds) e).0 in
    (before_none d ds (subst (λ (x : ℕ). is_dollar x ≡ true) same refl), refl)
front_is (c ∷ cs) [] rest none all e = absurd (some_bytes c (encodes cs ++ (encode dollar ++ rest)) (sym (append_assoc (encode c) (encodes cs) (encode dollar ++ rest)) ∙ e))
front_is (c ∷ cs) (d ∷ ds) rest none all e =
    let same = encode_same c d (encodes cs ++ (encode dollar ++ rest)) (encodes ds) (sym (append_assoc (encode c) (encodes cs) (encode dollar ++ rest)) ∙ e) in
    let parts = and_parts (scalar d) (scalars ds) all in
    let ih = front_is cs ds rest none.1 parts.1 same.1 in
    (subst (λ (x : ℕ). fault_name (x ∷ ds) ≡ c ∷ cs) same.0 (before_more c ds none.0 ∙ ap (λ l. c ∷ l) ih.0), rw (same.0, parts.0, ih.1) refl)

-- a text without a dollar
whole_is : (cs name : List ℕ) → NonePass is_dollar cs → encodes cs ≡ encodes name → fault_name name ≡ name
whole_is [] [] none e = refl
whole_is [] (d ∷ ds) none e = absurd (some_bytes d (encodes ds) (sym e))
whole_is (c ∷ cs) [] none e = absurd (some_bytes c (encodes cs) e)
whole_is (c ∷ cs) (d ∷ ds) none e =
    let same = encode_same c d (encodes cs) (encodes ds) e in
    before_more d ds (subst (λ (x : ℕ). is_dollar x ≡ false) same.0 none.0) ∙ ap (λ l. d ∷ l) (whole_is cs ds none.1 same.1)

-- ---- as a search in bytes finds it

pub front_named : (name : List ℕ) (i j : ℕ) → scalars name ≡ true → NoCharPasses is_dollar (take i (encodes name)) → drop i (encodes name) ≡ encode dollar ++ drop j (encodes name) → chars (take i (encodes name)) ≡ fault_name name
front_named name i j all none at =
    let cs = none.0 in
    let whole : encodes cs ++ (encode dollar ++ drop j (encodes name)) ≡ encodes name =
    ap (λ l. l ++ (encode dollar ++ drop j (encodes name))) none.1 ∙ ap (λ l. take i (encodes name) ++ l) (sym at) ∙ take-append-drop i (encodes name) in
    let is = front_is cs name (drop j (encodes name)) none.2 all whole in
    ap chars (sym none.1) ∙ chars-encodes cs is.1 ∙ sym is.0

pub name_without : (name : List ℕ) → NoCharPasses is_dollar (encodes name) → name ≡ fault_name name
name_without name none = sym (whole_is none.0 name none.2 none.1)
