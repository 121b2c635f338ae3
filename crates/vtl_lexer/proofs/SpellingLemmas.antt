-- What the first byte of a token tells of its kind, and that a spelling has one kind.
use Rattle.std.proofs.Common.{◌≡◌, ◌≢◌, ◌<◌, ◌∷◌, ◌++◌, ◌∙◌, ◌==◌, [], ℕ, List, Bool, Option, Some, None, true, false, not, cond, length, chars, sym, ap, subst, refl, arith, inl, inr, length-append}
use Rattle.std.specs.Char.{is_ascii_alphabetic, is_ascii_digit}
use Rattle.std.specs.List.{list_all}
use Rattle.std.proofs.lemmas.Bool.{and_parts, cases_Bool, false≢true}
use Rattle.std.proofs.lemmas.Bool.Decides.{nat_tests}
use Rattle.std.proofs.lemmas.List.Folds.{list_all-append}
use Rattle.vtl_text.specs.Words.{fits_name, is_name, is_reserved, is_word, is_word_character, starts_with_letter}
use Rattle.vtl_lexer.specs.Leads.{lead_byte_of, lead_of}
use Rattle.vtl_lexer.specs.declared.lead.Lead.{Lead}
use Rattle.vtl_lexer.specs.declared.lead.Lead.TheVariants.{Nothing, Letter, Digit, Quote, DoubleQuote, Other}
use Rattle.vtl_lexer.specs.Signs.{sign_of_one, sign_of_two}
use Rattle.vtl_lexer.specs.Spelling.{IsDigits, Spells, doubled, spelling}
use Rattle.vtl_lexer.specs.declared.token.Sign.{Sign}
use Rattle.vtl_lexer.specs.declared.token.Sign.TheVariants as s
use Rattle.vtl_lexer.specs.declared.token.TokenKind.{TokenKind}
use Rattle.vtl_lexer.specs.declared.token.TokenKind.TheVariants as k
use Rattle.vtl_lists.proofs.Runs.{front-same}
use Rattle.vtl_lexer.proofs.ReservedLemmas.{keyword-reserved, keyword-word, one-keyword}

-- what a token of each kind begins with
abbrev pub lead_kind : TokenKind → Lead
lead_kind (k.Name word) = Letter
lead_kind (k.Keyword keyword) = Letter
lead_kind (k.QuotedName name) = Quote
lead_kind (k.Integer digits) = Digit
lead_kind (k.Decimal number) = Digit
lead_kind (k.String text) = DoubleQuote
lead_kind (k.Sign sign) = Other

pub letter-lead : (byte : ℕ) → is_ascii_alphabetic byte ≡ true → lead_byte_of byte ≡ Letter
letter-lead byte e = rw e refl

pub digit-lead : (byte : ℕ) → is_ascii_digit byte ≡ true → lead_byte_of byte ≡ Digit
digit-lead byte e =
    let a : is_ascii_alphabetic byte ≡ false = grind (arith, nat_tests, e) in
    rw (a, e) refl

word-lead : (bytes : List ℕ) → is_word bytes ≡ true → lead_of bytes ≡ Letter
unfolding is_word
word-lead [] e = absurd (false≢true (and_parts (fits_name []) _ e).1)
word-lead (byte ∷ bytes) e =
    let rest = (and_parts (fits_name (byte ∷ bytes)) _ e).1 in
    letter-lead byte (and_parts (is_ascii_alphabetic byte) (list_all is_word_character (byte ∷ bytes)) rest).0

-- a word has word characters only
pub word-characters : (bytes : List ℕ) → is_word bytes ≡ true → list_all is_word_character bytes ≡ true
unfolding is_word
word-characters bytes e =
    (and_parts (starts_with_letter bytes) (list_all is_word_character bytes) (and_parts (fits_name bytes) _ e).1).1

pub name-word : (bytes : List ℕ) → is_name bytes ≡ true → (is_word bytes ≡ true) × (is_reserved bytes ≡ false)
unfolding is_name
name-word bytes e =
    let parts = and_parts (is_word bytes) (not (is_reserved bytes)) e in
    (parts.0, elim (cases_Bool (is_reserved bytes)) [ inl e ↦ absurd (false≢true (rw e at parts.1)) | inr none ↦ none ])

digits-lead : (bytes : List ℕ) → IsDigits bytes → lead_of bytes ≡ Digit
digits-lead [] d = absurd (omega (arith, d.0))
digits-lead (byte ∷ bytes) d = digit-lead byte (and_parts (is_ascii_digit byte) (list_all is_ascii_digit bytes) d.1).0

lead-append : (bytes rest : List ℕ) → lead_of bytes ≢ Nothing → lead_of (bytes ++ rest) ≡ lead_of bytes
lead-append [] rest some = absurd (some refl)
lead-append (byte ∷ bytes) rest some = refl

sign-lead : (sign : Sign) → lead_of (spelling sign) ≡ Other
sign-lead s.Assign = refl
sign-lead _ = refl

pub lead-some : (kind : TokenKind) → lead_kind kind ≢ Nothing
lead-some (k.Name word) e = cc e
lead-some kind e = cc e

-- the first byte of a spelling tells its kind's lead
spelled-lead : (kind : TokenKind) (bytes : List ℕ) → Spells kind bytes → lead_of bytes ≡ lead_kind kind
spelled-lead (k.Name word) bytes h = word-lead bytes (subst (λ w. is_word w ≡ true) (sym h.0) (name-word word h.1).0)
spelled-lead (k.Keyword keyword) bytes h = word-lead bytes (keyword-word keyword bytes h)
spelled-lead (k.QuotedName name) bytes h = ap lead_of h.1
spelled-lead (k.Integer digits) bytes h = ap lead_of h.0 ∙ digits-lead digits h.1
spelled-lead (k.Decimal number) bytes h =
    let (whole, part, is, parts, d, f) = h in
    let first = digits-lead whole d in
    let some : lead_of whole ≢ Nothing = λ e. absurd (cc (first, e)) in
    ap lead_of (is ∙ parts) ∙ lead-append whole (46 ∷ part) some ∙ first
spelled-lead (k.String text) bytes h = ap lead_of h.1
spelled-lead (k.Sign sign) bytes h = ap lead_of h ∙ sign-lead sign

-- and so does that of a text that begins with it
pub front-lead : (kind : TokenKind) (text bytes rest : List ℕ) → text ≡ bytes ++ rest → Spells kind bytes → lead_of text ≡ lead_kind kind
front-lead kind text bytes rest e h =
    let first = spelled-lead kind bytes h in
    let some : lead_of bytes ≢ Nothing = λ none. lead-some kind (sym first ∙ none) in
    ap lead_of e ∙ lead-append bytes rest some ∙ first

pub spelled-some : (kind : TokenKind) (bytes : List ℕ) → Spells kind bytes → 0 < length bytes
spelled-some kind [] h = absurd (lead-some kind (sym (spelled-lead kind [] h)))
spelled-some kind (byte ∷ bytes) h = omega arith

-- a sign is told by its spelling
abbrev pub sign_of : List ℕ → Option Sign
sign_of [] = None
sign_of (first ∷ []) = sign_of_one first
sign_of (first ∷ second ∷ []) = sign_of_two first second
sign_of (first ∷ second ∷ third ∷ rest) = None

pub sign_of-spelling : (sign : Sign) → sign_of (spelling sign) ≡ Some sign
sign_of-spelling s.Assign = refl
sign_of-spelling _ = refl

one-sign : (a b : Sign) → spelling a ≡ spelling b → a ≡ b
one-sign a b e =
    let same : Some a ≡ Some b = sym (sign_of-spelling a) ∙ ap sign_of e ∙ sign_of-spelling b in
    cc same

-- what is doubled is told by the doubled bytes
doubled-one : (xs ys : List ℕ) → doubled xs ≡ doubled ys → xs ≡ ys
doubled-one [] [] e = refl
doubled-one [] (y ∷ ys) e = by (y == 34) e
  where
    by : (b : Bool) → [] ≡ cond b (34 ∷ 34 ∷ doubled ys) (y ∷ doubled ys) → [] ≡ y ∷ ys
    by true e = cc e
    by false e = cc e
doubled-one (x ∷ xs) [] e = by (x == 34) e
  where
    by : (b : Bool) → cond b (34 ∷ 34 ∷ doubled xs) (x ∷ doubled xs) ≡ [] → x ∷ xs ≡ []
    by true e = cc e
    by false e = cc e
doubled-one (x ∷ xs) (y ∷ ys) e = by (x == 34) (y == 34) refl refl e (doubled-one xs ys)
  where
    by : (b d : Bool) → (x == 34) ≡ b → (y == 34) ≡ d → cond b (34 ∷ 34 ∷ doubled xs) (x ∷ doubled xs) ≡ cond d (34 ∷ 34 ∷ doubled ys) (y ∷ doubled ys)
        → (doubled xs ≡ doubled ys → xs ≡ ys) → x ∷ xs ≡ y ∷ ys
    by true true p q e more =
        let first : x ≡ 34 = grind (arith, nat_tests, p) in
        let second : y ≡ 34 = grind (arith, nat_tests, q) in
        let tails : doubled xs ≡ doubled ys = cc e in
        let rest = more tails in
        cc
    by true false p q e more =
        let second : y ≢ 34 = grind (arith, nat_tests, q) in
        let is : 34 ≡ y = cc e in
        absurd (second (sym is))
    by false true p q e more =
        let first : x ≢ 34 = grind (arith, nat_tests, p) in
        let is : x ≡ 34 = cc e in
        absurd (first is)
    by false false p q e more =
        let heads : x ≡ y = cc e in
        let tails : doubled xs ≡ doubled ys = cc e in
        let rest = more tails in
        cc

-- what stands before the last byte
init-same : (xs ys : List ℕ) (byte : ℕ) → xs ++ byte ∷ [] ≡ ys ++ byte ∷ [] → xs ≡ ys
init-same xs ys byte e = (front-same xs ys (byte ∷ []) (byte ∷ []) e (omega (arith, ap length e, length-append xs (byte ∷ []), length-append ys (byte ∷ [])))).0

-- digits have no point
digits-no_point : (whole part : List ℕ) → list_all is_ascii_digit (whole ++ 46 ∷ part) ≡ true → ⊥
digits-no_point whole part e =
    false≢true (and_parts (list_all is_ascii_digit whole) false (sym (list_all-append is_ascii_digit whole (46 ∷ part)) ∙ e)).1

-- a spelling is that of one kind
pub one-kind : (a b : TokenKind) (bytes : List ℕ) → lead_kind a ≡ lead_kind b → Spells a bytes → Spells b bytes → a ≡ b
one-kind (k.Name v) (k.Name w) bytes e g h = let same : v ≡ w = sym g.0 ∙ h.0 in ap k.Name same
one-kind (k.Name v) (k.Keyword b) bytes e g h =
    absurd (false≢true (sym (name-word v g.1).1 ∙ ap is_reserved (sym g.0) ∙ keyword-reserved b bytes h))
one-kind (k.Keyword a) (k.Name w) bytes e g h =
    absurd (false≢true (sym (name-word w h.1).1 ∙ ap is_reserved (sym h.0) ∙ keyword-reserved a bytes g))
one-kind (k.Keyword a) (k.Keyword b) bytes e g h = ap k.Keyword (one-keyword a b bytes g h)
one-kind (k.QuotedName v) (k.QuotedName w) bytes e g h =
    let inner : g.0 ++ 39 ∷ [] ≡ h.0 ++ 39 ∷ [] = cc (g.1, h.1) in
    let same : v ≡ w = g.3 ∙ ap chars (init-same g.0 h.0 39 inner) ∙ sym h.3 in
    ap k.QuotedName same
one-kind (k.Integer v) (k.Integer w) bytes e g h = let same : v ≡ w = sym g.0 ∙ h.0 in ap k.Integer same
one-kind (k.Integer v) (k.Decimal w) bytes e g h =
    let (whole, part, is, parts, d, f) = h in
    absurd (digits-no_point whole part (subst (λ l. list_all is_ascii_digit l ≡ true) (sym g.0 ∙ is ∙ parts) g.1.1))
one-kind (k.Decimal v) (k.Integer w) bytes e g h =
    let (whole, part, is, parts, d, f) = g in
    absurd (digits-no_point whole part (subst (λ l. list_all is_ascii_digit l ≡ true) (sym h.0 ∙ is ∙ parts) h.1.1))
one-kind (k.Decimal v) (k.Decimal w) bytes e g h = let same : v ≡ w = sym g.2 ∙ h.2 in ap k.Decimal same
one-kind (k.String v) (k.String w) bytes e g h =
    let inner : doubled g.0 ++ 34 ∷ [] ≡ doubled h.0 ++ 34 ∷ [] = cc (g.1, h.1) in
    let same : v ≡ w = g.2 ∙ ap chars (doubled-one g.0 h.0 (init-same (doubled g.0) (doubled h.0) 34 inner)) ∙ sym h.2 in
    ap k.String same
one-kind (k.Sign v) (k.Sign w) bytes e g h = ap k.Sign (one-sign v w (sym g ∙ h))
one-kind a b bytes e g h = absurd (cc e)
