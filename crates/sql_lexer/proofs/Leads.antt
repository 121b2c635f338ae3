-- What the first character of a text tells of the token that starts there.
use Rattle.std.proofs.Common.{◌≡◌, ◌∷◌, ◌++◌, ◌∙◌, ◌==◌, [], ℕ, List, true, false, ap, refl, arith, if◌then◌else◌, append_assoc}
use Rattle.std.specs.Char.{is_ascii_digit}
use Rattle.std.specs.List.{list_all}
use Rattle.std.proofs.lemmas.Bool.{and_parts}
use Rattle.std.proofs.lemmas.Bool.Decides.{nat_tests}
use Rattle.sql_lexer.specs.Front.{Closes, kind_of, mark_of}
use Rattle.sql_lexer.specs.Lexed.{Starts}
use Rattle.sql_lexer.specs.Spelling.{IsDigits, IsFormed, spelled, spelling}
use Rattle.sql_lexer.specs.declared.quotes.Quotes.{Quotes}
use Rattle.sql_lexer.specs.declared.quotes.Quotes.TheVariants as q
use Rattle.sql_lexer.specs.declared.token.TokenKind.{TokenKind}
use Rattle.sql_lexer.specs.declared.token.TokenKind.TheVariants as k
use Rattle.sql_lexer.specs.declared.token.Word.{Word}
use Rattle.sql_lexer.specs.declared.token.Word.TheVariants as w

pub data Lead : Type 0 where
  quote : Lead
  apostrophe : Lead
  digit : Lead
  other : Lead
  nothing : Lead

abbrev pub lead : ℕ → Lead
lead c = if c == 34 then quote else if c == 39 then apostrophe else if is_ascii_digit c then digit else other

abbrev pub lead_of : List ℕ → Lead
lead_of [] = nothing
lead_of (c ∷ cs) = lead c

abbrev pub lead_kind : TokenKind → Lead
lead_kind (k.Word word) = other
lead_kind (k.Name name) = quote
lead_kind (k.Text text) = apostrophe
lead_kind (k.Int digits) = digit
lead_kind (k.Dec number) = digit

word-lead : (word : Word) (rest : List ℕ) → lead_of (spelling word ++ rest) ≡ other
word-lead w.NotEqual rest = refl
word-lead _ rest = refl

pub digit-lead : (c : ℕ) → is_ascii_digit c ≡ true → lead c ≡ digit
digit-lead c e =
    let a : (c == 34) ≡ false = grind (arith, nat_tests, e) in
    let b : (c == 39) ≡ false = grind (arith, nat_tests, e) in
    rw (a, b, e) refl

digits-lead : (cs rest : List ℕ) → IsDigits cs → lead_of (cs ++ rest) ≡ digit
digits-lead [] rest d = absurd (omega (arith, d.0))
digits-lead (c ∷ cs) rest d = digit-lead c (and_parts (is_ascii_digit c) (list_all is_ascii_digit cs) d.1).0

pub spelled-lead : (kind : TokenKind) (rest : List ℕ) → IsFormed kind → lead_of (spelled kind ++ rest) ≡ lead_kind kind
spelled-lead (k.Word word) rest formed = word-lead word rest
spelled-lead (k.Name name) rest formed = refl
spelled-lead (k.Text text) rest formed = refl
spelled-lead (k.Int digits) rest formed = digits-lead digits rest formed
spelled-lead (k.Dec number) rest formed =
    ap (λ l. lead_of (l ++ rest)) formed.is ∙ ap lead_of (append_assoc formed.whole (46 ∷ formed.part) rest) ∙ digits-lead formed.whole (46 ∷ formed.part ++ rest) formed.before

pub starts-lead : (text : List ℕ) (kind : TokenKind) (rest : List ℕ) → Starts text kind rest → lead_of text ≡ lead_kind kind
starts-lead text kind rest h = ap lead_of h.split ∙ spelled-lead kind rest h.formed

-- ---- a token between quotes

pub record Quoted (quotes : Quotes) (body : List ℕ) (kind : TokenKind) (rest : List ℕ) : Type 0 where
  pub content : List ℕ
  pub is : kind ≡ kind_of quotes content
  pub closes : Closes quotes body content rest

pub quoted-there : (quotes : Quotes) (body : List ℕ) (kind : TokenKind) (rest : List ℕ) → Starts (mark_of quotes ∷ body) kind rest → Quoted quotes body kind rest
quoted-there quotes body kind rest h = by quotes kind (starts-lead (mark_of quotes ∷ body) kind rest h) h.formed h.split
  where
    by : (quotes : Quotes) (kind : TokenKind) → lead (mark_of quotes) ≡ lead_kind kind → IsFormed kind → mark_of quotes ∷ body ≡ spelled kind ++ rest → Quoted quotes body kind rest
    by q.Name (k.Name name) lead formed e =
        let tails : body ≡ _ = cc e in
        record { content = name; is = refl; closes = record { allowed = formed; split = tails ∙ append_assoc _ (34 ∷ []) rest } }
    by q.Text (k.Text text) lead formed e =
        let tails : body ≡ _ = cc e in
        record { content = text; is = refl; closes = record { allowed = refl; split = tails ∙ append_assoc _ (39 ∷ []) rest } }
    by q.Name kind lead formed e = absurd (cc lead)
    by q.Text kind lead formed e = absurd (cc lead)
