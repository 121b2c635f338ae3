-- The word at the front of a text.
use Rattle.std.proofs.Common.{◌≡◌, ◌≤◌, ◌<◌, ◌∷◌, ◌∙◌, ◌&&◌, [], ℕ, zero, suc, List, Bool, Some, true, false, not, length, take, drop, chars, encode_utf8_all, nat_le, sym, ap, subst, refl, arith, IsUtf8}
use Rattle.std.specs.Char.{is_ascii_alphabetic}
use Rattle.std.specs.List.{list_all}
use Rattle.std.specs.Str.{IsCharBoundary}
use Rattle.std.proofs.lemmas.Bool.{and_from, and_parts, false≢true}
use Rattle.std.proofs.lemmas.Bool.Decides.{nat_tests}
use Rattle.std.proofs.lemmas.List.{length-take-le, take-append-drop}
use Rattle.std.proofs.lemmas.Str.{encodes-IsAscii, chars-IsAscii}
use Rattle.vtl_text.specs.Words.{fits_name, is_name, is_reserved, is_word, is_word_character, starts_with_letter}
use Rattle.vtl_lexer.specs.Found.{IsTokenOf, IsWordKind}
use Rattle.vtl_lexer.specs.Keywords.{word_of}
use Rattle.vtl_lexer.specs.Leads.{lead_of}
use Rattle.vtl_lexer.specs.Spelling.{Spells}
use Rattle.vtl_lists.specs.Runs.{begins_with}
use Rattle.vtl_lexer.specs.Tokens.{NoToken, goes_on}
use Rattle.vtl_lexer.specs.declared.keyword.Keyword.{Keyword}
use Rattle.vtl_lexer.specs.declared.lead.Lead.TheVariants.{Letter}
use Rattle.vtl_lexer.specs.declared.token.TokenKind.{TokenKind}
use Rattle.vtl_lexer.specs.declared.token.TokenKind.TheVariants as k
use Rattle.vtl_lexer.proofs.CutLemmas.{all-ascii, cut-run, word-ascii}
use Rattle.vtl_lexer.proofs.LeadLemmas.{lead-letter}
use Rattle.vtl_lists.proofs.Runs.{run-longest, run-same}
use Rattle.vtl_lexer.proofs.ReservedLemmas.{keyword-word}
use Rattle.vtl_lexer.proofs.SearchLemmas.{IsRun}
use Rattle.vtl_lexer.proofs.SpellingLemmas.{front-lead, lead_kind, name-word, word-characters}

letter-word : (byte : ℕ) → is_ascii_alphabetic byte ≡ true → is_word_character byte ≡ true
letter-word byte e = grind (arith, nat_tests, e)

-- there is one
pub run-some : (text : List ℕ) (size : ℕ) → lead_of text ≡ Letter → IsRun is_word_character text size → 0 < size
run-some [] size lead run = absurd (cc lead)
run-some (byte ∷ rest) zero lead run = absurd (false≢true (sym run.stops ∙ letter-word byte (lead-letter byte lead)))
run-some (byte ∷ rest) (suc size) lead run = omega arith

pub word-cut : (text : List ℕ) (size : ℕ) → IsUtf8 text → lead_of text ≡ Letter → IsRun is_word_character text size → IsCharBoundary text size
word-cut text size u lead run = cut-run is_word_character text size word-ascii u (run-some text size lead run) run.within run.passes

fits-ascii : (bytes : List ℕ) → list_all is_word_character bytes ≡ true → length (encode_utf8_all bytes) ≡ length bytes
fits-ascii bytes e = ap length (encodes-IsAscii bytes (all-ascii is_word_character bytes word-ascii e))

starts : (text : List ℕ) (size : ℕ) → lead_of text ≡ Letter → 0 < size → starts_with_letter (take size text) ≡ true
starts [] size lead some = absurd (cc lead)
starts (byte ∷ rest) zero lead some = absurd (omega arith)
starts (byte ∷ rest) (suc size) lead some = lead-letter byte lead

pub word-is : (text : List ℕ) (size : ℕ) → lead_of text ≡ Letter → IsRun is_word_character text size → size ≤ 64 → is_word (take size text) ≡ true
unfolding is_word
word-is text size lead run short =
    let bytes = take size text in
    let sizes : length (encode_utf8_all bytes) ≡ size = fits-ascii bytes run.passes ∙ length-take-le size text run.within in
    let fits : nat_le (length (encode_utf8_all bytes)) 64 ≡ true = grind (arith, nat_tests) in
    and_from (fits_name bytes) _ fits (and_from (starts_with_letter bytes) (list_all is_word_character bytes) (starts text size lead (run-some text size lead run)) run.passes)

same-test : (f g : ℕ → Bool) (rest : List ℕ) → ((byte : ℕ) → f byte ≡ g byte) → begins_with g rest ≡ false → begins_with f rest ≡ false
same-test f g [] same e = refl
same-test f g (byte ∷ rest) same e = same byte ∙ e

-- only words start with a letter
pub letter-kind : (kind : TokenKind) (bytes : List ℕ) → lead_kind kind ≡ Letter → Spells kind bytes → is_word bytes ≡ true
letter-kind (k.Name word) bytes lead spelled = subst (λ w. is_word w ≡ true) (sym spelled.0) (name-word word spelled.1).0
letter-kind (k.Keyword keyword) bytes lead spelled = keyword-word keyword bytes spelled
letter-kind kind bytes lead spelled = absurd (cc lead)

letter-stops : (kind : TokenKind) (rest : List ℕ) → lead_kind kind ≡ Letter → begins_with (goes_on kind) rest ≡ false → begins_with is_word_character rest ≡ false
letter-stops (k.Name word) rest lead ends = ends
letter-stops (k.Keyword keyword) rest lead ends = ends
letter-stops kind rest lead ends = absurd (cc lead)

pub word-token : (text : List ℕ) (size : ℕ) (kind : TokenKind) → lead_of text ≡ Letter → IsRun is_word_character text size → IsWordKind kind (take size text)
    → IsTokenOf text (record { kind = kind; size = size })
word-token text size kind lead run is = record {
  within = run.within;
  token = record {
    spelled = is.spelled;
    ends = same-test (goes_on kind) is_word_character (drop size text) is.goes_on run.stops;
    longest = λ other more behind e spelled.
        let kind_lead = sym (front-lead other text more behind (sym (take-append-drop size text) ∙ e) spelled) ∙ lead in
        run-longest is_word_character (take size text) (drop size text) more behind e run.stops (word-characters more (letter-kind other more kind_lead spelled));
  };
}

word-short : (bytes : List ℕ) → is_word bytes ≡ true → 64 < length bytes → ⊥
unfolding is_word
word-short bytes word long =
    let fits : nat_le (length (encode_utf8_all bytes)) 64 ≡ true = (and_parts (fits_name bytes) _ word).0 in
    let sizes = fits-ascii bytes (word-characters bytes word) in
    let short : length (encode_utf8_all bytes) ≤ 64 = grind (arith, nat_tests, fits) in
    omega (arith, short, sizes, long)

-- no part of a word that is too long is a token
pub word-long : (text : List ℕ) (size : ℕ) → lead_of text ≡ Letter → IsRun is_word_character text size → 64 < size → NoToken text
word-long text size lead run long kind bytes rest e token =
    let kind_lead = sym (front-lead kind text bytes rest e token.spelled) ∙ lead in
    let word = letter-kind kind bytes kind_lead token.spelled in
    let characters = word-characters bytes word in
    let same = run-same is_word_character (take size text) (drop size text) bytes rest (take-append-drop size text ∙ e) run.passes run.stops characters (letter-stops kind rest kind_lead token.ends) in
    word-short bytes word (omega (arith, ap length same.0, length-take-le size text run.within))

-- what kind a word is of
chars-same : (bytes : List ℕ) → is_word bytes ≡ true → chars bytes ≡ bytes
chars-same bytes word = chars-IsAscii bytes (all-ascii is_word_character bytes word-ascii (word-characters bytes word))

pub keyword-kind : (bytes : List ℕ) (keyword : Keyword) → is_word bytes ≡ true → chars bytes ≡ word_of keyword → IsWordKind (k.Keyword keyword) bytes
keyword-kind bytes keyword word e = record { spelled = sym (chars-same bytes word) ∙ e; goes_on = λ byte. refl }

pub name-kind : (bytes name : List ℕ) → is_word bytes ≡ true → is_reserved (chars bytes) ≡ false → name ≡ chars bytes → IsWordKind (k.Name name) bytes
unfolding is_name
name-kind bytes name word free e =
    let is : name ≡ bytes = e ∙ chars-same bytes word in
    record {
      spelled = (sym is, subst (λ w. (is_word w && not (is_reserved w)) ≡ true) (sym is) (and_from (is_word bytes) _ word (ap not (ap is_reserved (sym (chars-same bytes word)) ∙ free))));
      goes_on = λ byte. refl;
    }
