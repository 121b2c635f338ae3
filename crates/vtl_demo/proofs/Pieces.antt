-- A text that is put together of words, signs and white space has these tokens: what is asked of each piece is a test that computes.
use Rattle.std.proofs.Common.{◌≡◌, ◌+◌, ◌∷◌, ◌++◌, ◌&&◌, ◌==◌, [], ℕ, List, Bool, Option, Some, None, true, false, not, length, take, drop, sym, ap, subst, refl, arith, length-append}
use Rattle.std.specs.Char.{is_ascii_alphabetic, is_ascii_digit}
use Rattle.std.specs.List.{list_all, slice_get}
use Rattle.std.specs.Option.{is_none, is_some, unwrap_or}
use Rattle.std.proofs.lemmas.Bool.{and_parts, false≢true, not-true}
use Rattle.vtl_text.specs.Words.{is_name, is_word_character}
use Rattle.vtl_lists.specs.Runs.{begins_with}
use Rattle.vtl_lexer.specs.Found.{IsTokenOf, IsWordKind}
use Rattle.vtl_lexer.specs.Gaps.{is_white_space, white_space}
use Rattle.vtl_lexer.specs.Keywords.{word_of}
use Rattle.vtl_lexer.specs.Leads.{lead_of}
use Rattle.vtl_lexer.specs.Lexed.{Lexes, at_end, behind_gap, behind_token}
use Rattle.vtl_lexer.specs.Signs.{begins_comment, sign_of_one, sign_of_two}
use Rattle.vtl_lexer.specs.Tokens.{IsToken}
use Rattle.vtl_lexer.specs.declared.keyword.Keyword.{Keyword}
use Rattle.vtl_lexer.specs.declared.token.Sign.{Sign}
use Rattle.vtl_lexer.specs.declared.token.Sign.TheVariants as s
use Rattle.vtl_lexer.specs.declared.token.Token.{Token}
use Rattle.vtl_lexer.specs.declared.token.TokenKind.{TokenKind}
use Rattle.vtl_lexer.specs.declared.token.TokenKind.TheVariants as k
use Rattle.vtl_lexer.proofs.SearchLemmas.{IsRun}
use Rattle.vtl_lexer.proofs.SignLemmas.{one-found, two-found}
use Rattle.vtl_lexer.proofs.WordLemmas.{word-token}

pub data Piece : Type 0 where
  blank : (byte : ℕ) → Piece
  name : List ℕ → Piece
  keyword : Keyword → Piece
  sign : (byte : ℕ) → Piece
  long_sign : (first second : ℕ) → Piece

abbrev pub bytes_of : Piece → List ℕ
bytes_of (blank byte) = byte ∷ []
bytes_of (name word) = word
bytes_of (keyword word) = word_of word
bytes_of (sign byte) = byte ∷ []
bytes_of (long_sign first second) = first ∷ second ∷ []

abbrev pub text_of : List Piece → List ℕ
text_of [] = []
text_of (p ∷ ps) = bytes_of p ++ text_of ps

abbrev sign_or_hash : Option Sign → Sign
sign_or_hash found = unwrap_or found s.Hash

-- the tokens of one piece at a place, before others
abbrev token_of : TokenKind → (from to : ℕ) → Token
token_of kind from to = record { kind = kind; start = from; end = to }

abbrev with_token : Piece → (from to : ℕ) → List Token → List Token
with_token (blank byte) from to tokens = tokens
with_token (name word) from to tokens = token_of (k.Name word) from to ∷ tokens
with_token (keyword word) from to tokens = token_of (k.Keyword word) from to ∷ tokens
with_token (sign byte) from to tokens = token_of (k.Sign (sign_or_hash (sign_of_one byte))) from to ∷ tokens
with_token (long_sign first second) from to tokens = token_of (k.Sign (sign_or_hash (sign_of_two first second))) from to ∷ tokens

abbrev pub tokens_at : ℕ → List Piece → List Token
tokens_at at [] = []
tokens_at at (p ∷ ps) = with_token p at (at + length (bytes_of p)) (tokens_at (at + length (bytes_of p)) ps)

-- a sign begins with neither a letter nor a digit, nor with `'` or `"`
abbrev is_other : ℕ → Bool
is_other byte = not (is_ascii_alphabetic byte) && (not (is_ascii_digit byte) && (not (byte == 39) && not (byte == 34)))

-- a word of word characters before something else
abbrev is_apart : List ℕ → (rest : List ℕ) → Bool
is_apart word rest = begins_with is_ascii_alphabetic word && (list_all is_word_character word && not (begins_with is_word_character rest))

abbrev next_byte : List ℕ → ℕ
next_byte rest = unwrap_or (slice_get rest 0) 32

-- a piece is one before this rest
abbrev is_piece : Piece → (rest : List ℕ) → Bool
is_piece (blank byte) rest = is_white_space byte
is_piece (name word) rest = is_name word && is_apart word rest
is_piece (keyword word) rest = is_apart (word_of word) rest
is_piece (sign byte) rest = is_other byte && (is_some (sign_of_one byte) && (is_none (sign_of_two byte (next_byte rest)) && not (begins_comment byte (next_byte rest))))
is_piece (long_sign first second) rest = is_other first && is_some (sign_of_two first second)

abbrev pub are_pieces : List Piece → Bool
are_pieces [] = true
are_pieces (p ∷ ps) = is_piece p (text_of ps) && are_pieces ps

-- ---- a token at the front
take-front : (bytes rest : List ℕ) → take (length bytes) (bytes ++ rest) ≡ bytes
take-front [] rest = refl
take-front (byte ∷ bytes) rest = ap (λ l. byte ∷ l) (take-front bytes rest)

drop-front : (bytes rest : List ℕ) → drop (length bytes) (bytes ++ rest) ≡ rest
drop-front [] rest = refl
drop-front (byte ∷ bytes) rest = drop-front bytes rest

found-token : (kind : TokenKind) (bytes rest : List ℕ) → IsTokenOf (bytes ++ rest) (record { kind = kind; size = length bytes }) → IsToken kind bytes rest
found-token kind bytes rest of =
    subst (λ l. IsToken kind bytes l) (drop-front bytes rest) (subst (λ l. IsToken kind l (drop (length bytes) (bytes ++ rest))) (take-front bytes rest) of.token)

token-before : (at : ℕ) (kind : TokenKind) (bytes rest : List ℕ) (tokens : List Token) → IsToken kind bytes rest → Lexes (at + length bytes) rest tokens None
    → Lexes at (bytes ++ rest) (token_of kind at (at + length bytes) ∷ tokens) None
token-before at kind bytes rest tokens token more =
    behind_token at (bytes ++ rest) bytes rest (token_of kind at (at + length bytes)) tokens None refl token refl refl more

-- ---- words
letter-lead : (word rest : List ℕ) → begins_with is_ascii_alphabetic word ≡ true → lead_of (word ++ rest) ≡ lead_of (65 ∷ [])
letter-lead [] rest e = absurd (false≢true e)
letter-lead (byte ∷ word) rest e = rw e refl

apart-run : (word rest : List ℕ) → list_all is_word_character word ≡ true → begins_with is_word_character rest ≡ false → IsRun is_word_character (word ++ rest) (length word)
apart-run word rest all stops = record {
  within = omega (arith, length-append word rest);
  passes = subst (λ l. list_all is_word_character l ≡ true) (sym (take-front word rest)) all;
  stops = subst (λ l. begins_with is_word_character l ≡ false) (sym (drop-front word rest)) stops;
}

word-before : (kind : TokenKind) (word rest : List ℕ) → IsWordKind kind word → is_apart word rest ≡ true → IsToken kind word rest
word-before kind word rest is e =
    let a = and_parts (begins_with is_ascii_alphabetic word) (list_all is_word_character word && not (begins_with is_word_character rest)) e in
    let b = and_parts (list_all is_word_character word) (not (begins_with is_word_character rest)) a.1 in
    found-token kind word rest
    (word-token (word ++ rest) (length word) kind (letter-lead word rest a.0) (apart-run word rest b.0 (not-true (begins_with is_word_character rest) b.1))
    (subst (IsWordKind kind) (sym (take-front word rest)) is))

name-is : (word : List ℕ) → is_name word ≡ true → IsWordKind (k.Name word) word
name-is word e = record { spelled = (refl, e); goes_on = λ byte. refl }

keyword-is : (word : Keyword) → IsWordKind (k.Keyword word) (word_of word)
keyword-is word = record { spelled = refl; goes_on = λ byte. refl }

-- ---- signs
found-sign : (o : Option Sign) → is_some o ≡ true → o ≡ Some (sign_or_hash o)
found-sign None e = absurd (false≢true e)
found-sign (Some found) e = refl

found-none : (o : Option Sign) → is_none o ≡ true → o ≡ None
found-none None e = refl
found-none (Some found) e = absurd (false≢true e)

other-lead : (byte : ℕ) (rest : List ℕ) → is_other byte ≡ true → lead_of (byte ∷ rest) ≡ lead_of (40 ∷ [])
other-lead byte rest e =
    let a = and_parts (not (is_ascii_alphabetic byte)) (not (is_ascii_digit byte) && (not (byte == 39) && not (byte == 34))) e in
    let b = and_parts (not (is_ascii_digit byte)) (not (byte == 39) && not (byte == 34)) a.1 in
    let c = and_parts (not (byte == 39)) (not (byte == 34)) b.1 in
    rw (not-true (is_ascii_alphabetic byte) a.0, not-true (is_ascii_digit byte) b.0, not-true (byte == 39) c.0, not-true (byte == 34) c.1) refl

sign-before : (byte : ℕ) (rest : List ℕ) → is_piece (sign byte) rest ≡ true → IsToken (k.Sign (sign_or_hash (sign_of_one byte))) (byte ∷ []) rest
sign-before byte rest e =
    let second = next_byte rest in
    let a = and_parts (is_other byte) (is_some (sign_of_one byte) && (is_none (sign_of_two byte second) && not (begins_comment byte second))) e in
    let b = and_parts (is_some (sign_of_one byte)) (is_none (sign_of_two byte second) && not (begins_comment byte second)) a.1 in
    let c = and_parts (is_none (sign_of_two byte second)) (not (begins_comment byte second)) b.1 in
    found-token (k.Sign (sign_or_hash (sign_of_one byte))) (byte ∷ []) rest
    (one-found (byte ∷ rest) byte second (sign_or_hash (sign_of_one byte)) (other-lead byte rest a.0) refl refl (found-none (sign_of_two byte second) c.0)
    (not-true (begins_comment byte second) c.1) (found-sign (sign_of_one byte) b.0))

long-before : (first second : ℕ) (rest : List ℕ) → is_piece (long_sign first second) rest ≡ true → IsToken (k.Sign (sign_or_hash (sign_of_two first second))) (first ∷ second ∷ []) rest
long-before first second rest e =
    let a = and_parts (is_other first) (is_some (sign_of_two first second)) e in
    found-token (k.Sign (sign_or_hash (sign_of_two first second))) (first ∷ second ∷ []) rest
    (two-found (first ∷ second ∷ rest) first second (sign_or_hash (sign_of_two first second)) (other-lead first (second ∷ rest) a.0) refl refl (found-sign (sign_of_two first second) a.1))

-- ---- all pieces
piece-lexed : (at : ℕ) (p : Piece) (rest : List ℕ) (tokens : List Token) → is_piece p rest ≡ true → Lexes (at + length (bytes_of p)) rest tokens None
    → Lexes at (bytes_of p ++ rest) (with_token p at (at + length (bytes_of p)) tokens) None
piece-lexed at (blank byte) rest tokens e more = behind_gap at (byte ∷ rest) (byte ∷ []) rest tokens None refl (white_space byte refl e) more
piece-lexed at (name word) rest tokens e more =
    let a = and_parts (is_name word) (is_apart word rest) e in
    token-before at (k.Name word) word rest tokens (word-before (k.Name word) word rest (name-is word a.0) a.1) more
piece-lexed at (keyword word) rest tokens e more =
    token-before at (k.Keyword word) (word_of word) rest tokens (word-before (k.Keyword word) (word_of word) rest (keyword-is word) e) more
piece-lexed at (sign byte) rest tokens e more = token-before at (k.Sign (sign_or_hash (sign_of_one byte))) (byte ∷ []) rest tokens (sign-before byte rest e) more
piece-lexed at (long_sign first second) rest tokens e more =
    token-before at (k.Sign (sign_or_hash (sign_of_two first second))) (first ∷ second ∷ []) rest tokens (long-before first second rest e) more

pub pieces-lexed : (at : ℕ) (ps : List Piece) → are_pieces ps ≡ true → Lexes at (text_of ps) (tokens_at at ps) None
pieces-lexed at [] e = at_end at
pieces-lexed at (p ∷ ps) e =
    let a = and_parts (is_piece p (text_of ps)) (are_pieces ps) e in
    piece-lexed at p (text_of ps) (tokens_at (at + length (bytes_of p)) ps) a.0 (pieces-lexed (at + length (bytes_of p)) ps a.1)
