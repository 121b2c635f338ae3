-- A text may be cut behind what was found at its front.
use Rattle.std.proofs.Common.{◌≡◌, ◌<◌, ◌∷◌, ◌++◌, ◌∙◌, ◌==◌, [], ℕ, List, Bool, true, false, not, nat_eq, cond, length, take, drop, codes, nat_lt, sym, ap, subst, refl, arith, IsUtf8}
use Rattle.std.specs.Char.{is_ascii_digit}
use Rattle.std.specs.List.{list_all, starts_with}
use Rattle.std.specs.Str.{IsCharBoundary}
use Rattle.std.proofs.lemmas.Bool.Decides.{nat_tests}
use Rattle.std.proofs.lemmas.List.{append-nil, length-take-le, take-append-drop}
use Rattle.std.proofs.lemmas.Str.{IsCharBoundary-end, IsCharBoundary-past_char, IsCharBoundary-start}
use lib.Utf8.{encode}
use borrow.Author.Tests.{ltb-true}
use Rattle.vtl_text.specs.Words.{is_word, is_word_character}
use Rattle.vtl_lexer.specs.Found.{IsGapOf, IsGapPieceOf, IsPieceOf, IsTokenOf}
use Rattle.vtl_lexer.specs.Gaps.{IsGap, block_comment, line_comment, white_space}
use Rattle.vtl_lexer.specs.Lexed.{mark_len}
use Rattle.vtl_lexer.specs.Leads.{lead_of}
use Rattle.vtl_lexer.specs.Spelling.{Spells, doubled, spelling}
use Rattle.vtl_lists.specs.Runs.{begins_with}
use Rattle.vtl_lexer.specs.Tokens.{NoToken}
use Rattle.vtl_lexer.specs.declared.finding.Piece.{Piece}
use Rattle.vtl_lexer.specs.declared.finding.Piece.TheVariants as p
use Rattle.vtl_lexer.specs.declared.lead.Lead.TheVariants.{Nothing}
use Rattle.vtl_lexer.specs.declared.token.Found.{Found}
use Rattle.vtl_lexer.specs.declared.token.Sign.{Sign}
use Rattle.vtl_lexer.specs.declared.token.Sign.TheVariants as s
use Rattle.vtl_lexer.specs.declared.token.TokenKind.{TokenKind}
use Rattle.vtl_lexer.specs.declared.token.TokenKind.TheVariants as k
use Rattle.vtl_lexer.proofs.CutLemmas.{EndsAscii, cut-before, cut-behind, digit-ascii, ends-all, ends-append, ends-more, word-ascii}
use Rattle.vtl_lexer.proofs.GapSearchLemmas.{start-splits}
use Rattle.vtl_lexer.proofs.ReservedLemmas.{keyword-word}
use Rattle.vtl_lexer.proofs.SpellingLemmas.{front-lead, lead-some, name-word, spelled-some, word-characters}

one-end : (byte : ℕ) → byte < 128 → EndsAscii (byte ∷ [])
one-end byte ascii = record { front = []; last = byte; is = refl; ascii = ascii }

sign-ascii : (sign : Sign) → list_all (λ byte. nat_lt byte 128) (spelling sign) ≡ true
sign-ascii s.Assign = refl
sign-ascii _ = refl

word-ends : (bytes : List ℕ) → 0 < length bytes → is_word bytes ≡ true → EndsAscii bytes
word-ends bytes some word = ends-all is_word_character bytes word-ascii some (word-characters bytes word)

same-ends : (xs ys : List ℕ) → xs ≡ ys → EndsAscii ys → EndsAscii xs
same-ends xs ys e ends = subst EndsAscii (sym e) ends

pub spelled-ends : (kind : TokenKind) (bytes : List ℕ) → 0 < length bytes → Spells kind bytes → EndsAscii bytes
spelled-ends (k.Name word) bytes some h = word-ends bytes some (subst (λ w. is_word w ≡ true) (sym h.0) (name-word word h.1).0)
spelled-ends (k.Keyword keyword) bytes some h = word-ends bytes some (keyword-word keyword bytes h)
spelled-ends (k.QuotedName name) bytes some h = same-ends bytes _ h.1 (ends-more 39 (h.0 ++ 39 ∷ []) (ends-append h.0 (39 ∷ []) (one-end 39 (omega arith))))
spelled-ends (k.Integer digits) bytes some h = same-ends bytes digits h.0 (ends-all is_ascii_digit digits digit-ascii h.1.0 h.1.1)
spelled-ends (k.Decimal number) bytes some h =
    let (whole, part, is, parts, d, f) = h in
    same-ends bytes (whole ++ 46 ∷ part) (is ∙ parts) (ends-append whole (46 ∷ part) (ends-more 46 part (ends-all is_ascii_digit part digit-ascii f.0 f.1)))
spelled-ends (k.String text) bytes some h = same-ends bytes _ h.1 (ends-more 34 (doubled h.0 ++ 34 ∷ []) (ends-append (doubled h.0) (34 ∷ []) (one-end 34 (omega arith))))
spelled-ends (k.Sign sign) bytes some h =
    same-ends bytes (spelling sign) h (ends-all (λ byte. nat_lt byte 128) (spelling sign) (λ byte e. ltb-true byte 128 e) (omega (arith, some, ap length h)) (sign-ascii sign))

pub token-cut : (text : List ℕ) (found : Found) → IsUtf8 text → IsTokenOf text found → IsCharBoundary text found.size
token-cut text found u of =
    let bytes = take found.size text in
    let spelled = of.token.spelled in
    subst (IsCharBoundary text) (length-take-le found.size text of.within)
    (cut-behind text bytes (drop found.size text) u (sym (take-append-drop found.size text)) (spelled-ends found.kind bytes (spelled-some found.kind bytes spelled) spelled))

line-cut : (text bytes rest : List ℕ) → text ≡ bytes ++ rest → begins_with (λ byte. not (byte == 10)) rest ≡ false → IsCharBoundary text (length bytes)
line-cut text bytes [] e stops = subst (IsCharBoundary text) (ap length (e ∙ append-nil bytes)) (IsCharBoundary-end text)
line-cut text bytes (byte ∷ rest) e stops =
    let feed : byte ≡ 10 = grind (arith, nat_tests, stops) in
    cut-before text bytes rest byte e (omega arith)

pub gap-cut-of : (text bytes rest : List ℕ) → IsUtf8 text → text ≡ bytes ++ rest → IsGap bytes rest → IsCharBoundary text (length bytes)
gap-cut-of text bytes rest u e (white_space byte is white) =
    let ascii : byte < 128 = grind (arith, nat_tests, white) in
    cut-behind text bytes rest u e (same-ends bytes (byte ∷ []) is (one-end byte ascii))
gap-cut-of text bytes rest u e (line_comment inner is lacks stops) = line-cut text bytes rest e stops
gap-cut-of text bytes rest u e (block_comment inner is none) =
    cut-behind text bytes rest u e (same-ends bytes _ is (ends-append (codes "/*") (inner ++ codes "*/") (ends-append inner (codes "*/") (ends-more 42 (47 ∷ []) (one-end 47 (omega arith))))))

pub gap-cut : (text : List ℕ) (size : ℕ) → IsUtf8 text → IsGapOf text size → IsCharBoundary text size
gap-cut text size u of =
    subst (IsCharBoundary text) (length-take-le size text of.within) (gap-cut-of text (take size text) (drop size text) u (sym (take-append-drop size text)) of.gap)

-- a gap is white space or a comment
pub gap-piece : (text : List ℕ) (size : ℕ) (piece : Piece) → IsGapOf text size → IsCharBoundary text size → IsGapPieceOf text size piece → IsPieceOf text piece
gap-piece text size (p.Space n) of cut is =
    subst (λ m. IsPieceOf text (p.Space m)) (sym is.0) (record { gap = of; plain = is.1 }, cut)
gap-piece text size (p.Comment n content) of cut is =
    subst (λ m. IsPieceOf text (p.Comment m content)) (sym is.0) (record { gap = of; marked = is.1; kept = is.2 }, cut)
gap-piece text size (p.Token found) of cut is = absurd is
gap-piece text size p.Fault of cut is = absurd is

-- nothing starts in an empty text
pub nothing-starts : (text : List ℕ) → lead_of text ≡ Nothing → NoToken text
nothing-starts text lead kind bytes rest e token = lead-some kind (sym (front-lead kind text bytes rest e token.spelled) ∙ lead)

-- the mark is a character
mark-bytes : encode 0xFEFF ≡ 0xEF ∷ 0xBB ∷ 0xBF ∷ []
unfolding encode
mark-bytes = refl

pub mark-cut : (text : List ℕ) → IsUtf8 text → IsCharBoundary text (mark_len text)
mark-cut text u = by (starts_with nat_eq text (0xEF ∷ 0xBB ∷ 0xBF ∷ [])) refl
  where
    by : (b : Bool) → starts_with nat_eq text (0xEF ∷ 0xBB ∷ 0xBF ∷ []) ≡ b → IsCharBoundary text (cond b 3 0)
    by true e =
        IsCharBoundary-past_char text (drop 3 text) 0 0xFEFF (omega arith) u (start-splits text (0xEF ∷ 0xBB ∷ 0xBF ∷ []) e ∙ ap (λ l. l ++ drop 3 text) (sym mark-bytes))
    by false e = IsCharBoundary-start text u
