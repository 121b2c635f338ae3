-- The canonical text has the tokens and the comments of the text, and is its own.
use Rattle.std.proofs.Common.{◌≡◌, ◌∷◌, ◌∙◌, [], ℕ, List, None, false, sym, ap, subst, refl}
use Rattle.std.specs.List.{slice_range}
use Rattle.vtl_lexer.specs.Lexed.{IsLexed}
use Rattle.vtl_lexer.specs.Parts.{HasParts, tokens_of}
use Rattle.vtl_lexer.specs.Pieces.{Piece, pieces_of}
use Rattle.vtl_lexer.specs.declared.parts.Part.{Part}
use Rattle.vtl_lexer.specs.declared.parts.Part.TheVariants as p
use Rattle.vtl_lexer.specs.declared.token.Token.{Token}
use Rattle.vtl_lexer.proofs.LexedLemmas.{lexed-once}
use Rattle.vtl_lexer.proofs.PartLemmas.{parts-lexed, parts-once}
use Rattle.vtl_lexer.proofs.PieceLemmas.{parts-writable, stands-parts}
use Rattle.vtl_format.specs.Form.{IsFormOf, form_of, form_of_pieces, lexeme, lexemes, lexemes_at, remarks}
use Rattle.vtl_format.specs.Written.{written}
use Rattle.vtl_format.proofs.Orders.{lexemes-order, order, remarks-order, written-form, written-stands}

pub written-is_form : (pieces : List Piece) → written false [] pieces ≡ form_of_pieces pieces
written-is_form pieces = written-form false 0 [] pieces

-- what a canonical text is, read again
pub record Again (text out : List ℕ) : Type 0 where
  pub parts : List Part
  pub has : HasParts text parts None
  pub others : List Part
  pub again : HasParts out others None
  pub lexemes_are : lexemes (pieces_of out others) ≡ lexemes (pieces_of text parts)
  pub remarks_are : remarks (pieces_of out others) ≡ remarks (pieces_of text parts)
  pub is : out ≡ form_of_pieces (pieces_of text parts)

pub form-again : (text out : List ℕ) → IsFormOf text out → Again text out
form-again text out (parts, has, is) =
    let pieces = pieces_of text parts in
    let whole : out ≡ written false [] pieces = is ∙ sym (written-is_form pieces) in
    let stands = written-stands false [] pieces tt (parts-writable text parts None has) in
    let read = stands-parts (written false [] pieces) (order false [] pieces) stands in
    record {
      parts = parts;
      has = has;
      others = read.0;
      again = subst (λ l. HasParts l read.0 None) (sym whole) read.1;
      lexemes_are = ap (λ l. lexemes (pieces_of l read.0)) whole ∙ ap lexemes read.2 ∙ lexemes-order false [] pieces;
      remarks_are = ap (λ l. remarks (pieces_of l read.0)) whole ∙ ap remarks read.2 ∙ remarks-order false 0 [] pieces tt refl;
      is = is;
    }

-- ---- tokens

lexemes-parts : (text : List ℕ) (parts : List Part) → lexemes (pieces_of text parts) ≡ lexemes_at text (tokens_of parts)
lexemes-parts text [] = refl
lexemes-parts text (p.Token token ∷ parts) = ap (λ l. lexeme token.kind (slice_range text token.start token.end) ∷ l) (lexemes-parts text parts)
lexemes-parts text (p.Comment comment ∷ parts) = lexemes-parts text parts

pub same-tokens : (text out : List ℕ) (tokens : List Token) → IsFormOf text out → IsLexed text tokens None
    → (others : List Token) × IsLexed out others None × (lexemes_at out others ≡ lexemes_at text tokens)
same-tokens text out tokens form lexed =
    let again = form-again text out form in
    let same = lexed-once text (tokens_of again.parts) tokens None None (parts-lexed again.has) lexed in (
      tokens_of again.others,
      parts-lexed again.again,
      sym (lexemes-parts out again.others) ∙ again.lexemes_are ∙ lexemes-parts text again.parts ∙ ap (lexemes_at text) same.0,
    )

-- ---- comments

pub same-comments : (text out : List ℕ) (parts : List Part) → IsFormOf text out → HasParts text parts None
    → (others : List Part) × HasParts out others None × (remarks (pieces_of out others) ≡ remarks (pieces_of text parts))
same-comments text out parts form has =
    let again = form-again text out form in
    let same = parts-once text again.parts parts None None again.has has in
    (again.others, again.again, again.remarks_are ∙ ap (λ l. remarks (pieces_of text l)) same.0)

-- ---- one text

pub forms-alike : (a b out other : List ℕ) (parts others : List Part) → HasParts a parts None → HasParts b others None → lexemes (pieces_of a parts) ≡ lexemes (pieces_of b others)
    → remarks (pieces_of a parts) ≡ remarks (pieces_of b others) → IsFormOf a out → IsFormOf b other → out ≡ other
forms-alike a b out other parts others has has' same_lexemes same_remarks (parts', held, is) (others', held', is') =
    let first = parts-once a parts' parts None None held has in
    let second = parts-once b others' others None None held' has' in
    let left : out ≡ form_of_pieces (pieces_of a parts) = is ∙ ap (λ l. form_of_pieces (pieces_of a l)) first.0 in
    let right : other ≡ form_of_pieces (pieces_of b others) = is' ∙ ap (λ l. form_of_pieces (pieces_of b l)) second.0 in
    left ∙ ap (λ l. form_of l (remarks (pieces_of a parts))) same_lexemes ∙ ap (form_of (lexemes (pieces_of b others))) same_remarks ∙ sym right

pub forms-once : (text out other : List ℕ) → IsFormOf text out → IsFormOf text other → out ≡ other
forms-once text out other form form' = forms-alike text text out other form.0 form.0 form.1 form.1 refl refl form form'

pub form-stable : (text out : List ℕ) → IsFormOf text out → IsFormOf out out
form-stable text out form =
    let again = form-again text out form in (
      again.others,
      again.again,
      again.is ∙ ap (λ l. form_of l (remarks (pieces_of text again.parts))) (sym again.lexemes_are) ∙ ap (form_of (lexemes (pieces_of out again.others))) (sym again.remarks_are),
    )

pub form-only : (text out other : List ℕ) → IsFormOf text out → IsFormOf out other → other ≡ out
form-only text out other form form' = forms-once out other out form' (form-stable text out form)
