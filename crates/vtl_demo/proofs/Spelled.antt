-- The text is tokens, and they spell the tree.
use Rattle.std.proofs.Common.{◌≡◌, [], ◌∷◌, ◌++◌, List, None, true, arith, refl}
use Rattle.std.specs.Prelude.{codes}
use Rattle.vtl_lexer.specs.Lexed.{IsLexed}
use Rattle.vtl_lexer.specs.declared.keyword.Keyword.TheVariants as k
use Rattle.vtl_lexer.specs.declared.token.Token.{Token}
use Rattle.vtl_text.specs.Words.{is_name, is_reserved, is_word, reserved_words}
use Rattle.vtl_grammar.specs.Faults.{kinds}
use Rattle.vtl_grammar.specs.Fits.{Fits, InGrammar}
use Rattle.vtl_grammar.specs.Grammar.{tokens_of}
use Rattle.vtl_syntax.specs.Trees.{assignment}
use Rattle.vtl_syntax.specs.declared.word_groups.AssignKind.TheVariants as assigned
use Rattle.vtl_parser.specs.Parsed.{IsScript}
use Rattle.vtl_demo.specs.Script.{joined, multiplied, product, summed, text, tree}
use Rattle.vtl_demo.proofs.Pieces.{Piece, are_pieces, blank, keyword, long_sign, name, pieces-lexed, sign, text_of, tokens_at}

abbrev space : Piece
space = blank 32

abbrev line_feed : Piece
line_feed = blank 10

-- DS_j <- inner_join(D_A as a, D_B as b);
abbrev first_statement : List Piece
first_statement =
    name (codes "DS_j") ∷ space ∷ long_sign 60 45 ∷ space ∷ keyword k.InnerJoin ∷ sign 40
    ∷ name (codes "D_A") ∷ space ∷ keyword k.As ∷ space ∷ name (codes "a") ∷ sign 44
    ∷ space ∷ name (codes "D_B") ∷ space ∷ keyword k.As ∷ space ∷ name (codes "b") ∷ sign 41
    ∷ sign 59 ∷ line_feed ∷ []

-- DS_g <- sum(DS_j[calc measure v := Me_1 * Me_2][keep v] group by Id_2);
abbrev second_statement : List Piece
second_statement =
    name (codes "DS_g") ∷ space ∷ long_sign 60 45 ∷ space ∷ keyword k.Sum ∷ sign 40
    ∷ name (codes "DS_j") ∷ sign 91 ∷ keyword k.Calc ∷ space ∷ keyword k.Measure ∷ space ∷ name (codes "v") ∷ space ∷ long_sign 58 61 ∷ space
    ∷ name (codes "Me_1") ∷ space ∷ sign 42 ∷ space ∷ name (codes "Me_2") ∷ sign 93
    ∷ sign 91 ∷ keyword k.Keep ∷ space ∷ name (codes "v") ∷ sign 93
    ∷ space ∷ keyword k.Group ∷ space ∷ keyword k.By ∷ space ∷ name (codes "Id_2") ∷ sign 41
    ∷ sign 59 ∷ line_feed ∷ []

abbrev pieces : List Piece
pieces = first_statement ++ second_statement

put-together : text_of pieces ≡ text
put-together = refl

lawful : are_pieces pieces ≡ true
unfolding is_name is_word is_reserved reserved_words lib.Utf8.encode
lawful = refl

abbrev tokens : List Token
tokens = tokens_at 0 pieces

lexed : IsLexed text tokens None
lexed = pieces-lexed 0 pieces lawful

-- ---- the grammar
written : kinds tokens ≡ tokens_of tree
unfolding kinds
written = refl

first_fits : InGrammar (assignment (codes "DS_j") assigned.Persistent joined)
first_fits = record { fits = (omega arith, (tt, (tt, tt)), tt, tt, tt, tt, tt); shallow = omega arith }

product_fits : Fits product
product_fits = (omega arith, tt, omega arith, tt)

multiplied_fits : Fits multiplied
multiplied_fits = (omega arith, tt, (omega arith, (product_fits, tt)))

second_fits : InGrammar (assignment (codes "DS_g") assigned.Persistent summed)
second_fits = record { fits = ((omega arith, multiplied_fits, omega arith), omega arith, tt); shallow = omega arith }

pub spelled : IsScript text tree
spelled = record {
  tokens = tokens;
  bad = None;
  lexed = lexed;
  whole = record { whole = refl; spelled = record { is = written; each = (first_fits, (second_fits, tt)) } };
}
