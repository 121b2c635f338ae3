use Rattle.std.proofs.Common.{◌≡◌, List, subst, sym}
use Rattle.vtl_lexer.specs.Lexed.{IsLexed}
use Rattle.vtl_lexer.specs.Parts.{tokens_of}
use Rattle.vtl_lexer.specs.declared.token.Token.{Token}
use Rattle.vtl_lexer.proofs.PartLemmas.{parts-lexed}
use Rattle.vtl_lexer.proofs.lexing.tokens_before_fault.Goals as goal

pub returns : goal.returns
returns c =
    let parted = c.in_ok-parts.field-0 in
    let same : c.of-tokens.result ≡ tokens_of parted.parts = cc (c.of-tokens.ensures, c.in_ok-tokens_of.ensures, c.into_vec.ensures, c.in_ok-parts.parts-is) in
    subst (λ (l : List Token). IsLexed c.args.text.now l parted.bad) (sym same) (parts-lexed c.in_ok-parts.ensures)
