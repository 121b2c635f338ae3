use Rattle.std.proofs.Common.{◌≡◌, ◌∙◌, ap, arith, chars, drop, false, true, sym, subst, take}
use Rattle.std.proofs.lemmas.Grind.{common_steps}
use Rattle.vtl_text.specs.Words.{is_component_name}
use Rattle.vtl_lexer.specs.Searches.{StandsFirst}
use Rattle.vtl_lexer.specs.Spelling.{Lacks}
use Rattle.vtl_lexer.proofs.LeadLemmas.{quote-first}
use Rattle.vtl_lexer.proofs.QuoteLemmas.{cut-first, quote-token, quote-unclosed, quote-unfit}
use Rattle.vtl_lexer.proofs.quotes.quoted_name.Goals as goal

pub range_from-inner-requires : goal.range_from-inner-requires
range_from-inner-requires c = λ _. cut-first c.args.text.now (drop 1 c.args.text.now) 39 c.utf8.text (quote-first c.args.text.now c.requires) (omega arith)

pub returns-in_default : goal.returns-in_default
returns-in_default c =
    let inner : c.as_bytes.result.now ≡ drop 1 c.args.text.now = grind (arith, common_steps) in
    quote-unclosed c.args.text.now c.requires (subst (Lacks 39) inner c.in_default.ensures)

pub returns-then-not-is_component_name : goal.returns-then-not-is_component_name
returns-then-not-is_component_name c =
    let size = c.in-Some.size in
    let inner : c.as_bytes.result.now ≡ drop 1 c.args.text.now = grind (arith, common_steps) in
    let name : c.range-name.result.now ≡ take size (drop 1 c.args.text.now) = grind (arith, common_steps) in
    let unfit : is_component_name (chars (take size (drop 1 c.args.text.now))) ≡ false = ap (λ l. is_component_name (chars l)) (sym name) ∙ sym c.is_component_name.ensures ∙ c.if-not-is_component_name.true in
    quote-unfit c.args.text.now size c.requires (subst (λ l. StandsFirst 39 l size) inner c.in-Some.ensures) unfit

pub returns : goal.returns
returns c =
    let size = c.in-Some.size in
    let inner : c.as_bytes.result.now ≡ drop 1 c.args.text.now = grind (arith, common_steps) in
    let name : c.range-name.result.now ≡ take size (drop 1 c.args.text.now) = grind (arith, common_steps) in
    let fits : is_component_name (chars (take size (drop 1 c.args.text.now))) ≡ true = ap (λ l. is_component_name (chars l)) (sym name) ∙ sym c.is_component_name.ensures ∙ c.if-not-is_component_name.false in
    quote-token c.args.text.now c.in_ok-new.field-0 size c.requires (subst (λ l. StandsFirst 39 l size) inner c.in-Some.ensures) fits (c.in_ok-new.ensures ∙ ap chars name)
