use Rattle.std.proofs.Common.{◌≡◌, ◌∙◌, arith, drop, subst, take}
use Rattle.std.proofs.lemmas.Grind.{common_steps}
use Rattle.vtl_lexer.specs.Strings.{EndsNowhere, IsLongestEnd}
use Rattle.vtl_lexer.proofs.LeadLemmas.{double-first}
use Rattle.vtl_lexer.proofs.QuoteLemmas.{cut-first, end-front, string-token, string-unclosed}
use Rattle.vtl_lexer.proofs.UndoubleLemmas.{undouble}
use Rattle.vtl_lexer.proofs.quotes.string.Goals as goal

pub range_from-inner-requires : goal.range_from-inner-requires
range_from-inner-requires c = λ _. cut-first c.args.text.now (drop 1 c.args.text.now) 34 c.utf8.text (double-first c.args.text.now c.requires) (omega arith)

pub returns-in_default : goal.returns-in_default
returns-in_default c =
    let inner : c.as_bytes.result.now ≡ drop 1 c.args.text.now = grind (arith, common_steps) in
    string-unclosed c.args.text.now c.requires (subst EndsNowhere inner c.in_default.ensures)

pub returns : goal.returns
returns c =
    let size = c.in-Some.size in
    let inner : c.as_bytes.result.now ≡ drop 1 c.args.text.now = grind (arith, common_steps) in
    let raw : c.range.result.now ≡ take size (drop 1 c.args.text.now) = grind (arith, common_steps) in
    let found : IsLongestEnd (drop 1 c.args.text.now) size = subst (λ l. IsLongestEnd l size) inner c.in-Some.ensures in
    string-token c.args.text.now c.in_ok-replace.field-0 size c.requires found
    (undouble found.ends.inner c.range.result.now c.in_ok-replace.field-0 c.range.utf8 (raw ∙ end-front (drop 1 c.args.text.now) size found.ends) c.in_ok-replace.ensures)
