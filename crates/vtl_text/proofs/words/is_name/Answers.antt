use Rattle.std.proofs.Common.{ap, not, sym, ◌∙◌, chars}
use Rattle.vtl_text.specs.Words.{is_word, is_reserved, is_name}
use Rattle.vtl_text.proofs.WordTests.{two_pass, first_fails}
use Rattle.vtl_text.proofs.words.is_name.Goals as goal

pub returns-then-is_word : goal.returns-then-is_word
unfolding is_name
returns-then-is_word c =
    let cs = chars c.args.text.now in
    ap not c.is_reserved.ensures ∙ two_pass (is_word cs) (not (is_reserved cs)) (sym c.is_word.ensures ∙ c.if-is_word.true)

pub returns-else-is_word : goal.returns-else-is_word
unfolding is_name
returns-else-is_word c =
    let cs = chars c.args.text.now in
    c.if-is_word.false ∙ first_fails (is_word cs) (not (is_reserved cs)) (sym c.is_word.ensures ∙ c.if-is_word.false)
