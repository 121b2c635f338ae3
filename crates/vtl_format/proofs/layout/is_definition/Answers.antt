use Rattle.std.proofs.Common.{◌∙◌, ap, sym}
use Rattle.vtl_lists.proofs.Filters.{nothing_left}
use Rattle.vtl_format.specs.Form.{lexemes_at}
use Rattle.vtl_format.specs.Layout.{is_definition}
use Rattle.vtl_format.proofs.layout.is_definition.Goals as goal

pub returns-in-Some : goal.returns-in-Some
returns-in-Some c = λ text. c.is_define.ensures ∙ ap (λ l. is_definition (lexemes_at text l)) (sym c.in-Some.ensures.cases.0)

pub returns-in-None : goal.returns-in-None
returns-in-None c = λ text. ap (λ l. is_definition (lexemes_at text l)) (sym (nothing_left c.args.tokens.now c.in-None.ensures.cases))
