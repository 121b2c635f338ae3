use Rattle.std.proofs.Common.{◌++◌, ◌∙◌, ap, sym}
use Rattle.vtl_grammar.proofs.UniqueLemmas.{statement_alone}
use Rattle.vtl_grammar.proofs.laws.statements_do_not_begin_each_other.Goals as goal

pub returns : goal.returns
returns c = λ ts more a b ha hb. (statement_alone a b more ha.each.0 hb.each.0 (ap (λ us. us ++ more) (sym ha.is) ∙ hb.is)).1
