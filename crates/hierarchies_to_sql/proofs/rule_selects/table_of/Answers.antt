use Rattle.std.proofs.Common.{[], Option, unwrap_or, ap, sym, ◌∙◌}
use Rattle.std.specs.Option.{option_copied}
use Rattle.std.proofs.lemmas.Result.{IfOk-weaker}
use Rattle.std.proofs.lemmas.Str.{chars-nil}
use Rattle.sql_tree.specs.Trees.{Text}
use Rattle.hierarchies_to_sql.proofs.rule_selects.table_of.Goals as goal

pub returns-in-None : goal.returns-in-None
returns-in-None c = IfOk-weaker c.new.result _ _ (λ t e. e ∙ chars-nil ∙ ap (λ (o : Option Text). unwrap_or o []) (sym (ap option_copied c.in-None.is) ∙ c.get.ensures)) c.new.ensures
