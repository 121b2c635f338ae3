use Rattle.std.proofs.Common.{◌∙◌, ap, sym}
use Rattle.std.specs.Map.{lookup}
use Rattle.std.specs.Prelude.{option_and_then}
use Rattle.vtl_text.specs.Texts.{same_text}
use Rattle.sql_eval.proofs.SetNamed.{set_other}
use Rattle.sql_eval.proofs.group_columns.names_of.Goals as goal

pub returns-in-Some-clause-names : goal.returns-in-Some-clause-names
returns-in-Some-clause-names c = λ name. ap (option_and_then (λ l. lookup (same_text name) l)) (sym c.in-Some.is ∙ c.replace.ensures.before)

pub returns-in-Some-clause-others : goal.returns-in-Some-clause-others
returns-in-Some-clause-others c = λ other unlike. ap (lookup (same_text other)) c.replace.ensures.replaced ∙ set_other c.args.source.now other c.new.result c.args.places.now unlike

pub returns-in-None-clause-names : goal.returns-in-None-clause-names
returns-in-None-clause-names c = λ name. ap (lookup (same_text name)) c.new-in-None.ensures ∙ ap (option_and_then (λ l. lookup (same_text name) l)) (sym c.in-None.is ∙ c.replace.ensures.before)

pub returns-in-None-clause-others : goal.returns-in-None-clause-others
returns-in-None-clause-others c = λ other unlike. ap (lookup (same_text other)) c.replace.ensures.replaced ∙ set_other c.args.source.now other c.new.result c.args.places.now unlike
