use Rattle.std.proofs.Common.{ap, sym, ◌∙◌}
use Rattle.std.proofs.lemmas.Result.{IfOk-weaker}
use Rattle.std.proofs.lemmas.Str.{chars-nil}
use Rattle.expressions_to_sql.specs.ToSql.{column_of}
use Rattle.selects_to_sql.specs.Queries.{first_alias}
use Rattle.groups_to_sql.specs.Windowed.{argument_of}
use Rattle.groups_to_sql.proofs.window_calls.argument.Goals as goal

pub returns-in_ok-new-in-None : goal.returns-in_ok-new-in-None
returns-in_ok-new-in-None c =
    IfOk-weaker c.first-in-None.result _ _ (λ x e. e ∙ ap (column_of first_alias) (c.in_ok-new-in-None.ensures ∙ chars-nil) ∙ sym (ap argument_of c.in-None.is)) c.first-in-None.ensures
