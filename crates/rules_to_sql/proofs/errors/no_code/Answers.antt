use Rattle.std.proofs.Common.{ap, ◌∙◌}
use Rattle.std.proofs.lemmas.Result.{IfOk-weaker}
use Rattle.std.proofs.lemmas.Str.{chars-nil}
use Rattle.rules_to_sql.specs.Items.{null_like, text_as}
use Rattle.rules_to_sql.proofs.errors.no_code.Goals as goal

pub returns : goal.returns
returns c = IfOk-weaker c.null_like.result _ _ (λ e h. h ∙ ap null_like (c.in_ok-value.ensures ∙ ap text_as (c.in_ok-empty.ensures ∙ chars-nil))) c.null_like.ensures
