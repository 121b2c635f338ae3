use Rattle.std.proofs.Common.{◌<◌, ◌^◌, ◌∙◌, ap, arith}
use Rattle.std.specs.Fmt.{decimal}
use Rattle.std.specs.Str.{chars}
use Rattle.std.proofs.lemmas.Fmt.{IsAscii-decimal}
use Rattle.std.proofs.lemmas.Result.{IfOk-weaker}
use Rattle.std.proofs.lemmas.Str.{chars-IsAscii}
use Rattle.vtl_to_sql.proofs.script.scale.Goals as goal

pub returns-clause-text : goal.returns-clause-text
returns-clause-text c =
    let n = c.scale.result in
    let small : n < 2 ^ 64 = omega (arith, c.scale.ensures.in_range) in
    IfOk-weaker c.new.result _ _ (λ t e. e ∙ ap chars (c.deref.ensures ∙ c.in_ok-digits.ensures.ok) ∙ chars-IsAscii (decimal n) (IsAscii-decimal n small) ∙ ap decimal c.scale.ensures.value) c.new.ensures
