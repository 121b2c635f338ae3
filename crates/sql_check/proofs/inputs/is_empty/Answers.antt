use Rattle.std.proofs.Common.{◌==◌, length, ap, ◌∙◌}
use Rattle.sql_check.proofs.Settled.{no_bytes}
use Rattle.sql_check.proofs.inputs.is_empty.Goals as goal

pub returns : goal.returns
returns c = c.is_empty.ensures ∙ ap (λ bs. length bs == 0) c.as_str.ensures.bytes ∙ no_bytes c.args.text.now
