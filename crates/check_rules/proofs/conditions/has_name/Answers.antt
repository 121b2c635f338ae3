use Rattle.std.proofs.Common.{◌==◌, length, ap, ◌∙◌}
use Rattle.std.specs.Prelude.{not}
use Rattle.check_rules.proofs.Columns.{some_bytes}
use Rattle.check_rules.proofs.conditions.has_name.Goals as goal

pub returns : goal.returns
returns c = ap not (c.is_empty.ensures ∙ ap (λ bs. length bs == 0) c.as_str.ensures.bytes) ∙ some_bytes c.args.name.now
