use Rattle.std.proofs.Common.{◌≡◌, ◌∙◌, ap, subst}
use Rattle.std.specs.Prelude.{IfOk, chars}
use Rattle.std.proofs.lemmas.Str.{IsUtf8-from_ascii, chars-IsAscii}
use Rattle.expressions_to_sql.proofs.texts.text_of.Goals as goal

pub unreachable-requires : goal.unreachable-requires
unreachable-requires c = c.in-Err.ensures.cases.0 (IsUtf8-from_ascii c.args.bytes.now c.requires)

pub returns : goal.returns
returns c = subst (λ cs. IfOk c.new.result (λ t. t ≡ cs)) (ap chars c.in-Ok.ensures.cases.0 ∙ chars-IsAscii c.args.bytes.now c.requires) c.new.ensures
