use Rattle.std.proofs.Common.{◌≡◌, sym, ◌∙◌}
use Rattle.std.proofs.lemmas.Str.{chars-nil}
use Rattle.check_rules.proofs.Columns.{hidden_is}
use Rattle.check_rules.proofs.conditions.seen_column.Goals as goal

pub returns : goal.returns
returns c = hidden_is c.in_ok-new.field-0 c.args.column.now c.args.names.now c.in_ok-share_codes.field-0 (sym c.is_among.ensures ∙ c.if-is_among.false) (c.in_ok-new.ensures ∙ chars-nil) c.in_ok-share_codes.ensures
