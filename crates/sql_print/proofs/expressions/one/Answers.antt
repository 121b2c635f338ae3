use Rattle.std.proofs.Common.{refl}
use Rattle.std.specs.Str.{chars}
use Rattle.sql_print.proofs.expressions.one.Goals as goal

pub returns : goal.returns
unfolding chars
returns c = rw (c.in_ok-push.ensures.items, c.in_ok-digit.ensures) refl
