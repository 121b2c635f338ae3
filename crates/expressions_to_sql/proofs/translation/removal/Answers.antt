use Rattle.std.proofs.Common.{[], rules}
use Rattle.std.proofs.lemmas.Str.{chars-IsAscii}
use Rattle.std.proofs.lemmas.Str.Ascii.{IsAscii-nil}
use Rattle.expressions_to_sql.proofs.Views.{views}
use Rattle.expressions_to_sql.proofs.translation.removal.Goals as goal

pub returns : goal.returns
returns c =
    rw (c.call.ensures, c.in_ok-push-3.ensures.items, c.in_ok-push-2.ensures.items, c.in_ok-push.ensures.items, c.new-operands.ensures.items, c.in_ok-new.ensures, chars-IsAscii [] IsAscii-nil)
    (search (rules, views))
