use Rattle.std.proofs.Common.{◌∙◌}
use Rattle.sql_window.proofs.PutLemmas.{columns_more}
use Rattle.sql_window.proofs.keys.push_columns.Goals as goal

pub loop-column-preserved : goal.loop-column-preserved
loop-column-preserved c = c.in_ok-push.ensures.items ∙ columns_more c.args.all.now.items c.loop-column.all.items c.loop-column.column c.loop-column.invariant
