use Rattle.sql_from.proofs.Parted.{picks_more}
use Rattle.sql_from.proofs.sources.push_picks.Goals as goal

pub loop-column-preserved : goal.loop-column-preserved
loop-column-preserved c = picks_more c.args.part c.loop-column.column c.args.picks.now.items c.loop-column.picks.items c.push.new.self.items c.loop-column.invariant c.in_ok-push.ensures.items
