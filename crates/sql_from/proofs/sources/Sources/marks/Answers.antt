use Rattle.vtl_rows.specs.Tables.{listed}
use Rattle.sql_from.specs.Sources.{parts_of}
use Rattle.sql_from.proofs.Parted.{marks_more}
use Rattle.sql_from.proofs.sources.Sources.marks.Goals as goal

pub loop-i-preserved : goal.loop-i-preserved
loop-i-preserved c =
    marks_more (parts_of c.args.self.now.sources) c.loop-i.i (listed c.table.result.now) c.len-in-loop-i.result c.loop-i.marks.items c.push.new.self.items
    c.table.ensures.source c.len-in-loop-i.ensures.rows c.loop-i.invariant c.in_ok-push.ensures.items
