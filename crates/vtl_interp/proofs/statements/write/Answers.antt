use Rattle.vtl_interp.proofs.Writes.{persistent_behind}
use Rattle.vtl_interp.proofs.statements.write.Goals as goal

pub returns-in_ok-share_table-in-Persistent : goal.returns-in_ok-share_table-in-Persistent
returns-in_ok-share_table-in-Persistent c =
    persistent_behind c.args.kind c.args.name.now c.in_ok-share-in-Persistent.field-0 c.args.made.now c.in_ok-share_table-in-Persistent.field-0 c.args.outputs.now c.put_shared.new.self c.put_shared.result
    c.in-Persistent.is c.in_ok-share-in-Persistent.ensures c.in_ok-share_table-in-Persistent.ensures.table c.in_ok-share_table-in-Persistent.ensures.points c.put_shared.ensures.put
