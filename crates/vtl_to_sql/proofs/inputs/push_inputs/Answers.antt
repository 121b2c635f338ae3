use Rattle.std.proofs.Common.{map}
use Rattle.sql_tree.specs.View.{statement_tree}
use Rattle.vtl_to_sql.proofs.ReadNames.{is_read, read_more}
use Rattle.vtl_to_sql.proofs.inputs.push_inputs.Goals as goal

pub push_read-requires : goal.push_read-requires
push_read-requires c = is_read c.args.script.now c.inputs-name-items.result.now c.loop-name.name-index c.name-item.result c.inputs-name-items.ensures c.loop-name-test.true c.name-item.is

pub loop-name-preserved : goal.loop-name-preserved
loop-name-preserved c =
    read_more c.args.script.now c.inputs-name-items.result.now c.loop-name.name-index c.name-item.result (map statement_tree c.args.draft.now.statements.items) (map statement_tree c.loop-name.draft.statements.items)
    (map statement_tree c.push_read.new.draft.statements.items) c.inputs-name-items.ensures c.loop-name-test.true c.name-item.is c.loop-name.invariant c.in_ok-push_read.ensures
