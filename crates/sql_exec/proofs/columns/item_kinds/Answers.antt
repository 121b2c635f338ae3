use Rattle.sql_tree.specs.View.{item_tree}
use Rattle.sql_exec.specs.Items.{IsKindKnown}
use Rattle.sql_exec.proofs.Steps.{holds_mapped}
use Rattle.sql_exec.proofs.columns.item_kinds.Goals as goal

pub value_kind-requires : goal.value_kind-requires
value_kind-requires g c = holds_mapped (IsKindKnown (g.N.Names.scope c.args.names.now)) item_tree c.args.items.now c.loop-item.item-index c.item-item.result c.requires c.loop-item-test.true c.item-item.is
