use Rattle.std.proofs.Common.{[], ap, map}
use Rattle.vtl_tree.specs.Shown.{shown}
use Rattle.sql_tree.specs.View.{item_tree}
use Rattle.selects_to_sql.specs.NamedItems.{own_columns}
use Rattle.groups_to_sql.proofs.pivot_queries.coded_values.Goals as goal

pub returns : goal.returns
returns c = c.in_ok-push_coded.ensures (own_columns (shown c.args.others.now)) (c.in_ok-push_own.ensures [] (ap (map item_tree) c.in_ok-items.ensures.items))
