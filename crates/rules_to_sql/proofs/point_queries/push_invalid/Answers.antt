use Rattle.vtl_tree.specs.Shown.{shown}
use Rattle.selects_to_sql.specs.NamedItems.{own_columns}
use Rattle.selects_to_sql.proofs.NamedItems.{next_behind}
use Rattle.rules_to_sql.specs.Items.{errors_as}
use Rattle.rules_to_sql.proofs.point_queries.push_invalid.Goals as goal

pub returns : goal.returns
returns c =
    next_behind c.args.items.now.items c.push_own.new.items.items c.push_errors.new.items.items (own_columns (shown c.args.measures.now)) (errors_as c.args.rule.now.errorcode c.args.rule.now.errorlevel) (shown c.args.columns.now)
    c.in_ok-push_own.ensures c.in_ok-push_errors.ensures
