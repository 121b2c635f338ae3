use Rattle.std.proofs.Common.{◌∷◌}
use Rattle.vtl_tree.specs.NodeView.{point_rule_tree}
use Rattle.vtl_tree.specs.Shown.{shown}
use Rattle.selects_to_sql.specs.NamedItems.{own_columns}
use Rattle.selects_to_sql.proofs.NamedItems.{next_behind}
use Rattle.rules_to_sql.specs.Items.{errors_as_at, truth_as}
use Rattle.rules_to_sql.proofs.point_queries.push_measured.Goals as goal

pub returns : goal.returns
returns c =
    let rule = c.args.rule.now in
    let truth = truth_as c.args.writer.now (point_rule_tree rule) in
    next_behind c.args.items.now.items c.push_own.new.items.items c.push_truth.new.items.items (own_columns (shown c.args.measures.now)) (truth ∷ errors_as_at truth rule.errorcode rule.errorlevel) (shown c.args.columns.now)
    c.in_ok-push_own.ensures c.in_ok-push_truth.ensures
